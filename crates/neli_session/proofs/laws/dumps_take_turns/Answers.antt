use Rattle.neli_session.proofs.Calls.{dumps_take_turns}
use Rattle.neli_session.proofs.laws.dumps_take_turns.Goals as goal

pub returns : goal.returns
returns c = dumps_take_turns
