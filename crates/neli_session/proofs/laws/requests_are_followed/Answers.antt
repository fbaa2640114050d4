use Rattle.neli_session.proofs.Followed.{requests_followed}
use Rattle.neli_session.proofs.laws.requests_are_followed.Goals as goal

pub returns : goal.returns
returns c = requests_followed
