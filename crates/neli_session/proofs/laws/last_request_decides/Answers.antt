use Rattle.neli_session.proofs.Current.{last_decides}
use Rattle.neli_session.proofs.laws.last_request_decides.Goals as goal

pub returns : goal.returns
returns c = last_decides
