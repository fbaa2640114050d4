use Rattle.neli_session.proofs.Current.{stale_stays}
use Rattle.neli_session.proofs.laws.unrequested_is_stale.Goals as goal

pub returns : goal.returns
returns c = stale_stays
