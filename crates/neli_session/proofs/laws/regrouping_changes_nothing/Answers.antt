use Rattle.neli_session.proofs.Regrouped.{regrouped}
use Rattle.neli_session.proofs.laws.regrouping_changes_nothing.Goals as goal

pub returns : goal.returns
returns c = regrouped
