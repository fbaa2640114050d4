use Rattle.neli_runs.specs.laws.Deliveries.{deliveries-more}
use Rattle.neli_runs.proofs.laws.deliveries_only_grow.Goals as goal

pub returns : goal.returns
returns g c = λ port k command o h. (_, deliveries-more port k (command, o) h)
