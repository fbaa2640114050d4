use Rattle.neli_runs.proofs.Alike.{alike_live, alike_open}
use Rattle.neli_runs.proofs.Regrouping.{regrouped-alike, regrouped-deliveries}
use Rattle.neli_runs.proofs.laws.regrouping_leaves_deliveries.Goals as goal

pub returns-clause-deliveries : goal.returns-clause-deliveries
returns-clause-deliveries g c = λ port k groups bs cs before later.
    regrouped-deliveries port k groups bs cs before later

pub returns-clause-live : goal.returns-clause-live
returns-clause-live g c = λ k groups bs cs before later. alike_live k _ _ (regrouped-alike groups bs cs before later)

pub returns-clause-open : goal.returns-clause-open
returns-clause-open g c = λ q groups bs cs before later. alike_open q _ _ (regrouped-alike groups bs cs before later)
