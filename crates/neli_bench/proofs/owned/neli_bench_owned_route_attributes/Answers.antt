use Rattle.neli_bench.proofs.Sums.{sum_end}
use Rattle.neli_bench.proofs.owned.neli_bench_owned_route_attributes.Goals as goal

pub returns-clause-sum : goal.returns-clause-sum
returns-clause-sum c = λ _. sum_end _ _ _ _ c.loop-item.invariant c.in_default.ensures.cut
