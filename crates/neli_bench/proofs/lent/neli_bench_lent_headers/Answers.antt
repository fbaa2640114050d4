use Rattle.neli_bench.proofs.Items.{items_end, items_fault}
use Rattle.neli_bench.proofs.lent.neli_bench_lent_headers.Goals as goal

pub returns-in_default-item-clause-fault : goal.returns-in_default-item-clause-fault
returns-in_default-item-clause-fault c =
    λ _. items_fault _ _ _ _ _ _ c.loop-item.invariant (rw c.in_default-item.is at c.in-Some.ensures.steps)

pub returns-clause-sum : goal.returns-clause-sum
returns-clause-sum c = λ _. items_end _ _ _ _ c.loop-item.invariant c.in_default.ensures.steps.0
