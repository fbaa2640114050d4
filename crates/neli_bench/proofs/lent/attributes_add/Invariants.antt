use Rattle.std.proofs.Common.{length}
use Rattle.neli_lent.specs.Attributes.{attributes_at}
use Rattle.neli_lent.specs.Walks.{items_of}
use Rattle.neli_bench.specs.Walks.{type_and_length}
use Rattle.neli_bench.proofs.Items.{IsItemSum}
use Rattle.neli_bench.proofs.lent.attributes_add.Given as goal

abbrev pub invariant-loop-item : goal.invariant-loop-item
invariant-loop-item l = IsItemSum (λ a. type_and_length a.0.kind a.1)
    (items_of (attributes_at (λ n. n) l.fn.attributes)) (items_of (attributes_at (λ n. n) l.attributes)) l.total

abbrev pub decreases-loop-item : goal.decreases-loop-item
decreases-loop-item l = length (items_of (attributes_at (λ n. n) l.attributes))
