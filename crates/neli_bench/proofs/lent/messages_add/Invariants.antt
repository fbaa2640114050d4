use Rattle.std.proofs.Common.{length}
use Rattle.neli_lent.specs.Walks.{items_of}
use Rattle.neli_bench.specs.Walks.{lent_adds, lent_cut}
use Rattle.neli_bench.proofs.Items.{IsItemSum}
use Rattle.neli_bench.proofs.lent.messages_add.Given as goal

abbrev pub invariant-loop-item : goal.invariant-loop-item
invariant-loop-item g l = IsItemSum (lent_adds g.B.Header.header) (items_of (lent_cut l.fn.bytes))
    (items_of (lent_cut l.messages)) l.sum

abbrev pub decreases-loop-item : goal.decreases-loop-item
decreases-loop-item g l = length (items_of (lent_cut l.messages))
