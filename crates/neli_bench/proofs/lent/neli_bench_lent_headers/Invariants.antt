use Rattle.std.proofs.Common.{length}
use Rattle.neli_lent.specs.Walks.{items_of}
use Rattle.neli_bench.specs.Walks.{lent_cut, lent_stated_length}
use Rattle.neli_bench.proofs.Items.{IsItemSum}
use Rattle.neli_bench.proofs.lent.neli_bench_lent_headers.Given as goal

abbrev pub invariant-loop-item : goal.invariant-loop-item
invariant-loop-item l = IsItemSum lent_stated_length (items_of (lent_cut l.fn.bytes))
    (items_of (lent_cut l.messages)) l.sum

abbrev pub decreases-loop-item : goal.decreases-loop-item
decreases-loop-item l = length (items_of (lent_cut l.messages))
