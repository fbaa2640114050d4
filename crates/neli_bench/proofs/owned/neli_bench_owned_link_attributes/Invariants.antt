use Rattle.std.proofs.Common.{length}
use Rattle.neli_bench.specs.Walks.{link_cut, link_adds}
use Rattle.neli_bench.proofs.Sums.{IsSumSoFar}
use Rattle.neli_bench.proofs.owned.neli_bench_owned_link_attributes.Given as goal

abbrev pub invariant-loop-item : goal.invariant-loop-item
invariant-loop-item l = IsSumSoFar link_adds (link_cut l.fn.bytes) (link_cut l.messages) l.sum

abbrev pub decreases-loop-item : goal.decreases-loop-item
decreases-loop-item l = length l.messages
