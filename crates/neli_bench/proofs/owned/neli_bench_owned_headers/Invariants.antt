use Rattle.std.proofs.Common.{length}
use Rattle.neli_bench.specs.Walks.{raw_cut, stated_length}
use Rattle.neli_bench.proofs.Sums.{IsSumSoFar}
use Rattle.neli_bench.proofs.owned.neli_bench_owned_headers.Given as goal

abbrev pub invariant-loop-item : goal.invariant-loop-item
invariant-loop-item l = IsSumSoFar stated_length (raw_cut l.fn.bytes) (raw_cut l.messages) l.sum

abbrev pub decreases-loop-item : goal.decreases-loop-item
decreases-loop-item l = length l.messages
