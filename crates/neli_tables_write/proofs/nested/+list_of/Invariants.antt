use Rattle.std.proofs.Common.{◌-◌, ◌≤◌, length}
use Rattle.neli_tables_write.proofs.nested.+list_of.Given as goal

abbrev pub decreases-list_of : goal.decreases-list_of
decreases-list_of l = length l.asked.now - l.start

abbrev pub invariant-loop-index : goal.invariant-loop-index
invariant-loop-index l = (l.fn.start ≤ l.index) × (l.index ≤ length l.asked)

abbrev pub decreases-loop-index : goal.decreases-loop-index
decreases-loop-index l = length l.asked - l.index
