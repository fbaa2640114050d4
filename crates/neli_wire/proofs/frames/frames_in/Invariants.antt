use Rattle.std.proofs.Common.{length}
use Rattle.neli_wire.proofs.Counted.{Counts}
use Rattle.neli_wire.proofs.frames.frames_in.Given as goal

abbrev pub invariant-loop-cursor : goal.invariant-loop-cursor
invariant-loop-cursor l = Counts l.bytes l.cursor.rest l.count

abbrev pub decreases-loop-cursor : goal.decreases-loop-cursor
decreases-loop-cursor l = length l.cursor.rest
