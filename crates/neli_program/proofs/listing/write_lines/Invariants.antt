use Rattle.std.proofs.Common.{length}
use Rattle.neli_program.proofs.Listings.{IsPrinted}
use Rattle.neli_program.proofs.listing.write_lines.Given as goal

abbrev pub invariant-loop-cursor : goal.invariant-loop-cursor
invariant-loop-cursor g l =
    IsPrinted l.fn.bytes (g.W.Write.contents l.fn.output) (g.W.Write.contents l.output) l.cursor.rest

abbrev pub decreases-loop-cursor : goal.decreases-loop-cursor
decreases-loop-cursor g l = length l.cursor.rest
