use Rattle.std.specs.Fmt.{HasWritten, IsPlainFormatter}
use Rattle.neli_print.specs.Pieces.{indent}
use Rattle.neli_print.proofs.pieces.BlanksDisplay.fmt.Given as goal

-- two blanks are written for each turn of the loop so far
abbrev pub invariant-loop-level : goal.invariant-loop-level
invariant-loop-level g l =
    IsPlainFormatter l.initial.f
    → HasWritten g.W.Write.write_str_gives l.initial.f (indent l._level) l.f
