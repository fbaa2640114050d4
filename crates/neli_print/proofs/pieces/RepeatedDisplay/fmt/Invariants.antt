use Rattle.std.specs.Fmt.{HasWritten, IsPlainFormatter}
use Rattle.neli_print.specs.Pieces.{repeated}
use Rattle.neli_print.proofs.pieces.RepeatedDisplay.fmt.Given as goal

-- the text is written as many times as the loop has run
abbrev pub invariant-loop-time : goal.invariant-loop-time
invariant-loop-time g l =
    IsPlainFormatter l.initial.f
    → HasWritten g.W.Write.write_str_gives l.initial.f (repeated l.fn.self.text.now l._time) l.f
