use Rattle.std.proofs.Common.{take}
use Rattle.std.specs.Fmt.{HasWritten, IsPlainFormatter}
use Rattle.neli_show.specs.Parts.{input_by}
use Rattle.neli_show.proofs.part.PartsDisplay.fmt.Given as goal

-- the parts so far are printed
abbrev pub invariant-loop-item : goal.invariant-loop-item
invariant-loop-item g l =
    IsPlainFormatter l.initial.f
    → HasWritten g.W.Write.write_str_gives l.initial.f
    (input_by l.fn.self.output l.fn.self.tables.now l.fn.self.protocol l.fn.self.input.now.bytes.items
    (take l.item-index l.item-items)) l.f
