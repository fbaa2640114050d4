use Rattle.std.proofs.Common.{take}
use Rattle.std.specs.Fmt.{HasWritten, IsPlainFormatter}
use Rattle.neli_tables_check.specs.Paths.{later_text}
use Rattle.neli_tables_check.proofs.place.LaterStepsDisplay.fmt.Given as goal

-- the steps so far are written
abbrev pub invariant-loop-step : goal.invariant-loop-step
invariant-loop-step g l =
    IsPlainFormatter l.initial.f
    → HasWritten g.W.Write.write_str_gives l.initial.f
    (later_text l.fn.self.table.now (take l.step-index l.fn.self.steps.now)) l.f
