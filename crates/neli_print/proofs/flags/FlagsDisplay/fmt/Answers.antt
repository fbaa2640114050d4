use Rattle.std.proofs.Common.{refl}
use Rattle.neli_print.proofs.Loops.{flag_printed, flags_printed}
use Rattle.neli_print.proofs.flags.FlagsDisplay.fmt.Goals as goal

pub loop-row-preserved : goal.loop-row-preserved
loop-row-preserved g c =
    flag_printed _ _ _ _ _ _ _ _ _ _ _ _ _ c.loop-row-test.true refl c.after-left.ensures
    (λ plain. c.in_ok-write.ensures.writes plain refl) c.loop-row.invariant

pub returns-clause-writes : goal.returns-clause-writes
returns-clause-writes g c = λ plain ok.
    flags_printed _ _ _ _ _ _ _ _ _ _ c.loop-row-test.false
    (λ still. c.write-2.ensures.writes still ok) c.loop-row.invariant plain
