use Rattle.neli_tables.proofs.Keyed.{pass_line}
use Rattle.neli_tables.proofs.index.Index.of.Goals as goal

pub loop-place-preserved : goal.loop-place-preserved
loop-place-preserved c = λ key.
    rw c.section_after-section.ensures (pass_line key _ c.args.lines.now c.loop-place.place c.loop-place.section
    c.index-lines-place.result _ _ (c.loop-place.invariant key) c.loop-place-test.true c.index-lines-place.is
    (rw (c.key_of.ensures, c.section_after-section.ensures) at (c.in_ok-note.ensures key)))
