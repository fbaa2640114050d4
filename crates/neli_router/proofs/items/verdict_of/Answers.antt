use Rattle.std.proofs.Common.{Bool, ap₂, ◌∙◌}
use Rattle.neli_router.specs.Verdicts.{whole_verdict}
use Rattle.neli_router.specs.declared.verdict.Verdict.{Verdict}
use Rattle.neli_router.proofs.items.verdict_of.Goals as goal

pub returns : goal.returns
returns g c =
    let p = c.progress_of-progress.ensures in
    c.whole_verdict.ensures
    ∙ ap₂ (λ (b : Bool) (v : Verdict). whole_verdict b v)
    (rw (c.by_flags-answering.ensures, c.needs_acknowledgement.ensures) at p.finished)
    (rw c.needs_acknowledgement.ensures at p.verdict)
