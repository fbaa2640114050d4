use Rattle.std.proofs.Common.{Bool, ◌||◌, ap, ◌∙◌}
use Rattle.neli_router.proofs.router.NlRouter.leave.Goals as goal

pub returns-in_ok-push-clause-ok : goal.returns-in_ok-push-clause-ok
returns-in_ok-push-clause-ok g c = λ ds is.
    let f = c.finishes-last.ensures.last ds is in
    (c.either-finished.ensures ∙ ap (λ (b : Bool). c.args.known.finished || b) f.0, f.1)

pub returns-else-not-finished-clause-ok : goal.returns-else-not-finished-clause-ok
returns-else-not-finished-clause-ok g c = λ ds is.
    let f = c.finishes-last.ensures.last ds is in
    (c.either-finished.ensures ∙ ap (λ (b : Bool). c.args.known.finished || b) f.0, f.1)
