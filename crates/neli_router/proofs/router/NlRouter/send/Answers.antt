use Rattle.std.proofs.Common.{◌≡◌, IfOk, subst}
use Rattle.neli_router.specs.declared.handle.HandleState.{HandleState}
use Rattle.neli_router.specs.laws.Sends.{expects_by_flags}
use Rattle.neli_router.proofs.router.NlRouter.send.Goals as goal

pub returns-clause-handle : goal.returns-clause-handle
returns-clause-handle g c =
    subst (λ (h : HandleState). IfOk c.send_expecting.result (λ r. r.1 ≡ h))
    (rw c.by_flags-answering.ensures (expects_by_flags c.args.self.now.next_seq c.args.nl_flags))
    c.send_expecting.ensures.handle

pub returns-clause-heard : goal.returns-clause-heard
returns-clause-heard g c = rw c.by_flags-answering.ensures at c.send_expecting.ensures.heard
