use Rattle.std.proofs.Common.{[], Some, refl, ◌∙◌}
use Rattle.neli_lent.specs.Messages.{messages_in}
use Rattle.neli_deliveries.specs.Deliveries.{fault_share}
use Rattle.neli_router.proofs.Settling.{failed-kept, kept-apart, no-messages-there}
use Rattle.neli_router.proofs.router.NlRouter.link_failed.Goals as goal

pub returns-clause-others : goal.returns-clause-others
returns-clause-others g c = λ w apart.
    let mid = c.error_handling.new.self in
    c.settle.ensures.kept w
    ∙ kept-apart (g.D.Deliveries.port_of mid.deliveries) mid.given_up.items (messages_in (λ n. n) []).0 w
    (g.D.Deliveries.pending mid.deliveries w) (rw c.in_ok-error_handling.ensures.given_up apart)
    ∙ c.in_ok-error_handling.ensures.ok w

pub returns-clause-given_up : goal.returns-clause-given_up
returns-clause-given_up g c = λ q is.
    let old = c.args.self.now in
    let mid = c.error_handling.new.self in
    failed-kept (g.D.Deliveries.port_of mid.deliveries) old.given_up.items mid.given_up.items
    (messages_in (λ n. n) []).0 q (g.D.Deliveries.pending c.settle.new.self.deliveries (Some q))
    (g.D.Deliveries.pending mid.deliveries (Some q)) (g.D.Deliveries.pending old.deliveries (Some q))
    (fault_share (Some q) c.args.error) (rw c.in_ok-error_handling.ensures.given_up refl) (c.settle.ensures.kept (Some q))
    (c.in_ok-error_handling.ensures.ok (Some q)) no-messages-there is
