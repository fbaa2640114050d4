use Rattle.std.proofs.Common.{[], Some, is_some, refl, ◌∙◌}
use Rattle.neli_reader.specs.Agreement.{untyped_layout}
use Rattle.neli_reader.specs.Cuts.{cut_of}
use Rattle.neli_lent.specs.Messages.{messages_in}
use Rattle.neli_deliveries.specs.Deliveries.{datagram_share}
use Rattle.neli_router.proofs.Settling.{grouped-kept, kept-apart, no-messages-there}
use Rattle.neli_router.proofs.router.NlRouter.receive.Goals as goal

pub returns-then-is_empty-clause-others : goal.returns-then-is_empty-clause-others
returns-then-is_empty-clause-others g c = λ w apart.
    let mid = c.processing_loop.new.self in
    c.settle.ensures.kept w
    ∙ kept-apart (g.D.Deliveries.port_of mid.deliveries) mid.given_up.items (messages_in (λ n. n) c.args.bytes.now).0 w
    (g.D.Deliveries.pending mid.deliveries w) (rw c.in_ok-processing_loop.ensures.given_up apart)
    ∙ c.in_ok-processing_loop.ensures.ok w

pub returns-else-is_empty-clause-others : goal.returns-else-is_empty-clause-others
returns-else-is_empty-clause-others g c = λ w apart.
    let mid = c.processing_loop.new.self in
    c.settle-else-is_empty.ensures.kept w
    ∙ kept-apart (g.D.Deliveries.port_of mid.deliveries) mid.given_up.items (messages_in (λ n. n) []).0 w
    (g.D.Deliveries.pending mid.deliveries w) (rw c.in_ok-processing_loop.ensures.given_up apart)
    ∙ c.in_ok-processing_loop.ensures.ok w

pub returns-else-is_empty-clause-given_up : goal.returns-else-is_empty-clause-given_up
returns-else-is_empty-clause-given_up g c = λ q is.
    let old = c.args.self.now in
    let mid = c.processing_loop.new.self in
    let port = g.D.Deliveries.port_of old.deliveries in
    grouped-kept port (g.D.Deliveries.port_of mid.deliveries) old.given_up.items mid.given_up.items
    (messages_in (λ n. n) []).0 (messages_in (λ n. n) c.args.bytes.now).0 c.args.groups.now q
    (g.D.Deliveries.pending c.settle-else-is_empty.new.self.deliveries (Some q))
    (g.D.Deliveries.pending mid.deliveries (Some q)) (g.D.Deliveries.pending old.deliveries (Some q))
    (datagram_share port (λ n. is_some (g.D.Deliveries.pending old.deliveries (Some n))) (Some q)
    (cut_of untyped_layout c.args.bytes.now) c.args.groups.now) c.in_ok-processing_loop.ensures.same.port
    (rw c.in_ok-processing_loop.ensures.given_up refl) (c.settle-else-is_empty.ensures.kept (Some q))
    (c.in_ok-processing_loop.ensures.ok (Some q)) no-messages-there
    (λ e. (let yes = c.is_empty.ensures.1 e in let no = c.if-is_empty.false in cc)) is
