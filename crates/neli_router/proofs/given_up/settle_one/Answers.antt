use Rattle.std.proofs.Common.{sym, ◌∙◌}
use Rattle.neli_lent.specs.Messages.{messages_in}
use Rattle.neli_router.proofs.Settling.{cleared-one, closed-one}
use Rattle.neli_router.proofs.given_up.settle_one.Goals as goal

pub returns-then-has_end-clause-kept : goal.returns-then-has_end-clause-kept
returns-then-has_end-clause-kept g c =
    closed-one (g.D.Deliveries.port_of c.args.deliveries.now) (messages_in (λ n. n) c.args.bytes.now).0
    c.args.request.now (g.D.Deliveries.pending c.args.deliveries.now) (g.D.Deliveries.pending c.close.new.self)
    c.close.ensures.others (sym (rw c.port.ensures at c.has_end.ensures) ∙ c.if-has_end.true) c.close.ensures.closed

pub returns-else-has_end-clause-kept : goal.returns-else-has_end-clause-kept
returns-else-has_end-clause-kept g c =
    cleared-one (g.D.Deliveries.port_of c.args.deliveries.now) (messages_in (λ n. n) c.args.bytes.now).0
    c.args.request.now (g.D.Deliveries.pending c.args.deliveries.now) (g.D.Deliveries.pending c.clear.new.self)
    c.clear.ensures.others (sym (rw c.port.ensures at c.has_end.ensures) ∙ c.if-has_end.false) c.clear.ensures.cleared
