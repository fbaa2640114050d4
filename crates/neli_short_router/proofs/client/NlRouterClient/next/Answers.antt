use Rattle.std.proofs.Common.{Err, sym, ap, ◌∙◌}
use Rattle.neli_short_router.proofs.Steps.{err_same, next_given, no_memory_item, ok_same}
use Rattle.neli_short_router.proofs.client.NlRouterClient.next.Goals as goal

pub returns-in-Item-Ok-clause-gives : goal.returns-in-Item-Ok-clause-gives
returns-in-Item-Ok-clause-gives g c = λ open_ d ds waits more.
    next_given g.T.Constant.wire_value g.T.Constant.wire_number g.P.FromBytesWithInput.view g.P.Size.wire_length
    g.P.FromBytesWithInput.read g.D.Deliveries.pending d ds c.args.handle.now c.next_typed.new.handle c.args.self.now
    c.next_typed.new.self _ c.in-Item-Ok.field-0 _ c.in-Item-Ok.is c.in-Item-Ok.field-0-is
    (c.in_ok-message.ensures.gives open_ d ds waits)

pub returns-in-Item-Err-clause-gives : goal.returns-in-Item-Err-clause-gives
returns-in-Item-Err-clause-gives g c = λ open_ d ds waits more.
    next_given g.T.Constant.wire_value g.T.Constant.wire_number g.P.FromBytesWithInput.view g.P.Size.wire_length
    g.P.FromBytesWithInput.read g.D.Deliveries.pending d ds c.args.handle.now c.next_typed.new.handle c.args.self.now
    c.next_typed.new.self _ c.in-Item-Err.field-0 _ c.in-Item-Err.is c.in-Item-Err.field-0-is
    (c.in_ok-message.ensures.gives open_ d ds waits)

pub returns-in-Item-Err-clause-unchanged : goal.returns-in-Item-Err-clause-unchanged
returns-in-Item-Err-clause-unchanged g c = λ bad.
    let h = c.args.handle.now in
    let is = c.in-Item-Err.is in
    absurd (no_memory_item g.T.Constant.wire_value g.T.Constant.wire_number g.P.FromBytesWithInput.view
    g.P.Size.wire_length g.P.FromBytesWithInput.read h
    (g.D.Deliveries.pending c.args.self.now.deliveries h.number) c.in-Item-Err.field-0
    (λ a. sym is ∙ ok_same (c.in_ok-message.ensures.ended a).0)
    (λ a n. sym is ∙ ok_same (c.in_ok-message.ensures.closed a n).0)
    (λ a n. sym is ∙ ok_same (c.in_ok-message.ensures.waits a n).0)
    (λ a d ds n. (let k = c.in_ok-message.ensures.gives a d ds n in (k.x, k.is_read, sym is ∙ k.is_given)))
    (c.in-Item-Err.field-0-is ∙ ap (λ e. Err e) (err_same bad)))

pub returns-in-Item-Err-clause-memory : goal.returns-in-Item-Err-clause-memory
returns-in-Item-Err-clause-memory g c = λ open_ d ds waits bad.
    let h = c.args.handle.now in
    let is = c.in-Item-Err.is in
    absurd (no_memory_item g.T.Constant.wire_value g.T.Constant.wire_number g.P.FromBytesWithInput.view
    g.P.Size.wire_length g.P.FromBytesWithInput.read h
    (g.D.Deliveries.pending c.args.self.now.deliveries h.number) c.in-Item-Err.field-0
    (λ a. sym is ∙ ok_same (c.in_ok-message.ensures.ended a).0)
    (λ a n. sym is ∙ ok_same (c.in_ok-message.ensures.closed a n).0)
    (λ a n. sym is ∙ ok_same (c.in_ok-message.ensures.waits a n).0)
    (λ a d ds n. (let k = c.in_ok-message.ensures.gives a d ds n in (k.x, k.is_read, sym is ∙ k.is_given)))
    (c.in-Item-Err.field-0-is ∙ ap (λ e. Err e) (err_same bad)))

pub returns-in-End-clause-gives : goal.returns-in-End-clause-gives
returns-in-End-clause-gives g c = λ open_ d ds waits more.
    absurd (let bad = sym c.in-End.is ∙ (c.in_ok-message.ensures.gives open_ d ds waits).is_given in cc)

pub returns-in-Waits-clause-gives : goal.returns-in-Waits-clause-gives
returns-in-Waits-clause-gives g c = λ open_ d ds waits more.
    absurd (let bad = sym c.in-Waits.is ∙ (c.in_ok-message.ensures.gives open_ d ds waits).is_given in cc)
