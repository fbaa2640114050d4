use Rattle.std.proofs.Common.{sym, ◌∙◌}
use Rattle.neli_lent.specs.Messages.{message_view, messages_in}
use Rattle.neli_lent.specs.Walks.{items_of}
use Rattle.neli_router.specs.GivenUp.{ends_it}
use Rattle.neli_router.proofs.Settling.{any-found, any-none, any_items}
use Rattle.neli_router.proofs.given_up.has_end.Goals as goal

pub returns-then-ends_it : goal.returns-then-ends_it
returns-then-ends_it c =
    let p = ends_it c.args.port c.args.request.now in
    any-found p (items_of (messages_in (λ n. n) c.loop-item.item-iterator)) _ (message_view c.in-Ok.message)
    (messages_in (λ n. n) c.args.bytes.now).0 (rw c.in-Ok.is at c.in-Some.ensures.steps)
    (sym c.ends_it.ensures ∙ c.if-ends_it.true) (c.loop-item.invariant ∙ any_items p c.args.bytes.now)

pub returns : goal.returns
returns c =
    let p = ends_it c.args.port c.args.request.now in
    any-none p (items_of (messages_in (λ n. n) c.loop-item.item-iterator)) (messages_in (λ n. n) c.args.bytes.now).0
    c.in-None.ensures.steps.0 (c.loop-item.invariant ∙ any_items p c.args.bytes.now)
