use Rattle.std.proofs.Common.{subst}
use Rattle.neli_log.specs.Log.{pending_of}
use Rattle.neli_router.proofs.LentItems.{lends_item}
use Rattle.neli_router.specs.Lending.{IsLentItem, untyped}
use Rattle.neli_router.specs.Rule.{has_number, item_of}
use Rattle.neli_router.specs.declared.handle.HandleState.{HandleState}
use Rattle.neli_router.proofs.lending.NlRouter+Log.lend_next.Goals as goal

pub returns-in-Some-clause-lends : goal.returns-in-Some-clause-lends
returns-in-Some-clause-lends g c = λ open_ d ds waits.
    let s = c.state-state.result in
    subst (λ (h : HandleState). IsLentItem (item_of (λ n. n) h.needs_ack (has_number h.number) h.single_given
    (untyped d)) c.item_of.result) c.state-state.ensures
    (lends_item s (pending_of c.args.self.now.deliveries s.number) c.lend_first.result c.in-Some.delivery
    c.item_of.result d ds c.lend_first.ensures c.in-Some.is c.item_of.ensures
    (rw c.state-state.ensures waits))
