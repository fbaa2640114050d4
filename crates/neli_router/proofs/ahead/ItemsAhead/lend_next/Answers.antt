use Rattle.std.proofs.Common.{Option, List, ap, sym, ◌∙◌}
use Rattle.neli_deliveries.specs.declared.delivery.Delivery.{Delivery}
use Rattle.neli_router.specs.Ahead.{coming_for}
use Rattle.neli_router.proofs.Aheads.{end_lent_ahead, item_lent_ahead}
use Rattle.neli_router.proofs.ahead.ItemsAhead.lend_next.Goals as goal

pub returns-then-state-clause-lends : goal.returns-then-state-clause-lends
returns-then-state-clause-lends c =
    (end_lent_ahead c.self.inside.state c.self.inside.waiting _ c.if-state.true c.self.view_is).0

pub returns-then-state-clause-rest : goal.returns-then-state-clause-rest
returns-then-state-clause-rest c =
    (end_lent_ahead c.self.inside.state c.self.inside.waiting _ c.if-state.true c.self.view_is).1

pub returns-clause-lends : goal.returns-clause-lends
returns-clause-lends c =
    (item_lent_ahead c.self.inside.state c.state_after-self-inside.result c.in-Some.waiting c.lend_next.new.self
    c.lend_next.result c.in-Some-lend_next.delivery c.item_of.result c.step_past.result c.args.self.now
    c.lend_next.ensures.lends c.lend_next.ensures.rest c.in-Some-lend_next.is c.item_of.ensures c.step_past.ensures
    c.state_after-self-inside.ensures c.if-state.false
    (ap (λ (w : Option (List Delivery)). coming_for c.self.inside.state w) (sym c.in-Some.is) ∙ c.self.view_is)).0

pub returns-clause-rest : goal.returns-clause-rest
returns-clause-rest c =
    (item_lent_ahead c.self.inside.state c.state_after-self-inside.result c.in-Some.waiting c.lend_next.new.self
    c.lend_next.result c.in-Some-lend_next.delivery c.item_of.result c.step_past.result c.args.self.now
    c.lend_next.ensures.lends c.lend_next.ensures.rest c.in-Some-lend_next.is c.item_of.ensures c.step_past.ensures
    c.state_after-self-inside.ensures c.if-state.false
    (ap (λ (w : Option (List Delivery)). coming_for c.self.inside.state w) (sym c.in-Some.is) ∙ c.self.view_is)).1
