use Rattle.neli_c_parts.specs.Ahead.{PassesItems}
use Rattle.neli_c_parts.specs.Listens.{MissesSame}
use Rattle.neli_c.proofs.Opened.{carried, carried-along}
use Rattle.neli_c.proofs.router.neli_c_router_pass_items.Goals as goal

pub returns-clause-open : goal.returns-clause-open
returns-clause-open c =
    carried (λ z. PassesItems z c.args.handle c.args.count) c.pass_items-code.result _ _ _ c.deref_mut.result.now _
    (record { sfits = c.pass_items-code.type_inv }) c.in-Some.ensures.taken c.deref_mut.ensures.value c.put.ensures
    (c.pass_items-code.ensures.none, c.pass_items-code.ensures.some)

pub returns-clause-missed : goal.returns-clause-missed
returns-clause-missed c =
    carried-along (λ s t. MissesSame s t) _ _ _ c.deref_mut.result.now _ c.in-Some.ensures.taken
    c.deref_mut.ensures.value c.put.ensures c.pass_items-code.ensures.missed
