use Rattle.neli_c_parts.specs.Verdicts.{GivesUpHandle}
use Rattle.neli_c_parts.specs.Listens.{MissesSame}
use Rattle.neli_c.proofs.Opened.{carried, carried-along}
use Rattle.neli_c.proofs.router.neli_c_router_give_up.Goals as goal

pub returns-clause-open : goal.returns-clause-open
returns-clause-open c =
    carried (λ z. GivesUpHandle z c.args.handle) c.give_up-code.result _ _ _ c.deref_mut.result.now _
    (record { sfits = c.give_up-code.type_inv }) c.in-Some.ensures.taken c.deref_mut.ensures.value c.put.ensures
    c.give_up-code.ensures.given_up

pub returns-clause-missed : goal.returns-clause-missed
returns-clause-missed c =
    carried-along (λ s t. MissesSame s t) _ _ _ c.deref_mut.result.now _ c.in-Some.ensures.taken
    c.deref_mut.ensures.value c.put.ensures c.give_up-code.ensures.missed
