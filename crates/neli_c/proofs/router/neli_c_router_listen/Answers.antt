use Rattle.neli_c_parts.specs.Listens.{Listens}
use Rattle.neli_c.proofs.Opened.{carried}
use Rattle.neli_c.proofs.router.neli_c_router_listen.Goals as goal

pub returns-clause-open : goal.returns-clause-open
returns-clause-open c =
    carried (λ z s t. Listens z s t c.args.item.now c.listen-code.new.item) c.listen-code.result _ _ _
    c.deref_mut.result.now _ (record { sfits = c.listen-code.type_inv }) c.in-Some.ensures.taken
    c.deref_mut.ensures.value c.put.ensures c.listen-code.ensures
