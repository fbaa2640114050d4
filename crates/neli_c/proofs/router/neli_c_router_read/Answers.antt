use Rattle.neli_c_parts.specs.Sessions.{ReadsPlace}
use Rattle.std.proofs.Common.{IfSome}
use Rattle.neli_c_parts.specs.Slots.{handle_at}
use Rattle.neli_c_parts.specs.Verdicts.{HearsHandle}
use Rattle.neli_c_parts.specs.Listens.{MissesSame}
use Rattle.neli_c.proofs.Opened.{carried, carried-along}
use Rattle.neli_c.proofs.router.neli_c_router_read.Goals as goal

pub returns-clause-open : goal.returns-clause-open
returns-clause-open c =
    carried (λ z s t. ReadsPlace z c.args.handle s t c.args.item.now c.read-code.new.item) c.read-code.result _ _ _
    c.deref_mut.result.now _ (record { sfits = c.read-code.type_inv }) c.in-Some.ensures.taken
    c.deref_mut.ensures.value c.put.ensures (c.read-code.ensures.none, c.read-code.ensures.some)

pub returns-clause-heard : goal.returns-clause-heard
returns-clause-heard c =
    carried-along (λ s t. IfSome (handle_at c.args.handle s.handles.items) (λ h. HearsHandle h s t)) _ _ _
    c.deref_mut.result.now _ c.in-Some.ensures.taken c.deref_mut.ensures.value c.put.ensures c.read-code.ensures.heard

pub returns-clause-missed : goal.returns-clause-missed
returns-clause-missed c =
    carried-along (λ s t. MissesSame s t) _ _ _ c.deref_mut.result.now _ c.in-Some.ensures.taken
    c.deref_mut.ensures.value c.put.ensures c.read-code.ensures.missed
