use Rattle.neli_c_parts.specs.Sessions.{TakesDatagram}
use Rattle.neli_c_parts.specs.Listens.{MissesSame}
use Rattle.neli_c.proofs.Opened.{carried, carried-along}
use Rattle.neli_c.proofs.router.neli_c_router_datagram.Goals as goal

pub returns-clause-open : goal.returns-clause-open
returns-clause-open c =
    carried (λ z. TakesDatagram z c.args.bytes.now c.args.groups.now) c.datagram-code.result _ _ _
    c.deref_mut.result.now _ (record { sfits = c.datagram-code.type_inv }) c.in-Some.ensures.taken
    c.deref_mut.ensures.value c.put.ensures c.datagram-code.ensures.taken

pub returns-clause-missed : goal.returns-clause-missed
returns-clause-missed c =
    carried-along (λ s t. MissesSame s t) _ _ _ c.deref_mut.result.now _ c.in-Some.ensures.taken
    c.deref_mut.ensures.value c.put.ensures c.datagram-code.ensures.missed
