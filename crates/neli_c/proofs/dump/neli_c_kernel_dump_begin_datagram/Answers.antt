use Rattle.neli_c_parts.specs.DumpsHeld.{BeginsDatagram}
use Rattle.neli_c.proofs.Opened.{carried}
use Rattle.neli_c.proofs.dump.neli_c_kernel_dump_begin_datagram.Goals as goal

pub returns-clause-open : goal.returns-clause-open
returns-clause-open c =
    carried BeginsDatagram c.begin_datagram-code.result _ _ _ c.deref_mut.result.now _
    (record { sfits = c.begin_datagram-code.type_inv }) c.in-Some.ensures.taken c.deref_mut.ensures.value
    c.put.ensures c.begin_datagram-code.ensures
