use Rattle.std.proofs.Common.{None}
use Rattle.neli_c_session.specs.Calls.{Queues}
use Rattle.neli_c.proofs.Opened.{carried}
use Rattle.neli_c.proofs.session.neli_c_session_send_all.Goals as goal

pub returns-clause-open : goal.returns-clause-open
returns-clause-open c =
    carried (λ z. Queues z None c.args.requests.now) c.send_all-code.result _ _ _ c.deref_mut.result.now _
    (record { sfits = c.send_all-code.type_inv }) c.in-Some.ensures.taken c.deref_mut.ensures.value c.put.ensures
    c.send_all-code.ensures
