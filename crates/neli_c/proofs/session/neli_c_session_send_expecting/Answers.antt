use Rattle.neli_c_session.specs.Calls.{QueuesAs, answering_in}
use Rattle.neli_c.proofs.Opened.{carried}
use Rattle.neli_c.proofs.session.neli_c_session_send_expecting.Goals as goal

pub returns-clause-open : goal.returns-clause-open
returns-clause-open c =
    carried (λ z. QueuesAs z (answering_in c.args.answering) c.args.requests.now) c.send_expecting-code.result _ _ _ c.deref_mut.result.now _
    (record { sfits = c.send_expecting-code.type_inv }) c.in-Some.ensures.taken c.deref_mut.ensures.value c.put.ensures
    c.send_expecting-code.ensures
