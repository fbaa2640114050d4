use Rattle.neli_reader.specs.Headers.{flags_of}
use Rattle.neli_c_session.specs.Calls.{SendsRequest}
use Rattle.neli_c.proofs.Opened.{carried}
use Rattle.neli_c.proofs.session.neli_c_session_send.Goals as goal

pub returns-clause-open : goal.returns-clause-open
returns-clause-open c =
    carried (λ z s t. SendsRequest z c.args.nl_type (flags_of c.args.flags) c.args.body.now s t c.args.number.now c.send-code.new.number) c.send-code.result _ _ _ c.deref_mut.result.now _
    (record { sfits = c.send-code.type_inv }) c.in-Some.ensures.taken c.deref_mut.ensures.value c.put.ensures
    c.send-code.ensures
