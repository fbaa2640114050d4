use Rattle.neli_c_session.specs.Calls.{TakesIn, is_set}
use Rattle.neli_c.proofs.Opened.{carried}
use Rattle.neli_c.proofs.session.neli_c_session_receive.Goals as goal

pub returns-clause-open : goal.returns-clause-open
returns-clause-open c =
    carried (λ z s t. TakesIn z c.args.bytes.now c.args.group (is_set c.args.is_joined) s t c.receive-code.new.taken) c.receive-code.result _ _ _ c.deref_mut.result.now _
    (record { sfits = c.receive-code.type_inv }) c.in-Some.ensures.taken c.deref_mut.ensures.value c.put.ensures
    c.receive-code.ensures
