use Rattle.neli_c_session.specs.Calls.{Chooses}
use Rattle.neli_c.proofs.Opened.{carried}
use Rattle.neli_c.proofs.session.neli_c_session_next_outgoing.Goals as goal

pub returns-clause-open : goal.returns-clause-open
returns-clause-open c =
    carried (λ z. Chooses z) c.choose-code.result _ _ _ c.deref_mut.result.now _
    (record { sfits = c.choose-code.type_inv }) c.in-Some.ensures.taken c.deref_mut.ensures.value c.put.ensures
    c.choose-code.ensures
