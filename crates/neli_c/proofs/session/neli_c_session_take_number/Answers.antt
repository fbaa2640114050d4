use Rattle.neli_c_session.specs.Calls.{TakesNumber}
use Rattle.neli_c.proofs.Opened.{carried}
use Rattle.neli_c.proofs.session.neli_c_session_take_number.Goals as goal

pub returns-clause-open : goal.returns-clause-open
returns-clause-open c =
    carried (λ z s t. TakesNumber z s t c.args.number.now c.take_number-code.new.number) c.take_number-code.result _ _ _ c.deref_mut.result.now _
    (record { sfits = c.take_number-code.type_inv }) c.in-Some.ensures.taken c.deref_mut.ensures.value c.put.ensures
    c.take_number-code.ensures
