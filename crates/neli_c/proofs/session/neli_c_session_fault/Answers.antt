use Rattle.std.proofs.Common.{ℤ, subst, w32}
use Rattle.std.proofs.lemmas.Int.{to_z-of_z}
use Rattle.neli_c_session.specs.Calls.{TakesFault}
use Rattle.neli_c.proofs.Opened.{carried}
use Rattle.neli_c.proofs.session.neli_c_session_fault.Goals as goal

pub returns-clause-open : goal.returns-clause-open
returns-clause-open c =
    let errno = to_z-of_z w32 c.args.errno (record { sfits = c.ranges.errno.sfits }) in
    let taken = subst (λ (n : ℤ). TakesFault c.fault-code.result n c.deref_mut.result.now c.fault-code.new.session)
    errno c.fault-code.ensures in
    carried (λ z. TakesFault z c.args.errno) c.fault-code.result _ _ _ c.deref_mut.result.now _
    (record { sfits = c.fault-code.type_inv }) c.in-Some.ensures.taken c.deref_mut.ensures.value c.put.ensures taken
