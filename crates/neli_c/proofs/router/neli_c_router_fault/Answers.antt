use Rattle.std.proofs.Common.{ℤ, subst, w32}
use Rattle.std.proofs.lemmas.Int.{to_z-of_z}
use Rattle.neli_c_parts.specs.Listens.{Misses}
use Rattle.neli_c_parts.specs.Sessions.{TakesFault}
use Rattle.neli_c.proofs.Opened.{carried}
use Rattle.neli_c.proofs.router.neli_c_router_fault.Goals as goal

pub returns-clause-open : goal.returns-clause-open
returns-clause-open c =
    let errno = to_z-of_z w32 c.args.errno (record { sfits = c.ranges.errno.sfits }) in
    let taken = subst (λ (n : ℤ). TakesFault c.fault-code.result n c.deref_mut.result.now c.fault-code.new.self) errno
    c.fault-code.ensures.taken in
    carried (λ z. TakesFault z c.args.errno) c.fault-code.result _ _ _ c.deref_mut.result.now _
    (record { sfits = c.fault-code.type_inv }) c.in-Some.ensures.taken c.deref_mut.ensures.value c.put.ensures taken

pub returns-clause-missed : goal.returns-clause-missed
returns-clause-missed c =
    let errno = to_z-of_z w32 c.args.errno (record { sfits = c.ranges.errno.sfits }) in
    let missed = subst (λ (n : ℤ). Misses c.fault-code.result n c.deref_mut.result.now c.fault-code.new.self) errno
    c.fault-code.ensures.missed in
    carried (λ z. Misses z c.args.errno) c.fault-code.result _ _ _ c.deref_mut.result.now _
    (record { sfits = c.fault-code.type_inv }) c.in-Some.ensures.taken c.deref_mut.ensures.value c.put.ensures missed
