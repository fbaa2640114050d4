use Rattle.std.proofs.Common.{◌≡◌, ℤ, ap, subst, sym, w32, ◌∙◌}
use Rattle.std.proofs.lemmas.Int.{to_z-of_z}
use Rattle.std.specs.declared.io.ErrorKind.{ErrorKind}
use Rattle.neli_c_parts.specs.Sessions.{TakesKind, fault_kind}
use Rattle.neli_c_parts.proofs.session.Session.fault.Goals as goal

pub returns-clause-taken : goal.returns-clause-taken
returns-clause-taken c =
    let errno = to_z-of_z w32 c.args.errno (record { sfits = c.ranges.errno.sfits }) in
    let code = to_z-of_z w32 c.failed.result (record { sfits = c.failed.type_inv }) in
    let is : c.kind_of.result ≡ fault_kind c.args.errno = c.kind_of.ensures ∙ ap (λ (n : ℤ). fault_kind n) errno in
    let taken = subst (λ (k : ErrorKind). TakesKind c.failed.result k c.args.self.now c.failed.new.self) is
    c.failed.ensures.taken in
    subst (λ (z : ℤ). TakesKind z (fault_kind c.args.errno) c.args.self.now c.failed.new.self) (sym code) taken
