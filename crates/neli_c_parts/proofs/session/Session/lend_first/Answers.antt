use Rattle.std.proofs.Common.{◌≡◌, ℤ, of_z, slice_set, subst, sym, to_z, w32}
use Rattle.std.proofs.lemmas.Int.{to_z-of_z}
use Rattle.neli_c_parts.specs.Ahead.{LendsFirst}
use Rattle.neli_c_parts.proofs.Aheads.{first-stored}
use Rattle.neli_c_parts.proofs.session.Session.lend_first.Goals as goal

pub returns : goal.returns
returns c =
    let k = c.args.k in
    let s = c.args.self.now in
    let xs = c.args.items.now in
    let code : to_z w32 (of_z w32 c.lend.result) ≡ c.lend.result =
    to_z-of_z w32 c.lend.result (record { sfits = c.lend.type_inv }) in
    subst (λ (z : ℤ). LendsFirst z k s xs (slice_set xs 0 c.lend.new.lent)) (sym code)
    (first-stored c.lend.result k s xs _ c.lend.new.lent c.if-is_empty.ensures (c.lend.ensures.none, c.lend.ensures.some))
