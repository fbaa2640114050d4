use Rattle.std.proofs.Common.{◌≡◌, ℕ, ℤ, List, [], arith, drop, length, of_z, subst, sym, take, to_z, w32, ◌∙◌}
use Rattle.std.proofs.lemmas.Int.{to_z-of_z}
use Rattle.neli_c_parts.specs.declared.lending.NeliLent.{NeliLent}
use Rattle.neli_c_parts.specs.Ahead.{AreLent, LendsFirst, messages_at}
use Rattle.neli_c_parts.proofs.Aheads.{no-item}
use Rattle.neli_c_parts.proofs.session.Session.lend_items.Goals as goal

pub returns-else-count-gt0 : goal.returns-else-count-gt0
returns-else-count-gt0 c =
    let k = c.args.k in
    let s = c.args.self.now in
    let old = c.args.items.now in
    let kept = c.lend_ahead.new.items in
    let new = c.lend_first.new.items in
    let code : to_z w32 (of_z w32 c.lend_first.result) ≡ c.lend_first.result =
    to_z-of_z w32 c.lend_first.result (record { sfits = c.lend_first.type_inv }) in
    let zero_is : c.lend_ahead.result ≡ 0 = omega (arith, c.if-count-gt0.false) in
    let same : kept ≡ old =
    subst (λ (n : ℕ). drop n kept ≡ drop n old) zero_is c.lend_ahead.ensures.2 in
    let none : AreLent (take (length old) (messages_at k s)) [] =
    subst (λ (n : ℕ). AreLent (take (length old) (messages_at k s)) (take n kept)) zero_is c.lend_ahead.ensures.0 in
    let first : LendsFirst c.lend_first.result k s old new =
    subst (λ (xs : List NeliLent). LendsFirst c.lend_first.result k s xs new) same c.lend_first.ensures in (
      λ isnt. absurd (isnt zero_is),
      λ _. (
        λ is. no-item c.lend_first.result k s old new none first (sym code ∙ is),
        none,
        subst (λ (z : ℤ). LendsFirst z k s old new) (sym code) first,
      ),
    )
