use Rattle.std.proofs.Common.{◌≡◌, ◌≤◌, ◌<◌, ◌∙◌, string_bytes, codes, List, [], ◌∷◌, length, get_or, refl, sym, ap}
use Rattle.std.proofs.Common.{arith}
use Rattle.std.proofs.lemmas.Bool.Decides.{Decides-eqb}
use Rattle.std.proofs.lemmas.Slice.Eq.{slice_eq-Decides}
use Rattle.neli_program.proofs.run.is_list_zero.Goals as goal

-- a list of two elements
two_elements : {A : Type 0} (xs : List A) (x y : A) → 2 ≤ length xs → length xs < 3 → x ≡ get_or xs 0 x
    → y ≡ get_or xs 1 y → xs ≡ x ∷ y ∷ []
two_elements [] x y some few first second = absurd (omega (arith, some))
two_elements (a ∷ []) x y some few first second = absurd (omega (arith, some))
two_elements (a ∷ b ∷ []) x y some few first second =
    ap (λ z. z ∷ b ∷ []) (sym first) ∙ ap (λ z. x ∷ z ∷ []) (sym second)
two_elements (a ∷ b ∷ c ∷ xs) x y some few first second = absurd (omega (arith, few))

pub returns-in-len2 : goal.returns-in-len2
returns-in-len2 c =
    let first : string_bytes c.first-item.result ≡ codes "list" = sym c.as_str.ensures.value
    ∙ (slice_eq-Decides Decides-eqb c.as_str.result.now (codes "list") c.eq.result c.eq.ensures).0 c.if-eq.true in
    let second : string_bytes c.second-item.result ≡ codes "zero" = sym c.as_str-then-eq.ensures.value
    ∙ (slice_eq-Decides Decides-eqb c.as_str-then-eq.result.now
    (codes "zero") c.eq-then-eq.result c.eq-then-eq.ensures).0 c.if-eq-2.true in
    let words : c.args.words.now ≡ c.first-item.result ∷ c.second-item.result ∷ [] =
    two_elements _ _ _ c.in-len2.len_at_least c.in-len2.len_below c.first-item.is c.second-item.is in (
      λ _. rw words (ap (λ bytes. bytes ∷ string_bytes c.second-item.result ∷ []) first
          ∙ ap (λ bytes. codes "list" ∷ bytes ∷ []) second),
      λ _. refl,
    )
