-- The last of a list, and those before it.
use Rattle.std.proofs.Common.{◌≡◌, ◌<◌, ◌+◌, ℕ, List, [], ◌∷◌, ◌++◌, length, get_or, refl, ap}
use Rattle.std.proofs.Common.{◌∙◌, arith, length-append}
use Rattle.std.proofs.Math.Seq.{get_or-append_seam}

module _ {A : Type 0} where
  pub last-exists : (xs : List A) → 0 < length xs
      → (front : List A) × (last : A) × (xs ≡ front ++ last ∷ [])
  last-exists [] any = absurd (omega (arith, any))
  last-exists (x ∷ []) any = ([], x, refl)
  last-exists (x ∷ y ∷ xs) any =
      let more = last-exists (y ∷ xs) (omega arith) in
      (x ∷ more.0, more.1, ap (λ (l : List A). x ∷ l) more.2)

  pub last-length : (xs front : List A) (last : A) → xs ≡ front ++ last ∷ [] → length xs ≡ length front + 1
  last-length xs front last is = ap length is ∙ length-append front (last ∷ [])

  last-index : (xs front : List A) (last : A) (i : ℕ) → xs ≡ front ++ last ∷ []
      → i + 1 ≡ length xs → i ≡ length front
  last-index xs front last i is one =
      let more = last-length xs front last is in
      omega (arith, one, more)

  pub last-at : (xs front : List A) (last : A) (i : ℕ) (d : A) → xs ≡ front ++ last ∷ []
      → i + 1 ≡ length xs → get_or xs i d ≡ last
  last-at xs front last i d is one =
      ap (λ (n : ℕ). get_or xs n d) (last-index xs front last i is one)
      ∙ ap (λ (l : List A). get_or l (length front) d) is
      ∙ get_or-append_seam front last [] d
