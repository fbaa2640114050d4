-- Lists with another element at a place.
use Rattle.std.proofs.Common.{ℕ, zero, suc, ◌≡◌, ◌≢◌, ◌<◌, false, List, [], ◌∷◌, length, Option, Some, None, refl, sym}
use Rattle.std.proofs.Common.{ap, inl, inr, ◌⊎◌, arith}
use Rattle.std.specs.List.{slice_get}
use Rattle.std.specs.Option.{is_some}
use Rattle.std.proofs.Math.ListN.{set}

module _ {A : Type 0} where
  pub set_at : (xs : List A) (y : A) (k : ℕ) → k < length xs → slice_get (set xs k y) k ≡ Some y
  set_at [] y k h = absurd (omega arith)
  set_at (x ∷ xs) y zero h = refl
  set_at (x ∷ xs) y (suc k) h = set_at xs y k (omega arith)

  pub set_other : (xs : List A) (y : A) (k j : ℕ) → j ≢ k → slice_get (set xs k y) j ≡ slice_get xs j
  set_other [] y k j o = refl
  set_other (x ∷ xs) y zero zero o = absurd (o refl)
  set_other (x ∷ xs) y zero (suc j) o = refl
  set_other (x ∷ xs) y (suc k) zero o = refl
  set_other (x ∷ xs) y (suc k) (suc j) o = set_other xs y k j (λ e. o (ap suc e))

  pub set_again : (xs : List A) (y : A) (k : ℕ) → slice_get xs k ≡ Some y → set xs k y ≡ xs
  set_again [] y k e = refl
  set_again (x ∷ xs) y zero e = let same : x ≡ y = cc in ap (λ z. z ∷ xs) (sym same)
  set_again (x ∷ xs) y (suc k) e = ap (λ zs. x ∷ zs) (set_again xs y k e)

  pub list_or : (xs : List A) → (xs ≡ []) ⊎ ((d : A) × (ds : List A) × (xs ≡ d ∷ ds))
  list_or [] = inl refl
  list_or (d ∷ ds) = inr (d, ds, refl)

  pub none_of : (o : Option A) → is_some o ≡ false → o ≡ None
  none_of None e = refl
  none_of (Some x) e = cc

  pub set_set : (xs : List A) (y z : A) (k : ℕ) → set (set xs k y) k z ≡ set xs k z
  set_set [] y z k = refl
  set_set (x ∷ xs) y z zero = refl
  set_set (x ∷ xs) y z (suc k) = ap (λ zs. x ∷ zs) (set_set xs y z k)
