-- A search in a list, entry by entry.
use Rattle.std.proofs.Common.{◌≡◌, ℕ, ◌+◌, suc, zero, List, [], ◌∷◌, Option, None, drop, filter_map, slice_get, subst, sym, refl, add-one}
use Rattle.std.specs.Prelude.{option_and_then}
use Rattle.std.specs.List.{cons_option}

module _ {X Y : Type 0} (h : X → Option Y) where
  by_one : (xs : List X) (i : ℕ) → filter_map h (drop i xs)
      ≡ cons_option (option_and_then h (slice_get xs i)) (filter_map h (drop (suc i) xs))
  by_one [] zero = refl
  by_one [] (suc i) = refl
  by_one (x ∷ xs) zero = refl
  by_one (x ∷ xs) (suc i) = by_one xs i

  -- the entry at an index is filtered first, then those after it
  pub filtered_step : (xs : List X) (i : ℕ) → filter_map h (drop i xs)
      ≡ cons_option (option_and_then h (slice_get xs i)) (filter_map h (drop (i + 1) xs))
  filtered_step xs i = subst (λ k. filter_map h (drop i xs)
      ≡ cons_option (option_and_then h (slice_get xs i)) (filter_map h (drop k xs))) (sym (add-one i)) (by_one xs i)

module _ {X : Type 0} where
  entry_first : (xs : List X) (i : ℕ) → drop i xs ≡ cons_option (slice_get xs i) (drop (suc i) xs)
  entry_first [] zero = refl
  entry_first [] (suc i) = refl
  entry_first (x ∷ xs) zero = refl
  entry_first (x ∷ xs) (suc i) = entry_first xs i

  -- the entry at an index comes first, then those after it
  pub entry_step : (xs : List X) (i : ℕ) → drop i xs ≡ cons_option (slice_get xs i) (drop (i + 1) xs)
  entry_step xs i =
      subst (λ k. drop i xs ≡ cons_option (slice_get xs i) (drop k xs)) (sym (add-one i)) (entry_first xs i)

  -- where there is none, none comes after it
  pub entry_none : (xs : List X) (i : ℕ) → slice_get xs i ≡ None → drop i xs ≡ []
  entry_none [] zero is = refl
  entry_none [] (suc i) is = refl
  entry_none (x ∷ xs) zero is = absurd cc
  entry_none (x ∷ xs) (suc i) is = entry_none xs i is
