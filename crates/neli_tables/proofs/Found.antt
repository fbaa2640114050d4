-- Finding a row by its view.
use Rattle.std.proofs.Common.{◌≡◌, refl, Bool, true, false, List, [], ◌∷◌, Some, map, find, cond}
use Rattle.std.specs.Option.{option_map}

-- the view of the first row found is the first view found
pub find_viewed : {A B : Type 0} (view : A → B) (p : B → Bool) (xs : List A)
    → option_map view (find (λ x. p (view x)) xs) ≡ find p (map view xs)
find_viewed view p [] = refl
find_viewed view p (x ∷ xs) = by (p (view x)) (find_viewed view p xs)
  where
    by : (b : Bool) → option_map view (find (λ x. p (view x)) xs) ≡ find p (map view xs)
        → option_map view (cond b (Some x) (find (λ x. p (view x)) xs)) ≡ cond b (Some (view x)) (find p (map view xs))
    by true e = refl
    by false e = e
