-- Finding a row by its view.
use Rattle.std.proofs.Common.{◌≡◌, refl, ap, ◌∙◌, ℕ, Bool, true, false, List, [], ◌∷◌, Some, map, find, nat_eq, cond}
use Rattle.std.specs.Borrow.{Bor}
use Rattle.std.specs.Option.{option_map}
use Rattle.neli_errno.specs.Errnos.{row_view, errnos, errno_of}

-- the view of the first row found is the first found of all views
find_viewed : {A B : Type 0} (view : A → B) (p : B → Bool) (xs : List A)
    → option_map view (find (λ x. p (view x)) xs) ≡ find p (map view xs)
find_viewed view p [] = refl
find_viewed view p (x ∷ xs) = by (p (view x)) (find_viewed view p xs)
  where
    by : (b : Bool) → option_map view (find (λ x. p (view x)) xs) ≡ find p (map view xs)
        → option_map view (cond b (Some x) (find (λ x. p (view x)) xs)) ≡ cond b (Some (view x)) (find p (map view xs))
    by true e = refl
    by false e = e

-- the row that is found is the table's
pub find_seen : (rows : List (ℕ × Bor (List ℕ) × Bor (List ℕ))) (number : ℕ) → map row_view rows ≡ errnos
    → option_map row_view (find (λ row. nat_eq row.0 number) rows) ≡ errno_of number
find_seen rows number same = find_viewed row_view (λ row. nat_eq row.0 number) rows
    ∙ ap (find (λ row. nat_eq row.0 number)) same
