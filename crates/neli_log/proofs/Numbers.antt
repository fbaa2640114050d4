-- The table of places by number: a number is added, removed, or given another place.
use Rattle.std.proofs.Common.{ℕ, zero, suc, ◌≡◌, ◌+◌, ◌<◌, true, false, List, [], ◌∷◌, ◌++◌}
use Rattle.std.proofs.Common.{length, get_or}
use Rattle.std.proofs.Common.{IfSome, inl, inr, position, Option, Some, None, refl, sym, ap, ◌∙◌, arith}
use Rattle.std.proofs.Common.{sum_by, nat_eq, swap_remove}
use Rattle.std.specs.List.{slice_get, IsDistinct, AllByRecursion}
use Rattle.std.specs.HashMap.{HashMap, get, values}
use Rattle.std.specs.Map.{keys_of, lookup_key, set_value, values_of}
use Rattle.std.proofs.lemmas.Bool.Decides.{nat_tests}
use Rattle.std.proofs.lemmas.List.Sums.{sum_by-append, sum_by-cons, sum_by-swap_remove}
use Rattle.std.proofs.lemmas.Map.Keys.{IsDistinct-head, IsDistinct-tail}
use Rattle.indexmap.specs.IndexMap.{insert_entry, swap_remove_entry, set_value_at}
use Rattle.indexmap.proofs.CallerLemmas.{insert_entry-new}
use Rattle.indexmap.proofs.MapLemmas.{Found-position, swap_remove_entry-found}
use Rattle.neli_log.specs.declared.place.Place.{Place}
use Rattle.neli_log.proofs.Pops.{true_or_false}
use Rattle.neli_log.proofs.Waits.{eqb_same}

module _ (f : Place → ℕ) where
  sum_entries : (es : List (ℕ × Place)) → sum_by f (values_of es) ≡ sum_by (λ e. f e.1) es
  sum_entries [] = refl
  sum_entries (e ∷ es) =
      let a = sum_by-cons f e.1 (values_of es) in let b = sum_by-cons (λ x. f x.1) e es in let c = sum_entries es in
      omega (arith, a, b, c)

  pub sum_inserted : {S : Type 0} (m n : HashMap ℕ Place S) (q : ℕ) (x : Place) → get nat_eq m q ≡ None
      → n.entries ≡ insert_entry nat_eq m.entries q x → sum_by f (values n) ≡ sum_by f (values m) + f x
  sum_inserted m n q x none puts =
      let last : n.entries ≡ m.entries ++ (q, x) ∷ [] = puts ∙ insert_entry-new nat_eq m q x none in
      let a = ap (λ es. sum_by f (values_of es)) last in
      let b = sum_entries (m.entries ++ (q, x) ∷ []) in
      let c = sum_by-append (λ e. f e.1) m.entries ((q, x) ∷ []) in
      let d = sum_entries m.entries in
      let e = sum_by-cons (λ (e : ℕ × Place). f e.1) (q, x) [] in
      omega (arith, a, b, c, d, e)

  value_at : (es : List (ℕ × Place)) (i : ℕ) (d : ℕ × Place) (y : Place) → slice_get (values_of es) i ≡ Some y
      → (get_or es i d).1 ≡ y
  value_at [] i d y h = cc
  value_at (e ∷ es) zero d y h = cc
  value_at (e ∷ es) (suc i) d y h = value_at es i d y h

  pub sum_removed : {S : Type 0} (m n : HashMap ℕ Place S) (q i : ℕ) (y : Place)
      → position (nat_eq q) (keys_of m.entries) ≡ Some i → n.entries ≡ swap_remove_entry (nat_eq q) m.entries
      → get nat_eq m q ≡ Some y → sum_by f (values n) + f y ≡ sum_by f (values m)
  sum_removed m n q i y at less is =
      let there = Found-position (nat_eq q) m.entries i at in
      let gone : n.entries ≡ swap_remove m.entries i (q, y) =
      less ∙ swap_remove_entry-found (nat_eq q) m.entries i (q, y) at in
      let a = ap (λ es. sum_by f (values_of es)) gone in
      let b = sum_entries (swap_remove m.entries i (q, y)) in
      let c = sum_by-swap_remove (λ e. f e.1) m.entries i (q, y) there.within in
      let d = ap f (value_at m.entries i (q, y) y (sym there.value ∙ is)) in
      let e = sum_entries m.entries in
      omega (arith, a, b, c, d, e)

apart : {X : Type 0} (x : ℕ) (es : List (ℕ × X)) (i q : ℕ) (y : X)
    → AllByRecursion (λ k. nat_eq x k ≡ false) (keys_of es) → slice_get es i ≡ Some (q, y) → nat_eq q x ≡ false
apart x [] i q y all h = cc
apart x (e ∷ es) zero q y all h = let same : e ≡ (q, y) = cc in let key : e.0 ≡ q = ap (λ p. p.0) same in
    let other = all.0 in grind (arith, nat_tests, other, key)
apart x (e ∷ es) (suc i) q y all h = apart x es i q y all.1 h

-- the place at an index of the table has a value there
pub none_there : {X : Type 0} (es : List (ℕ × X)) (i q : ℕ) (y : X) → slice_get es i ≡ Some (q, y)
    → None ≡ slice_get (values_of es) i → ⊥
none_there [] i q y h none = cc
none_there (e ∷ es) zero q y h none = cc
none_there (e ∷ es) (suc i) q y h none = none_there es i q y h none

key_passes : {X : Type 0} (q k : ℕ) (es : List (ℕ × X)) → lookup_key (nat_eq q) es ≡ Some k → q ≡ k
key_passes q k [] h = cc
key_passes q k (e ∷ es) h = elim (true_or_false (nat_eq q e.0)) [
  | inl it ↦ (let f = rw it at h in let same : e.0 ≡ k = cc in eqb_same q e.0 it ∙ same)
  | inr it ↦ (let f = rw it at h in key_passes q k es f)
]

entry_of_key : {X : Type 0} (es : List (ℕ × X)) (i : ℕ) → i < length es
    → (k : ℕ) × (y : X) × (slice_get (keys_of es) i ≡ Some k) × (slice_get es i ≡ Some (k, y))
entry_of_key [] i h = absurd (omega arith)
entry_of_key (e ∷ es) zero h = (e.0, e.1, refl, refl)
entry_of_key (e ∷ es) (suc i) h = entry_of_key es i (omega arith)

-- at the index of a number's key its place stands
pub found_at : {X S : Type 0} (m : HashMap ℕ X S) (q : ℕ) (o : Option ℕ)
    → o ≡ position (nat_eq q) (keys_of m.entries)
    → IfSome o (λ i. (y : X) × (slice_get m.entries i ≡ Some (q, y)))
found_at m q None at = tt
found_at m q (Some i) at =
    let there = Found-position (nat_eq q) m.entries i (sym at) in
    let e = entry_of_key m.entries i there.within in
    let same : q ≡ e.0 = key_passes q e.0 m.entries (there.key ∙ e.2) in
    (e.1, e.3 ∙ ap (λ k. Some (k, e.1)) (sym same))

-- the place at an index of the table is its number's
pub set_at : {X : Type 0} (es : List (ℕ × X)) (i q : ℕ) (y w : X) → IsDistinct nat_eq (keys_of es)
    → slice_get es i ≡ Some (q, y) → set_value_at es i w ≡ set_value (nat_eq q) es w
set_at [] i q y w unique h = refl
set_at (e ∷ es) zero q y w unique h =
    let same : e ≡ (q, y) = cc in let key : e.0 ≡ q = ap (λ p. p.0) same in
    let test : nat_eq q e.0 ≡ true = grind (arith, nat_tests, key) in rw test refl
set_at (e ∷ es) (suc i) q y w unique h =
    let test : nat_eq q e.0 ≡ false = apart e.0 es i q y (IsDistinct-head nat_eq e.0 (keys_of es) unique) h in
    rw test (ap (λ l. e ∷ l) (set_at es i q y w (IsDistinct-tail nat_eq e.0 (keys_of es) unique) h))
