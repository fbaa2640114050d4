-- Lines that are noted as the first with their keys.
use Rattle.std.proofs.Common.{◌≡◌, ◌∙◌, ℕ, zero, suc, true, List, [], ◌∷◌, ◌++◌, length, Option, Some}
use Rattle.std.proofs.Common.{None, sym, ap}
use Rattle.std.specs.Prelude.{IfSome, slice_get}
use Rattle.neli_tables.specs.Index.{has_that}
use Rattle.neli_tables.specs.RowKeys.{Key, has_key}
use Rattle.neli_tables.proofs.Keyed.{key_is}

-- what is found for the keys that are noted is where they are
abbrev pub AreFound : (Key → Option ℕ) → (ℕ → ℕ) → List (Option Key) → Type 0
AreFound finds at keys = (i : ℕ) (key : Key) → has_that key (slice_get keys i) ≡ true → finds key ≡ Some (at i)

-- one key more
more : (finds : Key → Option ℕ) (at : ℕ → ℕ) (keys : List (Option Key)) (k : Option Key)
    → AreFound finds at keys → ((key : Key) → has_key key k ≡ true → finds key ≡ Some (at (length keys)))
    → AreFound finds at (keys ++ k ∷ [])
more finds at [] (Some k) all here zero key e = here key e
more finds at [] None all here zero key e = absurd cc
more finds at [] k all here (suc i) key e = absurd cc
more finds at (x ∷ xs) k all here zero key e = all zero key e
more finds at (x ∷ xs) k all here (suc i) key e =
    more finds (λ j. at (suc j)) xs k (λ j. all (suc j)) here i key e

found : (finds : Key → Option ℕ) (place : ℕ) (k : Option Key) → IfSome k (λ key. finds key ≡ Some place)
    → (key : Key) → has_key key k ≡ true → finds key ≡ Some place
found finds place (Some k) is key e = sym (ap finds (key_is key k e)) ∙ is
found finds place None is key e = absurd cc

pub noted_more : (finds : Key → Option ℕ) (keys : List (Option Key)) (place : ℕ) (k : Option Key)
    → AreFound finds (λ i. i) keys → length keys ≡ place → IfSome k (λ key. finds key ≡ Some place)
    → AreFound finds (λ i. i) (keys ++ k ∷ [])
noted_more finds keys place k all many is =
    more finds (λ i. i) keys k all (λ key e. found finds place k is key e ∙ ap (λ (n : ℕ). Some n) (sym many))
