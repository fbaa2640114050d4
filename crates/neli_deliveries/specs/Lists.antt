-- How a call changes the lists that wait, in the words of contracts.
use Rattle.std.specs.Prelude.{ℕ, ◌≡◌, ◌≢◌, List, [], ◌++◌, Option, Some}
use Rattle.std.specs.Option.{option_map}

-- ---- the lists before a call and after it, that of multicast (None) too

-- each is unchanged
abbrev pub SameLists : {A : Type 0} → (Option ℕ → A) → (Option ℕ → A) → Type 0
SameLists before after = (w : Option ℕ) → after w ≡ before w

-- each is unchanged, except that of this number, or of multicast
abbrev pub SameListsBut : {A : Type 0} → Option ℕ → (Option ℕ → A) → (Option ℕ → A) → Type 0
SameListsBut whose before after = (w : Option ℕ) → w ≢ whose → after w ≡ before w

-- that of this number now exists and is empty, and no other has changed
abbrev pub Opens : {A : Type 0} → ℕ → (Option ℕ → Option (List A)) → (Option ℕ → Option (List A)) → Type 0
Opens number before after = (after (Some number) ≡ Some []) × SameListsBut (Some number) before after

-- each open list gains its share, after the deliveries that wait there
abbrev pub ListsGain : {A : Type 0} → (Option ℕ → List A) → (Option ℕ → Option (List A)) → (Option ℕ → Option (List A))
    → Type 0
ListsGain share before after = (w : Option ℕ) → after w ≡ option_map (λ xs. xs ++ share w) (before w)
