-- How a call changes the lists that wait, in the words of contracts.
use Rattle.std.specs.Prelude.{ℕ, ◌≡◌, ◌≢◌, Option}

-- ---- the lists before a call and after it, that of multicast (None) too

-- each is unchanged
abbrev pub SameLists : {A : Type 0} → (Option ℕ → A) → (Option ℕ → A) → Type 0
SameLists before after = (w : Option ℕ) → after w ≡ before w

-- each is unchanged, except that of this number, or of multicast
abbrev pub SameListsBut : {A : Type 0} → Option ℕ → (Option ℕ → A) → (Option ℕ → A) → Type 0
SameListsBut whose before after = (w : Option ℕ) → w ≢ whose → after w ≡ before w
