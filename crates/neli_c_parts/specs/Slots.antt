-- The places of handles: the content of each, and the free ones.
use Rattle.std.specs.Prelude.{◌≡◌, ◌≢◌, ⊤, ℕ, List, [], ◌∷◌, ◌++◌, Option, Some, None, length, nat_lt}
use Rattle.std.specs.Prelude.{slice_get}
use Rattle.std.specs.Prelude.{slice_set, if◌then◌else◌}
use Rattle.neli_router.specs.declared.handle.HandleState.{HandleState}
use Rattle.neli_c_parts.specs.declared.session.Slot.{Slot}
use Rattle.neli_c_parts.specs.declared.session.Slot.TheVariants as slot

-- the handle at a place, if there is one
abbrev pub handle_in : Option Slot → Option HandleState
handle_in (Some (slot.Open h)) = Some h
handle_in e = None

abbrev pub handle_at : ℕ → List Slot → Option HandleState
handle_at k slots = handle_in (slice_get slots k)

-- a place is none of these
abbrev pub IsApart : ℕ → List ℕ → Type 0
IsApart k [] = ⊤
IsApart k (j ∷ later) = (j ≢ k) × IsApart k later

-- these places are free, the one that was freed last first: each names the next one, and 0 ends them
abbrev pub AreFree : List Slot → ℕ → List ℕ → Type 0
AreFree slots first [] = first ≡ 0
AreFree slots first (k ∷ later) =
    (first ≡ k) × (k ≢ 0) × IsApart k later
    × ((next : ℕ) × (slice_get slots k ≡ Some (slot.Free next)) × AreFree slots next later)

-- a handle is put at a place that had none: an existing one, or a new one after them
abbrev pub put_at : ℕ → HandleState → List Slot → List Slot
put_at k h slots = if nat_lt k (length slots) then slice_set slots k (slot.Open h) else slots ++ slot.Open h ∷ []

-- the place for a handle: the first of the free ones, or a new one if none is free
abbrev pub next_place : List Slot → List ℕ → ℕ
next_place slots [] = length slots
next_place slots (k ∷ later) = k

-- the free ones then
abbrev pub later_places : List ℕ → List ℕ
later_places [] = []
later_places (k ∷ later) = later
