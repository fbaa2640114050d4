-- The receivers of entries.
use Rattle.std.specs.Prelude.{ℕ, suc, Bool, true, false, ◌==◌, nat_le, if◌then◌else◌, List, [], ◌∷◌}
use Rattle.std.specs.Prelude.{Option, Some, None}
use Rattle.neli_log.specs.declared.entry.Route.{Route}
use Rattle.neli_log.specs.declared.entry.Route.TheVariants.{Multicast, Number, Numbers}
use Rattle.neli_log.specs.declared.entry.Entry.{Entry}

-- whether an entry with this route goes to a number, or to multicast (None)
abbrev pub leads : Option ℕ → Route → Bool
leads None Multicast = true
leads None (Number n) = false
leads None Numbers = false
leads (Some q) Multicast = false
leads (Some q) (Number n) = n == q
leads (Some q) Numbers = true

-- the same, and to no other list
abbrev pub leads_only : Option ℕ → Route → Bool
leads_only None Multicast = true
leads_only None (Number n) = false
leads_only None Numbers = false
leads_only (Some q) Multicast = false
leads_only (Some q) (Number n) = n == q
leads_only (Some q) Numbers = false

-- whether it goes to all open numbers
abbrev pub is_shared : Route → Bool
is_shared Multicast = false
is_shared (Number n) = false
is_shared Numbers = true

-- an entry with this item and this route
abbrev pub entry : {T : Type 0} → T → Route → Entry T
entry item route = record { item = item; route = route }

-- the items of the entries that go there, in their order
abbrev pub items_for : {T : Type 0} → Option ℕ → List (Entry T) → List T
items_for w [] = []
items_for w (e ∷ es) = if leads w e.route then e.item ∷ items_for w es else items_for w es

-- the position of the first entry whose route passes, if the first entry of all has the position n
abbrev pub first_position : {T : Type 0} → (Route → Bool) → ℕ → List (Entry T) → Option ℕ
first_position p n [] = None
first_position p n (e ∷ es) = if p e.route then Some n else first_position p (suc n) es

-- the positions of the entries for all numbers
abbrev pub shared_positions : {T : Type 0} → ℕ → List (Entry T) → List ℕ
shared_positions n [] = []
shared_positions n (e ∷ es) = if is_shared e.route then n ∷ shared_positions (suc n) es else shared_positions (suc n) es

-- their number
abbrev pub shared_count : {T : Type 0} → List (Entry T) → ℕ
shared_count [] = 0
shared_count (e ∷ es) = if is_shared e.route then suc (shared_count es) else shared_count es

-- the lesser of two positions, if there are two
abbrev pub lesser_of : Option ℕ → Option ℕ → Option ℕ
lesser_of None b = b
lesser_of (Some a) None = Some a
lesser_of (Some a) (Some b) = if nat_le a b then Some a else Some b
