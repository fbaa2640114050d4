-- Entries and the places among them: the items that a list waits for, and their form in the fields.
use Rattle.std.specs.Prelude.{ℕ, zero, suc, ◌≡◌, ◌≤◌, ◌<◌, ◌+◌, ◌-◌, ◌^◌, true, ◌==◌, List, [], ◌∷◌}
use Rattle.std.specs.Prelude.{◌++◌, Option, Some}
use Rattle.std.specs.Prelude.{None, length, drop, take, map, count_by, nat_eq, slice_set}
use Rattle.std.specs.Option.{is_some, option_map}
use Rattle.std.specs.List.{slice_get}
use Rattle.std.specs.HashMap.{get, spare, values}
use Rattle.std.specs.VecDeque.{deque_len, deque_capacity}
use Rattle.neli_log.specs.declared.entry.Entry.{Entry}
use Rattle.neli_log.specs.declared.entry.Route.{Route}
use Rattle.neli_log.specs.declared.place.Chain.{Chain}
use Rattle.neli_log.specs.declared.place.Place.{Place}
use Rattle.neli_log.specs.declared.place.Shared.{Shared}
use Rattle.neli_log.specs.declared.places.Places.{Places}
use Rattle.neli_log.specs.Routes.{leads, leads_only, items_for, first_position, shared_positions}
use Rattle.neli_log.specs.Routes.{shared_count}

-- ---- the items that a list waits for

-- the kept entries, the earliest first
abbrev pub entries_of : {T : Type 0} → Places T → List (Entry T)
entries_of s = s.entries.items

-- the place of a number, or of multicast (None), if it is open
abbrev pub place_of : {T : Type 0} → Places T → Option ℕ → Option Place
place_of s None = s.multicast
place_of s (Some q) = get nat_eq s.numbers q

-- the entries from a place on, if the first entry of all has the position `base`
abbrev pub rest : {T : Type 0} → ℕ → List (Entry T) → Place → List (Entry T)
rest base es p = drop (p.from - base) es

-- the items that a list waits for, if it is open: those of the entries from its place on with its route
abbrev pub pending_of : {T : Type 0} → Places T → Option ℕ → Option (List T)
pending_of s w = option_map (λ p. items_for w (rest s.base s.entries.items p)) (place_of s w)

-- the first item of a list that exists and is not empty
abbrev pub head_of : {T : Type 0} → Option (List T) → Option T
head_of None = None
head_of (Some []) = None
head_of (Some (x ∷ xs)) = Some x

-- the entry is added after the others: each list to which it goes gains its item
abbrev pub Gains : {T : Type 0} → (Option ℕ → Option (List T)) → Entry T → (Option ℕ → Option (List T)) → Type 0
Gains before e after = (w : Option ℕ) → after w ≡ option_map (λ xs. xs ++ items_for w (e ∷ [])) (before w)

-- an entry with this route has a receiver: a list to which it goes is open
abbrev pub HasReader : {T : Type 0} → (Option ℕ → Option (List T)) → Route → Type 0
HasReader pending route = (w : Option ℕ) × (is_some (pending w) ≡ true) × (leads w route ≡ true)

-- the position of the first entry that a place of w waits for
abbrev pub next_position : {T : Type 0} → Places T → Option ℕ → Place → Option ℕ
next_position s w p = first_position (leads w) (s.base + (p.from - s.base)) (rest s.base s.entries.items p)

-- this holds of the route of the entry at position m
abbrev pub RouteAt : {T : Type 0} → Places T → ℕ → (Route → Type 0) → Type 0
RouteAt {T} s m P = (e : Entry T) → slice_get s.entries.items (m - s.base) ≡ Some e → P e.route

-- ---- chains: the entries from index k on that go to one list only

-- the first and the last of them
abbrev pub IsChain : {T : Type 0} → Option ℕ → ℕ → List (Entry T) → ℕ → Option Chain → Type 0
IsChain {T} w base es k None = first_position (leads_only w) (base + k) (drop k es) ≡ None
IsChain {T} w base es k (Some c) =
    (first_position (leads_only w) (base + k) (drop k es) ≡ Some c.first)
    × (c.first ≤ c.last) × (c.last < base + length es)
    × ((e : Entry T) → slice_get es (c.last - base) ≡ Some e → leads_only w e.route ≡ true)
    × (first_position (leads_only w) (suc c.last) (drop (suc (c.last - base)) es) ≡ None)

-- each of them has the position of the next one as its link
abbrev pub IsLinked : {T : Type 0} → Option ℕ → ℕ → List (Entry T) → List (Option ℕ) → ℕ → Type 0
IsLinked {T} w base es links k =
    (i : ℕ) (e : Entry T) → k ≤ i → slice_get es i ≡ Some e → leads_only w e.route ≡ true
    → slice_get links i ≡ Some (first_position (leads_only w) (suc (base + i)) (drop (suc i) es))

-- the position of the first
abbrev pub start : Option Chain → Option ℕ
start None = None
start (Some c) = Some c.first

-- the chain without its first entry, which has this link
abbrev pub without_first : Option Chain → Option ℕ → Option Chain
without_first None link = None
without_first (Some c) None = None
without_first (Some c) (Some m) = Some (record { first = m; last = c.last })

-- the chain with one more entry, at position m
abbrev pub with_last : Option Chain → ℕ → Chain
with_last None m = record { first = m; last = m }
with_last (Some c) m = record { first = c.first; last = m }

-- the place whose chain has one more entry, at position m
abbrev pub extended : Place → ℕ → Place
extended p m = record { from = p.from; chain = Some (with_last p.chain m); shared_passed = p.shared_passed }

-- the links where the last entry of the chain gets a next one, at position m
abbrev pub links_with : ℕ → Option Chain → ℕ → List (Option ℕ) → List (Option ℕ)
links_with base None m links = links
links_with base (Some c) m links = slice_set links (c.last - base) (Some m)

-- ---- entries for all numbers: the serial number of one is the number of those before it

-- the number of places that wait for that with the serial number n before any other
abbrev pub waiting_count : ℕ → List Place → ℕ
waiting_count n ps = count_by (λ p. p.shared_passed == n) ps

-- the same in the stored form, by index: for each such entry, and for the next one, which has not arrived
abbrev pub readers_at : List Shared → ℕ → ℕ → ℕ
readers_at [] caught_up zero = caught_up
readers_at [] caught_up (suc n) = 0
readers_at (s ∷ ss) caught_up zero = s.readers
readers_at (s ∷ ss) caught_up (suc n) = readers_at ss caught_up n

-- a place counts those before it
abbrev pub CountsPassed : {T : Type 0} → ℕ → ℕ → List (Entry T) → Place → Type 0
CountsPassed shared_base base es p = p.shared_passed ≡ shared_base + shared_count (take (p.from - base) es)

-- ---- the whole

-- a place in its stored form
pub record IsPlace {T : Type 0} (w : Option ℕ) (base : ℕ) (es : List (Entry T)) (links : List (Option ℕ))
    (p : Place) : Type 0 where
  pub within : p.from ≤ base + length es
  pub chain : IsChain w base es (p.from - base) p.chain
  pub linked : IsLinked w base es links (p.from - base)

-- the fields agree with the entries: `place` are the places, `numbers` those of numbers in any order
pub record AreSound {T : Type 0} (place : Option ℕ → Option Place) (numbers : List Place)
    (base shared_base caught_up : ℕ) (es : List (Entry T)) (links : List (Option ℕ))
    (shared : List Shared) : Type 0 where
  pub fits : base + length es < 2 ^ 64
  pub shared_fits : shared_base + length shared ≤ base + length es
  pub as_long : length links ≡ length es
  pub places : (w : Option ℕ) (p : Place) → place w ≡ Some p → IsPlace w base es links p
  pub passed : (q : ℕ) (p : Place) → place (Some q) ≡ Some p → CountsPassed shared_base base es p
  pub positions_are : map (λ x. x.at) shared ≡ shared_positions base es
  pub standing_are : (n : ℕ) → readers_at shared caught_up n ≡ waiting_count (shared_base + n) numbers

-- the same of these fields
abbrev pub IsSound : {T : Type 0} → Places T → Type 0
IsSound s = AreSound (place_of s) (values s.numbers) s.base s.shared_base s.caught_up s.entries.items s.links.items
    s.shared.items

-- a place stands at the first entry, which has this route and so goes there
abbrev pub AwaitsFirst : (Option ℕ → Option Place) → ℕ → Route → Type 0
AwaitsFirst place base route =
    (w : Option ℕ) × (p : Place) × (place w ≡ Some p) × (p.from ≤ base) × (leads w route ≡ true)

-- each place to which the first entry goes, with this route, is past it
abbrev pub HavePassedFirst : (Option ℕ → Option Place) → ℕ → Route → Type 0
HavePassedFirst place base route = (w : Option ℕ) (p : Place) → place w ≡ Some p → leads w route ≡ true → base < p.from

-- no entry is kept, or the least place stands at the first entry
abbrev pub BeginsAwaited : {T : Type 0} → (Option ℕ → Option Place) → ℕ → List (Entry T) → Type 0
BeginsAwaited place base [] = Unit {0}
BeginsAwaited place base (e ∷ es) = AwaitsFirst place base e.route

-- no entry is kept before the least place, and none at all without a place
pub record IsTrimmed {T : Type 0} (s : Places T) : Type 0 where
  pub sound : IsSound s
  pub begins : BeginsAwaited (place_of s) s.base s.entries.items

-- the first entry has this route
abbrev pub BeginsWith : {T : Type 0} → Places T → Route → Type 0
BeginsWith {T} s route = (e : Entry T) × (es : List (Entry T)) × (s.entries.items ≡ e ∷ es) × (e.route ≡ route)

-- there is room for n more entries
pub record HasRoom {T : Type 0} (n : ℕ) (s : Places T) : Type 0 where
  pub positions : s.base + length s.entries.items + n < 2 ^ 64
  pub entries : deque_len s.entries + n ≤ deque_capacity s.entries
  pub links : deque_len s.links + n ≤ deque_capacity s.links
  pub shared : deque_len s.shared + n ≤ deque_capacity s.shared

-- there is room for the place of one more number
abbrev pub HasPlaceRoom : {T : Type 0} → Places T → Type 0
HasPlaceRoom s = 0 < spare s.numbers

-- what room there was for more entries is left
abbrev pub KeepsRoom : {T : Type 0} → Places T → Places T → Type 0
KeepsRoom before after = (n : ℕ) → HasRoom n before → HasRoom n after

-- what room there was for the places of more numbers is left
abbrev pub KeepsPlaceRoom : {T : Type 0} → Places T → Places T → Type 0
KeepsPlaceRoom before after = spare before.numbers ≤ spare after.numbers

-- what room there was for one more entry, beside it, is left
abbrev pub LeavesRoom : {T : Type 0} → Places T → Places T → Type 0
LeavesRoom before after = (n : ℕ) → HasRoom (n + 1) before → HasRoom n after
