-- Pieces: deliveries on their way to the lists of their numbers.
use Rattle.std.specs.Prelude.{◌≡◌, ◌+◌, ◌<◌, ◌^◌, ◌==◌, ℕ, Bool, if◌then◌else◌, List, [], length, is_some, Option, Some}
use Rattle.std.specs.Prelude.{nat_eq}
use Rattle.std.specs.List.{flat_map}
use Rattle.std.specs.HashMap.{HashMap, get}
use Rattle.neli_deliveries.specs.declared.delivery.Delivery.{Delivery}
use Rattle.neli_queues.specs.declared.piece.Piece.{Piece}

-- whether there is a list for a number
abbrev pub is_open : {S : Type 0} → HashMap ℕ (List Delivery) S → ℕ → Bool
is_open numbers q = is_some (get nat_eq numbers q)

-- the deliveries of a piece for the number q
abbrev pub share : ℕ → Piece → List Delivery
share q p = if p.number == q then p.list else []

-- the deliveries of pieces for the number q, in their order
abbrev pub deliveries_for : ℕ → List Piece → List Delivery
deliveries_for q ps = flat_map (share q) ps

-- each list has room for the gain of its number; `at` is the list of a number
abbrev pub HaveRoom : (ℕ → Option (List Delivery)) → List Piece → Type 0
HaveRoom at ps =
    (q : ℕ) (ds : List Delivery) → at q ≡ Some ds → 0 < length (deliveries_for q ps)
    → length ds + length (deliveries_for q ps) < 2 ^ 63
