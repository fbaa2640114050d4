-- The lists that Queues keeps, by number, and what they gain.
use Rattle.std.specs.Prelude.{◌≡◌, ℕ, true, List, Option, Some, None, is_some, nat_eq}
use Rattle.std.specs.HashMap.{get}
use Rattle.neli_deliveries.specs.declared.delivery.Delivery.{Delivery}
use Rattle.neli_queues.specs.declared.piece.Piece.{Piece}
use Rattle.neli_queues.specs.declared.queues.Queues.{Queues}
use Rattle.neli_queues.specs.Pieces.{deliveries_for}

-- the port of the router
abbrev pub kept_port : Queues → ℕ
kept_port s = s.port

-- the deliveries that wait for a number, or for multicast, if it is open
abbrev pub pending_of : Queues → Option ℕ → Option (List Delivery)
pending_of s None = s.multicast
pending_of s (Some q) = get nat_eq s.numbers q

-- the share of a list in deliveries for multicast and in pieces
abbrev pub share_of_both : List Delivery → List Piece → Option ℕ → List Delivery
share_of_both multicast_deliveries ps None = multicast_deliveries
share_of_both multicast_deliveries ps (Some q) = deliveries_for q ps

-- each open list gains its share of them
abbrev pub AreDue : Queues → (Option ℕ → List Delivery) → List Delivery → List Piece → Type 0
AreDue s due multicast_deliveries ps = (w : Option ℕ) → is_some (pending_of s w) ≡ true
    → share_of_both multicast_deliveries ps w ≡ due w
