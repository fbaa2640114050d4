-- The deliveries of a datagram with their routes, each once.
use Rattle.std.specs.Prelude.{◌≡◌, ◌⊎◌, ℕ, Bool, List, [], ◌∷◌, ◌++◌, map, Option, Some, None}
use Rattle.std.specs.Prelude.{if◌then◌else◌, is_some}
use Rattle.neli_wire.specs.declared.errors.DeError.{DeError}
use Rattle.neli_reader.specs.Cuts.{Cut}
use Rattle.neli_reader.specs.SocketError.TheVariants as socket
use Rattle.neli_deliveries.specs.declared.delivery.Delivery.{Delivery}
use Rattle.neli_deliveries.specs.declared.delivery.Delivery.TheVariants as delivery
use Rattle.neli_deliveries.specs.Deliveries.{Untyped, is_reply, message, stray}
use Rattle.neli_log.specs.declared.entry.Entry.{Entry}
use Rattle.neli_log.specs.declared.entry.Route.TheVariants as route
use Rattle.neli_log.specs.Places.{HasReader}
use Rattle.neli_log.specs.Routes.{entry}

-- whether a number is open, if the lists are these
abbrev pub is_open : {T : Type 0} → (Option ℕ → Option (List T)) → ℕ → Bool
is_open pending q = is_some (pending (Some q))

-- a message: for multicast if it arrived for groups, else for the number that it answers, or as a stray for all numbers
abbrev pub message_routed : ℕ → (ℕ → Bool) → List ℕ → Untyped → Entry Delivery
message_routed port is_open [] m =
    if is_reply port is_open m then entry (message m) (route.Number m.0.sequence_number)
    else entry (stray m) route.Numbers
message_routed port is_open (g ∷ groups) m = entry (message m) route.Multicast

-- the fault that ends a datagram, if there is one: for all numbers
abbrev pub fault_routed : Option DeError → List (Entry Delivery)
fault_routed None = []
fault_routed (Some e) = entry (delivery.Fault (socket.De e)) route.Numbers ∷ []

-- a datagram that arrived for these groups: its messages, and then its fault
abbrev pub datagram_routed : ℕ → (ℕ → Bool) → List ℕ → Cut Untyped → List (Entry Delivery)
datagram_routed port is_open groups cut = map (message_routed port is_open groups) cut.0 ++ fault_routed cut.1

-- the entries are those of `ds` that have a receiver, if these lists are open: each once, in the same order
abbrev pub AreAwaited : {T : Type 0} → (Option ℕ → Option (List T)) → List (Entry Delivery) → List (Entry Delivery)
    → Type 0
AreAwaited pending [] es = es ≡ []
AreAwaited pending (d ∷ ds) es =
    (HasReader pending d.route × (later : List (Entry Delivery)) × (es ≡ d ∷ later) × AreAwaited pending ds later)
    ⊎ ((HasReader pending d.route → ⊥) × AreAwaited pending ds es)
