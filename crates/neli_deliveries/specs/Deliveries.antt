-- Who gets what: the handles that get a datagram or a fault of the link.
use Rattle.std.specs.Prelude.{ℕ, Bool, true, false, ◌&&◌, ◌==◌, if◌then◌else◌, List, [], ◌∷◌, ◌++◌, map, Option, Some}
use Rattle.std.specs.Prelude.{None}
use Rattle.std.specs.List.{flat_map}
use Rattle.std.specs.declared.io.ErrorKind.TheVariants.{WouldBlock}
use Rattle.neli_wire.specs.declared.errors.DeError.{DeError}
use Rattle.neli_reader.specs.Cuts.{Cut}
use Rattle.neli_reader.specs.Messages.{Message, message_from}
use Rattle.neli_reader.specs.SocketError.{SocketError}
use Rattle.neli_reader.specs.SocketError.TheVariants as socket
use Rattle.neli_deliveries.specs.declared.delivery.Delivery.{Delivery}
use Rattle.neli_deliveries.specs.declared.delivery.Delivery.TheVariants as delivery
use Rattle.neli_deliveries.specs.declared.delivery.Heading.{Heading}
use Rattle.neli_deliveries.specs.declared.delivery.Heading.TheVariants as heading

-- a message as stored: its type is its number, its body its bytes
abbrev pub Untyped : Type 0
Untyped = Message ℕ (List ℕ)

-- the message as a delivery: one of the handle's own
abbrev pub message : Untyped → Delivery
message m = delivery.Message (message_from m)

-- the message as a delivery: a stray
abbrev pub stray : Untyped → Delivery
stray m = delivery.Stray (message_from m)

-- ---- a datagram

-- the message answers a request: it has the router's port and an open number
abbrev pub is_reply : ℕ → (ℕ → Bool) → Untyped → Bool
is_reply port is_open m = (m.0.port == port) && is_open m.0.sequence_number

-- a message, for the handle with the number q: a reply to it, a reply to another handle, or a stray
abbrev pub message_to : ℕ → (ℕ → Bool) → ℕ → Untyped → List Delivery
message_to port is_open q m =
    if is_reply port is_open m then (if m.0.sequence_number == q then message m ∷ [] else [])
    else stray m ∷ []

-- messages, in their order
abbrev pub messages_to : ℕ → (ℕ → Bool) → ℕ → List Untyped → List Delivery
messages_to port is_open q ms = flat_map (message_to port is_open q) ms

-- the fault that ends a datagram, if there is one
abbrev pub reader_fault : Option DeError → List Delivery
reader_fault None = []
reader_fault (Some e) = delivery.Fault (socket.De e) ∷ []

-- the deliveries of a datagram to the handle with the number q, or to multicast. If it arrived for groups, its messages
-- go to multicast, one by one; else they go to the handles with numbers. Its fault goes to these in both cases.
abbrev pub datagram_share : ℕ → (ℕ → Bool) → Option ℕ → Cut Untyped → List ℕ → List Delivery
datagram_share port is_open None cut [] = []
datagram_share port is_open None cut (g ∷ groups) = map message cut.0
datagram_share port is_open (Some q) cut [] = messages_to port is_open q cut.0 ++ reader_fault cut.1
datagram_share port is_open (Some q) cut (g ∷ groups) = reader_fault cut.1

-- ---- a fault of the link

-- whether it reports that the link would block
abbrev pub is_would_block : SocketError → Bool
is_would_block (socket.Io WouldBlock) = true
is_would_block e = false

-- the deliveries of a fault to the handle with a number, or to multicast
abbrev pub fault_share : Option ℕ → SocketError → List Delivery
fault_share None e = []
fault_share (Some q) e = if is_would_block e then [] else delivery.Fault e ∷ []

-- ---- a list

-- the first delivery that waits, if there is a list and it is not empty
abbrev pub head_of : Option (List Delivery) → Option Delivery
head_of None = None
head_of (Some []) = None
head_of (Some (d ∷ ds)) = Some d

-- a delivery by its message's header: the type and the flags, of what is neither a stray nor a fault
abbrev pub heading_of : Delivery → Heading
heading_of (delivery.Message u) = heading.Message u.header.message_type u.header.flags
heading_of d = heading.Other
