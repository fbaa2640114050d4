-- Parts of inputs.
use Rattle.std.specs.Prelude.{ℕ, None, Ok}
use Rattle.neli_inputs.specs.declared.item.Item.{Item}
use Rattle.neli_inputs.specs.declared.item.Packet.{Packet}

-- the datagram from one place up to another, of which nothing else is stated
abbrev pub bare_packet : ℕ → ℕ → Packet
bare_packet start end =
    record { family = None; kind = None; time = None; interface = None; start = start; «end» = end }

-- it as an item at this place
abbrev pub bare_item : ℕ → ℕ → ℕ → Item
bare_item place start end = record { place = place; packet = Ok (bare_packet start end) }
