-- Lists of attributes: their places in the bytes of a message or of an attribute, and look-up in them.
use Rattle.std.specs.Prelude.{◌≡◌, ◌≢◌, ℕ, ◌+◌, ◌^◌, ℤ, Bool, min, nat_lt, if◌then◌else◌, List}
use Rattle.neli_wire.specs.Sizes.{align}
use Rattle.neli_c_parts.specs.declared.message.NeliWalk.{NeliWalk}
use Rattle.neli_c_parts.specs.declared.message.NeliMessage.{NeliMessage}
use Rattle.neli_c_parts.specs.declared.message.NeliAttribute.{NeliAttribute}
use Rattle.neli_c_parts.specs.Codes.{ok, place, short}
use Rattle.neli_c_parts.specs.Walks.{GivesAttribute, attribute_layout, bytes_left, walk_code}

-- a payload of so many bytes at this place fits memory
abbrev pub fits : ℕ → ℕ → Bool
fits at n = nat_lt (at + n) (2 ^ 63)

-- after a body's header of so many bytes
abbrev pub attributes_code : NeliMessage → ℕ → ℤ
attributes_code m header_size =
    if fits m.payload m.payload_length then (if nat_lt m.payload_length header_size then short else ok) else place

-- the walk goes over what follows that header, rounded up to four
abbrev pub walk_after : NeliMessage → ℕ → NeliWalk
walk_after m header_size =
    record { place = m.payload + min (align header_size) m.payload_length; end = m.payload + m.payload_length }

-- of an attribute's payload
abbrev pub list_code : NeliAttribute → ℤ
list_code a = if fits a.payload a.payload_length then ok else place

abbrev pub walk_over : NeliAttribute → NeliWalk
walk_over a = record { place = a.payload; end = a.payload + a.payload_length }

-- a walk goes on to a place over attributes with other numbers
pub data Passes (bytes : List ℕ) (number : ℕ) (w : NeliWalk) : NeliWalk → Type 0 where
  none : Passes bytes number w w
  one : {u v : NeliWalk} (a : NeliAttribute) → Passes bytes number w u → GivesAttribute bytes u v a → a.number ≢ number
      → Passes bytes number w v

-- the attribute is the first with this number in the rest of a walk
abbrev pub IsFound : List ℕ → NeliWalk → ℕ → NeliAttribute → Type 0
IsFound bytes w number a =
    (at : NeliWalk) × (after : NeliWalk) × Passes bytes number w at × GivesAttribute bytes at after a
    × (a.number ≡ number)

-- none with this number comes before the walk's end, or before the part that is refused with this code
abbrev pub FindsNone : List ℕ → NeliWalk → ℕ → ℤ → Type 0
FindsNone bytes w number code =
    (at : NeliWalk) × Passes bytes number w at × (code ≡ walk_code attribute_layout (bytes_left bytes at))
