-- Messages that are being written, and their bodies.
use Rattle.std.specs.Prelude.{◌≡◌, ℕ, true, List, [], ◌∷◌, ◌++◌, length, map, take, Option, Some, None}
use Rattle.byteorder.specs.Endian.{little_bytes}
use Rattle.neli_tables.specs.Families.{Lines}
use Rattle.neli_tables_walk.specs.declared.generic.GenericHeader.{GenericHeader}
use Rattle.neli_tables_walk.specs.Bodies.{body_items}
use Rattle.neli_tables_write.specs.declared.message.Message.{Message}
use Rattle.neli_tables_write.specs.Asked.{AskedSeen, asked_view, says}

-- what is asked of a message, in order
abbrev pub asked_of : Message → List AskedSeen
asked_of m = map asked_view m.asked.items

-- a message: its table and its line, the header of generic netlink, the structure at the front of the body, and what is
-- asked for
pub record MessageSeen : Type 0 where
  pub table : Lines
  pub line : ℕ
  pub generic : Option GenericHeader
  pub header : List ℕ
  pub asked : List AskedSeen

abbrev pub message_view : Message → MessageSeen
message_view m = record {
  table = m.table.now;
  line = m.line;
  generic = m.generic;
  header = m.header.items;
  asked = asked_of m;
}

-- more is asked for, and else the message is the same
abbrev pub Grows : MessageSeen → MessageSeen → Type 0
Grows old new = (more : List AskedSeen) × (new ≡ record old { asked = old.asked ++ more })

-- a body of a message: it begins with the structure, and the walk over it gives what was asked for, one by one
abbrev pub IsBodyOf : MessageSeen → List ℕ → Type 0
IsBodyOf m bytes =
    (take (length m.header) bytes ≡ m.header)
    × (says (body_items (Some m.table, Some m.line, m.generic, bytes)) m.asked ≡ true)

-- the bytes of a header of generic netlink
abbrev pub generic_bytes : Option GenericHeader → List ℕ
generic_bytes None = []
generic_bytes (Some h) = (h.command ∷ h.version ∷ []) ++ little_bytes 2 h.reserved

-- a payload: that header, and a body
abbrev pub IsPayloadOf : MessageSeen → List ℕ → Type 0
IsPayloadOf m bytes = (body : List ℕ) × IsBodyOf m body × (bytes ≡ generic_bytes m.generic ++ body)
