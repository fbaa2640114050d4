-- The number of lines of JSON printed for an input, and whether the input is only messages.
use Rattle.std.specs.Prelude.{ℕ, ◌+◌, Bool, false, List, [], ◌∷◌, length}
use Rattle.std.specs.Prelude.{Option, is_none, Result, Ok, Err}
use Rattle.std.specs.Io.KnownBytes.{Appends}
use Rattle.std.specs.List.{list_all}
use Rattle.neli_inputs.specs.Inputs.{IsInput}
use Rattle.neli_inputs.specs.declared.item.Item.{Item}
use Rattle.neli_inputs.specs.declared.item.Packet.{Packet}
use Rattle.neli_inputs.specs.declared.item.Refusal.{Refusal}
use Rattle.neli_lent.specs.Messages.{messages_in}
use Rattle.neli_lent.specs.Walks.{items_of}
use Rattle.neli_tables_walk.specs.Json.{AreSoManyLines}
use Rattle.neli_show.specs.Parts.{packet_bytes}

-- a text with P is written
abbrev pub Writes : Option (List ℕ) → Option (List ℕ) → (List ℕ → Type 0) → Type 0
Writes old new P = (text : List ℕ) × Appends old new text × P text

-- of a datagram: one for each message, and one if a fault follows them
abbrev pub datagram_lines : List ℕ → ℕ
datagram_lines bytes = length (items_of (messages_in (λ n. n) bytes))

-- of a part of an input: those of its datagram, or one for its refusal
abbrev pub packet_lines : List ℕ → Result Packet Refusal → ℕ
packet_lines bytes (Ok packet) = datagram_lines (packet_bytes bytes packet)
packet_lines bytes (Err refusal) = 1

-- of an input: those of its parts
abbrev pub input_lines : List ℕ → List Item → ℕ
input_lines bytes [] = 0
input_lines bytes (item ∷ items) = packet_lines bytes item.packet + input_lines bytes items

-- the lines of this input are written, all of them
abbrev pub WritesInput : List ℕ → Option (List ℕ) → Option (List ℕ) → Type 0
WritesInput input old new =
    (bytes : List ℕ) × (items : List Item) × IsInput input bytes items
    × Writes old new (AreSoManyLines (input_lines bytes items))

-- ---- only messages

-- a datagram: no fault follows its messages
abbrev pub is_whole_datagram : List ℕ → Bool
is_whole_datagram bytes = is_none (messages_in (λ n. n) bytes).1

-- a part of an input: its datagram is
abbrev pub is_whole_packet : List ℕ → Result Packet Refusal → Bool
is_whole_packet bytes (Ok packet) = is_whole_datagram (packet_bytes bytes packet)
is_whole_packet bytes (Err refusal) = false

-- an input: all its parts are
abbrev pub is_whole_input : List ℕ → List Item → Bool
is_whole_input bytes items = list_all (λ item. is_whole_packet bytes item.packet) items
