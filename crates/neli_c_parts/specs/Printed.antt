-- What is printed of messages, and of the items of a walk, by tables.
use Rattle.std.specs.Prelude.{⊤, ◌≡◌, ◌≢◌, ℕ, ℤ, List, length, nat_le, if◌then◌else◌, Option, Some, None}
use Rattle.neli_print.specs.declared.head.Header.{Header}
use Rattle.neli_c_parts.specs.Rooms.{beginning}
use Rattle.neli_c_parts.specs.declared.message.NeliMessage.{NeliMessage}
use Rattle.neli_c_parts.specs.Codes.{bad_length, ok, place, room}
use Rattle.neli_c_parts.specs.Tables.{head_of}

-- of a text the beginning is written that there is room for, `size` is its length, and the code says whether it is all
abbrev pub PrintsText : ℤ → List ℕ → List ℕ → List ℕ → ℕ → Type 0
PrintsText code text old new size =
    (new ≡ beginning text old) × (size ≡ length text)
    × (code ≡ (if nat_le (length text) (length old) then ok else room))

-- the same of a text that could be written; of one that could not the code is `bad_length`, and `size` is as it was
abbrev pub IsPrinted : ℤ → List ℕ → List ℕ → List ℕ → ℕ → ℕ → Type 0
IsPrinted code text old new size size' =
    (code ≢ bad_length → PrintsText code text old new size') × (code ≡ bad_length → size' ≡ size)

-- `PrintsText` of what is printed, where its text is known
abbrev pub Prints : ℤ → Option (List ℕ) → List ℕ → List ℕ → ℕ → Type 0
Prints code None old new size = ⊤
Prints code (Some text) old new size = PrintsText code text old new size

-- `IsPrinted` of a message whose payload lies within the bytes
abbrev pub PrintsMessage : ℤ → (List ℕ → List ℕ) → Option (List ℕ) → List ℕ → List ℕ → ℕ → ℕ → Type 0
PrintsMessage code text None old new size size' = (code ≡ place) × (new ≡ old) × (size' ≡ size)
PrintsMessage code text (Some payload) old new size size' = IsPrinted code (text payload) old new size size'

-- the header of a message of a protocol
abbrev pub header_of : ℕ → NeliMessage → Header
header_of protocol m = record {
  head = head_of protocol m;
  length = m.length;
  sequence = m.number;
  port = m.port;
}
