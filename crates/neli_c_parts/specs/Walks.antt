-- Walks over a caller's bytes: the rest, the result of a call, and its code.
use Rattle.std.specs.Prelude.{◌≡◌, ◌≤◌, ℕ, ◌+◌, ◌-◌, ℤ, Bool, ◌&&◌, bit_and, nat_le, if◌then◌else◌, List}
use Rattle.std.specs.Prelude.{[], ◌∷◌}
use Rattle.std.specs.Prelude.{length, take, drop, Option, Some, None, Ok, Err}
use Rattle.std.specs.declared.io.ErrorKind.TheVariants.{UnexpectedEof}
use Rattle.neli_wire.specs.Bytes.{Reading}
use Rattle.neli_wire.specs.declared.errors.DeError.{DeError}
use Rattle.neli_wire.specs.declared.errors.DeError.TheVariants as de
use Rattle.neli_wire.specs.Frames.{Layout, frame_at}
use Rattle.neli_wire.specs.Sizes.{align}
use Rattle.neli_attr.specs.Attributes.{Head}
use Rattle.neli_reader.specs.Headers.{Header, flags_of}
use Rattle.neli_lent.specs.Attributes.{lent_attribute}
use Rattle.neli_lent.specs.Messages.{lent_message}
use Rattle.neli_c_parts.specs.declared.message.NeliWalk.{NeliWalk}
use Rattle.neli_c_parts.specs.declared.message.NeliMessage.{NeliMessage}
use Rattle.neli_c_parts.specs.declared.message.NeliAttribute.{NeliAttribute}
use Rattle.neli_c_parts.specs.Codes.{bad_bytes, bad_length, item, memory, ok, place, short}

-- messages and attributes with their numbers as they are and each payload's bytes
abbrev pub message_layout : Layout (Header ℕ) (List ℕ)
message_layout = lent_message (λ n. n)

abbrev pub attribute_layout : Layout (Head ℕ) (List ℕ)
attribute_layout = lent_attribute (λ n. n)

-- the bytes from a place on, so many
abbrev pub bytes_from : ℕ → ℕ → List ℕ → List ℕ
bytes_from at n bytes = take n (drop at bytes)

-- the places of a walk are in order and within so many bytes
abbrev pub is_within : NeliWalk → ℕ → Bool
is_within w size = nat_le w.place w.end && nat_le w.end size

-- the remaining bytes of a walk
abbrev pub bytes_left : List ℕ → NeliWalk → Option (List ℕ)
bytes_left bytes w = if is_within w (length bytes) then Some (bytes_from w.place (w.end - w.place) bytes) else None

-- ---- the code of a step

-- of bytes that are refused
abbrev pub refusal_code : DeError → ℤ
refusal_code (de.Io UnexpectedEof) = short
refusal_code (de.InvalidInput n) = bad_length
refusal_code de.Memory = memory
refusal_code e = bad_bytes

-- of a reading
abbrev pub reading_code : {A : Type 0} → Reading A → ℤ
reading_code (Ok r) = item
reading_code (Err e) = refusal_code e

-- of the remaining bytes, if they exist
abbrev pub walk_code : {H : Type 0} → Layout H (List ℕ) → Option (List ℕ) → ℤ
walk_code layout None = place
walk_code layout (Some []) = ok
walk_code layout (Some (b ∷ s)) = reading_code (frame_at layout (b ∷ s))

-- ---- the result of a step

-- the shown header of a message
abbrev pub header_view : NeliMessage → Header ℕ
header_view m = record {
  len = m.length;
  message_type = m.message_type;
  flags = flags_of m.flags;
  sequence_number = m.number;
  port = m.port;
}

-- the message is the frame at the front of the rest; the walk moves past it
abbrev pub GivesMessage : List ℕ → NeliWalk → NeliWalk → NeliMessage → Type 0
GivesMessage bytes old new m =
    let s = bytes_from old.place (old.end - old.place) bytes in
    (frame_at message_layout s ≡ Ok (
      (header_view m, bytes_from m.payload m.payload_length bytes),
      drop (align m.length) s,
    ))
    × (m.payload ≡ old.place + 16) × (m.payload_length ≡ m.length - 16) × (m.payload + m.payload_length ≤ new.place)
    × (new ≡ record old { place = old.place + align m.length })
    × (new.place ≤ old.end)

-- the shown header of an attribute
abbrev pub head_view : NeliAttribute → Head ℕ
head_view a = record { len = a.length; kind = a.field }

-- number and flags are the parts of the type field
abbrev pub IsInParts : NeliAttribute → Type 0
IsInParts a = (a.number ≡ bit_and a.field 16383) × (a.flags ≡ bit_and a.field 49152)

-- the attribute is the frame at the front of the rest; the walk moves past it
abbrev pub GivesAttribute : List ℕ → NeliWalk → NeliWalk → NeliAttribute → Type 0
GivesAttribute bytes old new a =
    let s = bytes_from old.place (old.end - old.place) bytes in
    (frame_at attribute_layout s ≡ Ok (
      (head_view a, bytes_from a.payload a.payload_length bytes),
      drop (align a.length) s,
    ))
    × IsInParts a
    × (a.payload ≡ old.place + 4) × (a.payload_length ≡ a.length - 4) × (a.payload + a.payload_length ≤ new.place)
    × (new ≡ record old { place = old.place + align a.length })
    × (new.place ≤ old.end)
