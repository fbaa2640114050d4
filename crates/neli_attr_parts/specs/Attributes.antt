-- Attributes: a header of four bytes, the length of the whole and the type, then a payload, and padding to four bytes.
use Rattle.std.specs.Prelude.{ℕ, ◌+◌, List, codes, length, Result, Ok, Err, nat_lt, if◌then◌else◌}
use Rattle.byteorder.specs.Endian.{little_bytes}
use Rattle.neli_wire.specs.declared.errors.DeError.{DeError}
use Rattle.neli_wire.specs.declared.errors.SerError.TheVariants.{Msg}
use Rattle.neli_wire.specs.Frames.{Layout, frame_at, number_in}
use Rattle.neli_wire.specs.Writing.{Wire, ◌+++◌, append_wire, pad_wire}
use Rattle.neli_wire.specs.laws.Elements.{elements}

-- a header: the length of the attribute without its padding, and the type
pub record Head (K : Type 0) : Type 0 where
  pub len : ℕ
  pub kind : K

-- an attribute's header and payload
abbrev pub Attr : Type 0 → Type 0 → Type 0
Attr K V = Head K × V

-- an attribute of this length, type and payload
abbrev pub attr : {K V : Type 0} → ℕ → K → V → Attr K V
attr len kind payload = (record { len = len; kind = kind }, payload)

-- how attributes lie in bytes: the length at place 0, the type at place 2, and the payload at place 4
abbrev pub attribute : {K V : Type 0} → (ℕ → K) → (List ℕ → Result V DeError) → Layout (Head K) V
attribute kind_of payload_of = record {
  size = 4;
  header_of = λ s. record { len = number_in 2 0 s; kind = kind_of (number_in 2 2 s) };
  length_of = λ head. head.len;
  payload_of = λ _. payload_of;
}

-- the bytes of an attribute with its padding, by its length, the number of its type and the payload's wire bytes
abbrev pub attribute_wire : ℕ → ℕ → Wire → Wire
attribute_wire len kind payload = pad_wire ((Ok (little_bytes 2 len) +++ Ok (little_bytes 2 kind)) +++ payload)

-- ---- payloads

-- the wire bytes of a payload that leaves room for the header in a length of 16 bits
abbrev pub attribute_payload : Wire → Wire
attribute_payload (Ok bytes) = if nat_lt 65535 (4 + length bytes) then Err (Msg (codes "Length does not fit its field"))
    else Ok bytes
attribute_payload (Err e) = Err e

-- the payload with an attribute's bytes after it, if that leaves room for the header too
abbrev pub nested_payload : List ℕ → Wire → Wire
nested_payload old inner = attribute_payload (append_wire old inner)

-- ---- lists of attributes

-- the attributes listed in the bytes, each with a payload of bytes
abbrev pub attributes_in : {K : Type 0} → (ℕ → K) → List ℕ → Result (List (Attr K (List ℕ))) DeError
attributes_in kind_of = elements (frame_at (attribute kind_of (λ bytes. Ok bytes)))
