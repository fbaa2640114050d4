-- Written messages, as a walk reads them.
use Rattle.std.specs.Prelude.{◌≡◌, ◌<◌, ℕ, ◌+◌, List, [], ◌∷◌, ◌++◌, length, None, Ok}
use Rattle.neli_wire.specs.Writing.{Wire, zeros_for}
use Rattle.neli_reader.specs.Headers.{Header}
use Rattle.neli_reader.specs.Framed.{Nlmsghdr}
use Rattle.neli_reader.specs.Wires.{payload_wire}
use Rattle.neli_lent.specs.Messages.{messages_in}

-- the header with the number of its type
abbrev pub header_numbered : {K : Type 0} → (K → ℕ) → Header K → Header ℕ
header_numbered number_of h = record {
  len = h.len;
  message_type = number_of h.message_type;
  flags = h.flags;
  sequence_number = h.sequence_number;
  port = h.port;
}

-- its fields' values fit them
pub record HeaderFits (h : Header ℕ) : Type 0 where
  pub len : h.len < 4294967296
  pub message_type : h.message_type < 65536
  pub flags : h.flags.0 < 65536
  pub sequence_number : h.sequence_number < 4294967296
  pub port : h.port < 4294967296

-- the bytes are one message of a datagram: this one's header, and its payload's bytes and zeros up to a multiple of
-- four; and no fault
abbrev pub IsWalked : {K P : Type 0} → (K → ℕ) → (P → Wire) → Nlmsghdr K P → List ℕ → Type 0
IsWalked number_of wire m bytes =
    (body : List ℕ) × (payload_wire number_of wire m.payload ≡ Ok body)
    × (messages_in (λ n. n) bytes ≡ (
      (header_numbered number_of m.header, body ++ zeros_for (16 + length body)) ∷ [],
      None,
    ))
