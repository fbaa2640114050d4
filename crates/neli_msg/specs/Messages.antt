-- Messages: how they lie in bytes (RFC 3549 section 2.3.2; `struct nlmsghdr` of linux/netlink.h).
use Rattle.std.specs.Prelude.{ℕ, List, Result}
use Rattle.neli_wire.specs.declared.errors.DeError.{DeError}
use Rattle.neli_wire.specs.Frames.{Layout}
use Rattle.neli_msg.specs.Framed.{Nlmsghdr}
use Rattle.neli_msg.specs.declared.payload.NlPayload.{NlPayload}
use Rattle.neli_msg.specs.Headers.{Header, header_in}
use Rattle.neli_msg.specs.Kinds.{payload_in, payload_takes_memory, payload_view}

-- a message as read: its header and its payload
abbrev pub Message : Type 0 → Type 0 → Type 0
Message K V = Header K × NlPayload K V

-- 16 bytes of header, which state the length of the whole, and then a payload
abbrev pub layout_with : {K V : Type 0} → (ℕ → K) → (Header K → List ℕ → Result V DeError) → Layout (Header K) V
layout_with type_of payload_of = record {
  size = 16;
  header_of = header_in type_of;
  length_of = λ h. h.len;
  payload_of = payload_of;
}

-- a message: its type and flags decide the kind of its payload
abbrev pub message_layout : {K V : Type 0} → (ℕ → K) → (K → ℕ) → (List ℕ → Result V DeError)
    → Layout (Header K) (NlPayload K V)
message_layout type_of number_of read = layout_with type_of
    (λ h. payload_in type_of read (number_of h.message_type) h.flags)

-- reading the payload of a message takes memory
abbrev pub message_takes_memory : {K V : Type 0} → (K → ℕ) → (List ℕ → Result V DeError) → (List ℕ → Type 0)
    → Header K → List ℕ → Type 0
message_takes_memory number_of read takes h = payload_takes_memory read takes (number_of h.message_type) h.flags

-- the message with this header and payload
abbrev pub message_from : {K V : Type 0} → Message K V → Nlmsghdr K V
message_from m = record { header = m.0; payload = m.1 }

-- how contracts see a message, by the view of a body
abbrev pub message_of : {K P V : Type 0} → (P → V) → Nlmsghdr K P → Message K V
message_of view m = (m.header, payload_view view m.payload)
