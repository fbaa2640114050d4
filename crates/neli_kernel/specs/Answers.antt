-- A kernel's answers: the message of each (the kernel's `netlink_ack` and `nlmsg_put`), and its bytes.
use Rattle.std.specs.Prelude.{ℕ, ◌+◌, ◌<◌, ℤ, pos, bit_or, List, [], ◌∷◌, codes, length, nat_lt, if◌then◌else◌, Err}
use Rattle.neli_wire.specs.Refusals.{IsRefusal, ser_ran_out}
use Rattle.neli_wire.specs.declared.errors.SerError.{SerError}
use Rattle.neli_wire.specs.declared.errors.SerError.TheVariants as ser
use Rattle.neli_wire.specs.Sizes.{align}
use Rattle.neli_wire.specs.Writing.{Wire}
use Rattle.neli_consts.specs.declared.nlm_f.NlmF.{NlmF}
use Rattle.neli_reader.specs.Answers.{Attributes, answer}
use Rattle.neli_reader.specs.Builders.{header_with}
use Rattle.neli_reader.specs.Headers.{flags_of}
use Rattle.neli_reader.specs.Framed.{Nlmsghdr}
use Rattle.neli_reader.specs.NlPayload.{NlPayload}
use Rattle.neli_reader.specs.NlPayload.TheVariants as payload
use Rattle.neli_reader.specs.Wires.{message_wire, payload_size}
use Rattle.neli_kernel.specs.declared.request.Request.{Request}

-- ---- messages

-- a message of this type, flags, number, port and payload; its length is that of header and payload, rounded up to four
abbrev pub message_with : {T P : Type 0} → (P → ℕ) → T → NlmF → ℕ → ℕ → NlPayload T P → Nlmsghdr T P
message_with size message_type flags number port payload = record {
  header = header_with (align (16 + payload_size size payload)) message_type flags number port;
  payload = payload;
}

module _ {T P : Type 0} (number_of : T → ℕ) (wire : P → Wire) where
  -- the bytes of a message; or the first cause that holds: its length exceeds 32 bits, its payload has no bytes
  abbrev pub message_or_refusal : Nlmsghdr T P → Wire
  message_or_refusal m = if nat_lt 4294967295 m.header.len then Err (ser.Msg (codes "Length does not fit its field"))
      else message_wire number_of wire m

  -- e is why there are no bytes: the cause that holds, or that memory ran out, which is taken if the length fits
  abbrev pub RefusesMessage : Nlmsghdr T P → SerError → Type 0
  RefusesMessage m = IsRefusal ser_ran_out (message_or_refusal m) (m.header.len < 4294967296)

-- ---- answers, with the request's number, to the port of the requesting socket

-- the request's number and the port of its socket fit their fields
abbrev pub IsAddressed : Request → Type 0
IsAddressed asked = (asked.header.sequence_number < 4294967296) × (asked.port < 4294967296)

-- one reply
abbrev pub reply : {T P : Type 0} → (P → ℕ) → Request → T → NlmF → P → Nlmsghdr T P
reply size asked message_type flags body =
    message_with size message_type flags asked.header.sequence_number asked.port (payload.Payload body)

-- a message of a control type, as 1, NLMSG_NOOP, and 4, NLMSG_OVERRUN: no flag and no body
abbrev pub control : Request → ℕ → Nlmsghdr ℕ (List ℕ)
control asked message_type = reply length asked message_type (flags_of 0) []

-- the flags of an answer with the flags of its echo, and ACK_TLVS (512) if it has attributes
abbrev pub answer_flags : NlmF → Attributes → NlmF
answer_flags echo [] = echo
answer_flags echo (a ∷ attrs) = flags_of (bit_or echo.0 512)

-- an answer of this payload, of type 2, NLMSG_ERROR
abbrev pub answer_with : Request → NlmF → NlPayload ℕ (List ℕ) → Nlmsghdr ℕ (List ℕ)
answer_with asked flags payload = message_with length 2 flags asked.header.sequence_number asked.port payload

-- an acknowledgement: code 0, CAPPED (256), and the request's header
abbrev pub acknowledgement : Request → Attributes → Nlmsghdr ℕ (List ℕ)
acknowledgement asked attrs =
    answer_with asked (answer_flags (flags_of 256) attrs) (payload.Ack (answer (pos 0) asked.header attrs))

-- a capped error: its code, CAPPED (256), and the request's header
abbrev pub capped_error : Request → ℤ → Attributes → Nlmsghdr ℕ (List ℕ)
capped_error asked code attrs =
    answer_with asked (answer_flags (flags_of 256) attrs) (payload.Capped (answer code asked.header attrs))

-- an error: its code, and the whole request
abbrev pub error : Request → ℤ → Attributes → Nlmsghdr ℕ (List ℕ)
error asked code attrs =
    answer_with asked (answer_flags (flags_of 0) attrs)
    (payload.Err (answer code (record { header = asked.header; payload = record { 0 = asked.payload.now } }) attrs))
