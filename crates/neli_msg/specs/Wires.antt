-- Messages as they are written.
use Rattle.std.specs.Prelude.{ℕ, ◌+◌, [], length, Ok, sum_by}
use Rattle.std.specs.Int.{w32}
use Rattle.neli_wire.specs.Numbers.{signed_bytes}
use Rattle.neli_wire.specs.Sizes.{align}
use Rattle.neli_wire.specs.Writing.{Wire, ◌+++◌, pad_wire, wire_all}
use Rattle.neli_consts.specs.NlmsgerrAttr.{nlmsgerr_attr_number}
use Rattle.neli_attr.specs.Nlattr.{nlattr_wire}
use Rattle.neli_msg.specs.declared.answer.Nlmsgerr.{Nlmsgerr}
use Rattle.neli_msg.specs.declared.framed.Framed.{Framed}
use Rattle.neli_msg.specs.Framed.{Nlmsghdr, NlmsghdrErr}
use Rattle.neli_msg.specs.declared.payload.NlPayload.{NlPayload}
use Rattle.neli_msg.specs.declared.payload.NlPayload.TheVariants as payload
use Rattle.neli_msg.specs.Answers.{Attributes}
use Rattle.neli_msg.specs.Headers.{header_wire}

-- ---- bytes

-- the bytes of attributes
abbrev pub attributes_wire : Attributes → Wire
attributes_wire = wire_all (nlattr_wire nlmsgerr_attr_number (λ bytes. Ok bytes))

-- the bytes of an answer: its code, what it answers, and its attributes
abbrev pub answer_wire : {M : Type 0} → (M → Wire) → Nlmsgerr M → Wire
answer_wire wire e = (Ok (signed_bytes w32 4 e.error) +++ wire e.nlmsg) +++ attributes_wire e.ext_ack

-- the bytes of a header and its payload, with zeros up to a multiple of four
abbrev pub framed_wire : {K X : Type 0} → (K → ℕ) → (X → Wire) → Framed K X → Wire
framed_wire number_of wire m = pad_wire (header_wire number_of m.header +++ wire m.payload)

module _ {K P : Type 0} (number_of : K → ℕ) (wire : P → Wire) where
  -- the bytes of an echoed message
  abbrev pub echo_wire : NlmsghdrErr K P → Wire
  echo_wire = framed_wire number_of (λ x. wire x.0)

  -- the bytes of a payload
  abbrev pub payload_wire : NlPayload K P → Wire
  payload_wire (payload.Ack e) = answer_wire (header_wire number_of) e
  payload_wire (payload.Capped e) = answer_wire (header_wire number_of) e
  payload_wire (payload.DumpExtAck e) = answer_wire (λ _. Ok []) e
  payload_wire (payload.Err e) = answer_wire echo_wire e
  payload_wire (payload.Payload p) = wire p
  payload_wire payload.Empty = Ok []

  -- the bytes of a message
  abbrev pub message_wire : Nlmsghdr K P → Wire
  message_wire = framed_wire number_of payload_wire

-- ---- sizes in bytes

-- the size of attributes, each with its padding
abbrev pub attributes_size : Attributes → ℕ
attributes_size = sum_by (λ a. align (4 + length a.nla_payload))

-- the size of an answer
abbrev pub answer_size : {M : Type 0} → (M → ℕ) → Nlmsgerr M → ℕ
answer_size size e = 4 + size e.nlmsg + attributes_size e.ext_ack

-- the size of a header and its payload, without their padding
abbrev pub framed_size : {K X : Type 0} → (X → ℕ) → Framed K X → ℕ
framed_size size m = 16 + size m.payload

module _ {K P : Type 0} (size : P → ℕ) where
  -- the size of an echoed message without its padding
  abbrev pub echo_size : NlmsghdrErr K P → ℕ
  echo_size = framed_size (λ x. size x.0)

  -- the size of a payload
  abbrev pub payload_size : NlPayload K P → ℕ
  payload_size (payload.Ack e) = answer_size (λ _. 16) e
  payload_size (payload.Capped e) = answer_size (λ _. 16) e
  payload_size (payload.DumpExtAck e) = answer_size (λ _. 0) e
  payload_size (payload.Err e) = answer_size (λ m. align (echo_size m)) e
  payload_size (payload.Payload p) = size p
  payload_size payload.Empty = 0

  -- the size of a message without its padding
  abbrev pub message_size : Nlmsghdr K P → ℕ
  message_size = framed_size payload_size
