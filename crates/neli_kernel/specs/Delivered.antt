-- Messages as a router stores and delivers them.
use Rattle.std.specs.Prelude.{◌≡◌, ◌≢◌, ◌<◌, ℕ, ◌+◌, ℤ, FitsSigned, List, [], ◌∷◌}
use Rattle.std.specs.Prelude.{◌++◌, Bool, true, Option, None, Some, Result, Ok, flat_map, length}
use Rattle.std.specs.Int.{w32}
use Rattle.neli_wire.specs.declared.errors.DeError.{DeError}
use Rattle.neli_wire.specs.Numbers.{signed_bytes}
use Rattle.neli_wire.specs.Sizes.{align}
use Rattle.neli_wire.specs.Writing.{Wire, zeros_for}
use Rattle.neli_consts.specs.NlmsgerrAttr.{nlmsgerr_attr_number, nlmsgerr_attr_of}
use Rattle.neli_consts.specs.declared.nlm_f.NlmF.{NlmF}
use Rattle.neli_consts.specs.declared.nlmsg.NlmsgerrAttr.{NlmsgerrAttr}
use Rattle.neli_attr.specs.declared.nlattr.Nlattr.{Nlattr}
use Rattle.neli_reader.specs.Agreement.{untyped_layout}
use Rattle.neli_reader.specs.Answers.{Attributes, ext_ack_in}
use Rattle.neli_reader.specs.Builders.{header_with}
use Rattle.neli_reader.specs.Cuts.{cut_of}
use Rattle.neli_reader.specs.Framed.{Nlmsghdr}
use Rattle.neli_reader.specs.NlPayload.TheVariants as payload
use Rattle.neli_reader.specs.Wires.{attributes_wire}
use Rattle.neli_lent.specs.Messages.{Lent, as_owned}
use Rattle.neli_lent.specs.Written.{HeaderFits}
use Rattle.neli_deliveries.specs.Deliveries.{Untyped, datagram_share, message}
use Rattle.neli_deliveries.specs.declared.delivery.Delivery.{Delivery}
use Rattle.neli_kernel.specs.Answers.{message_or_refusal, message_with}
use Rattle.neli_kernel.specs.Dumps.{dump_end}
use Rattle.neli_kernel.specs.declared.request.Request.{Request}

-- a message as a router stores it, its body as bytes; or why its payload is refused
abbrev pub untyped : Lent ℕ → Result Untyped DeError
untyped = as_owned (λ n. n) (λ n. n) (λ bytes. Ok bytes)

-- the message has this number and this port
abbrev pub IsFor : ℕ → ℕ → Untyped → Type 0
IsFor number port m = (m.0.sequence_number ≡ number) × (m.0.port ≡ port)

-- the deliveries to a handle, with a number or for multicast, from datagrams that arrived for no group
abbrev pub shares : ℕ → (ℕ → Bool) → Option ℕ → List (List ℕ) → List Delivery
shares port is_open handle = flat_map (λ d. datagram_share port is_open handle (cut_of untyped_layout d) [])

-- ---- messages with a body

-- the type of a message with a body: neither 2, NLMSG_ERROR, nor 3, NLMSG_DONE
abbrev pub IsPlain : ℕ → Type 0
IsPlain number = (number ≢ 2) × (number ≢ 3)

-- a message of such a type: its bytes are its body
abbrev pub kept : Lent ℕ → Untyped
kept m = (m.0, payload.Payload m.1)

-- ---- a reply

-- a message of this type, flags, number and port, with these bytes and zeros up to a multiple of four as body
abbrev pub reply_kept : ℕ → NlmF → ℕ → ℕ → List ℕ → Untyped
reply_kept message_type flags number port text =
    kept (header_with (align (16 + length text)) message_type flags number port, text ++ zeros_for (16 + length text))

-- `text` are the bytes of the body, and `bytes` those of a message with it, whose type is plain and whose fields fit
pub record IsReply {T P : Type 0} (number_of : T → ℕ) (wire : P → Wire) (size : P
    → ℕ) (t : T) (flags : NlmF) (number port : ℕ) (body : P) (text bytes : List ℕ) : Type 0 where
  pub is_plain : IsPlain (number_of t)
  pub type_fits : number_of t < 65536
  pub flags_fit : flags.0 < 65536
  pub number_fits : number < 4294967296
  pub port_fits : port < 4294967296
  pub text_is : wire body ≡ Ok text
  pub bytes_are : message_or_refusal number_of wire (message_with size t flags number port (payload.Payload body))
      ≡ Ok bytes

-- ---- attributes of an extended acknowledgement

-- `text` are the bytes of these attributes, which are read from them again
pub record AreReadBack (attrs : Attributes) (text : List ℕ) : Type 0 where
  pub written : attributes_wire attrs ≡ Ok text
  pub read : ext_ack_in text ≡ Ok attrs

-- the length is that of the header and the payload, and the type is that of its 14-bit number
pub record IsPlainAttribute (a : Nlattr NlmsgerrAttr (List ℕ)) : Type 0 where
  pub len : a.nla_len ≡ 4 + length a.nla_payload
  pub fits : a.nla_len < 65536
  pub kind : nlmsgerr_attr_number a.nla_type.nla_type < 16384
  pub named : nlmsgerr_attr_of (nlmsgerr_attr_number a.nla_type.nla_type) ≡ a.nla_type.nla_type

-- ---- acknowledgements and errors

-- `bytes` are those of this answer; the request's header and the port of its socket fit their fields
pub record IsAnswer (asked : Request) (m : Nlmsghdr ℕ (List ℕ)) (bytes : List ℕ) : Type 0 where
  pub header_fits : HeaderFits asked.header
  pub port_fits : asked.port < 4294967296
  pub bytes_are : message_or_refusal (λ n. n) (λ b. Ok b) m ≡ Ok bytes

-- an answer as a router stores it: its header, and its payload by its kind
abbrev pub answer_kept : Nlmsghdr ℕ (List ℕ) → Untyped
answer_kept m = (m.header, m.payload)

-- the number, the port, the flags and the code of a dump's end fit their fields
pub record IsEnd (asked : Request) (flags : NlmF) (code : ℤ) : Type 0 where
  pub number_fits : asked.header.sequence_number < 4294967296
  pub port_fits : asked.port < 4294967296
  pub flags_fit : flags.0 < 65536
  pub code_fits : FitsSigned w32 code

-- an end as a router stores it: its header, and the bytes of its code and of its attributes
abbrev pub end_said : Request → NlmF → ℤ → Attributes → List ℕ → Lent ℕ
end_said asked flags code attrs text = ((dump_end asked flags code attrs).header, signed_bytes w32 4 code ++ text)

-- as a datagram the bytes are this answer alone; if a router has the port of the request's socket, and the request's
-- number is open there, the handle of that number gets it, once, and no other handle gets anything
pub record IsDelivered (asked : Request) (m : Nlmsghdr ℕ (List ℕ)) (bytes : List ℕ) : Type 0 where
  pub one_message : cut_of untyped_layout bytes ≡ (answer_kept m ∷ [], None)
  pub asker : (is_open : ℕ → Bool) → is_open asked.header.sequence_number ≡ true
      → datagram_share asked.port is_open (Some asked.header.sequence_number) (cut_of untyped_layout bytes) []
      ≡ message (answer_kept m) ∷ []
  pub others : (is_open : ℕ → Bool) → is_open asked.header.sequence_number ≡ true → (other : Option ℕ)
      → other ≢ Some asked.header.sequence_number → datagram_share asked.port is_open other
      (cut_of untyped_layout bytes) [] ≡ []
