-- The values that the builders of messages and of their parts make of the given fields.
use Rattle.std.specs.Prelude.{ℕ, ◌+◌, pos, [], codes, Ok, Err, nat_lt, unwrap_or, if◌then◌else◌}
use Rattle.neli_wire.specs.Sizes.{align}
use Rattle.neli_attr.specs.Builders.{Outcome, require_field, ◌>>>◌}
use Rattle.neli_attr.specs.Builders.Fault.{Invalid}
use Rattle.neli_consts.specs.declared.nlm_f.NlmF.{NlmF}
use Rattle.neli_msg.specs.declared.answer.Nlmsgerr.{Nlmsgerr}
use Rattle.neli_msg.specs.declared.answer.NlmsgerrBuilder.{NlmsgerrBuilder}
use Rattle.neli_msg.specs.declared.echo.Echoed.{Echoed}
use Rattle.neli_msg.specs.declared.framed.FramedBuilder.{FramedBuilder}
use Rattle.neli_msg.specs.declared.header.NlmsghdrAckBuilder.{NlmsghdrAckBuilder}
use Rattle.neli_msg.specs.Framed.{Nlmsghdr, NlmsghdrErr}
use Rattle.neli_msg.specs.declared.payload.NlPayload.{NlPayload}
use Rattle.neli_msg.specs.Answers.{answer}
use Rattle.neli_msg.specs.Headers.{Header, flags_of}
use Rattle.neli_msg.specs.Wires.{payload_size}

-- a header
abbrev pub header_with : {K : Type 0} → ℕ → K → NlmF → ℕ → ℕ → Header K
header_with len message_type flags sequence_number port =
    record { len = len; message_type = message_type; flags = flags; sequence_number = sequence_number; port = port }

-- all five fields are required
abbrev pub built_header : {T : Type 0} → NlmsghdrAckBuilder T → Outcome (Header T)
built_header b =
    require_field (codes "nl_len") b.nl_len (λ len.
    require_field (codes "nl_type") b.nl_type (λ message_type.
    require_field (codes "nl_flags") b.nl_flags (λ flags.
    require_field (codes "nl_seq") b.nl_seq (λ sequence_number.
    require_field (codes "nl_pid") b.nl_pid (λ port.
    Ok (header_with len message_type flags sequence_number port))))))

-- the length of a header and a payload of n bytes, rounded up to four, which must fit 32 bits
abbrev pub own_length : ℕ → Outcome ℕ
own_length n = if nat_lt 4294967295 (align (16 + n)) then Err (Invalid (codes "Length does not fit its field"))
    else Ok (align (16 + n))

-- an echoed message; by default its flags, sequence number and port are 0
abbrev pub built_echo : {T P : Type 0} → (P → ℕ) → FramedBuilder T (Echoed P) → Outcome (NlmsghdrErr T P)
built_echo size b =
    require_field (codes "nl_type") b.header.nl_type (λ message_type.
    require_field (codes "nl_payload") b.payload (λ payload.
    own_length (size payload.0) >>> λ len.
    Ok (record {
      header = header_with len message_type (unwrap_or b.header.nl_flags (flags_of 0)) (unwrap_or b.header.nl_seq 0)
          (unwrap_or b.header.nl_pid 0);
      payload = payload;
    })))

-- an answer; by default its code is 0, and it has no attributes
abbrev pub built_answer : {M : Type 0} → NlmsgerrBuilder M → Outcome (Nlmsgerr M)
built_answer b =
    require_field (codes "nlmsg") b.nlmsg (λ answered. Ok
    (answer (unwrap_or b.error (pos 0)) answered (unwrap_or b.ext_ack [])))

-- a message; by default its sequence number and port are 0
abbrev pub built_message : {T P : Type 0} → (P → ℕ) → FramedBuilder T (NlPayload T P) → Outcome (Nlmsghdr T P)
built_message size b =
    require_field (codes "nl_type") b.header.nl_type (λ message_type.
    require_field (codes "nl_flags") b.header.nl_flags (λ flags.
    require_field (codes "nl_payload") b.payload (λ payload.
    own_length (payload_size size payload) >>> λ len.
    Ok (record {
      header = header_with len message_type flags (unwrap_or b.header.nl_seq 0) (unwrap_or b.header.nl_pid 0);
      payload = payload;
    }))))
