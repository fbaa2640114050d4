-- The payload of a message, by its type, flags, length and code (RFC 3549 section 2.3.2.2; the kernel's `netlink_ack`).
use Rattle.std.specs.Prelude.{ℕ, ◌==◌, ◌<◌, ◌&&◌, Bool, List, length}
use Rattle.std.specs.Prelude.{drop, Result, Ok, bit_and, nat_eq, nat_le, if◌then◌else◌}
use Rattle.neli_wire.specs.declared.errors.DeError.{DeError}
use Rattle.neli_wire.specs.Frames.{number_in}
use Rattle.neli_wire.specs.Reading.{◌>>=◌}
use Rattle.neli_consts.specs.declared.nlm_f.NlmF.{NlmF}
use Rattle.neli_msg.specs.declared.kind.Kind.{Kind}
use Rattle.neli_msg.specs.declared.kind.Kind.TheVariants.{Body, Nothing, DumpEnd, Acknowledgement, Capped, Failure}
use Rattle.neli_msg.specs.declared.kind.Tail.{Tail}
use Rattle.neli_msg.specs.declared.kind.Tail.TheVariants.{Unread, Attributes as Listed}
use Rattle.neli_msg.specs.declared.payload.NlPayload.{NlPayload}
use Rattle.neli_msg.specs.declared.payload.NlPayload.TheVariants as payload
use Rattle.neli_msg.specs.Answers.{dump_end_in, failure_in, failure_takes_memory}
use Rattle.neli_msg.specs.Answers.{failure_view, headed_in, tail_takes_memory}

-- NLM_F_MULTI, the bit of value 2, is set
abbrev pub is_multi : NlmF → Bool
is_multi flags = bit_and flags.0 2 == 2

-- NLM_F_CAPPED, the bit of value 256, is set: only the header of the answered message is echoed
abbrev pub is_capped : NlmF → Bool
is_capped flags = bit_and flags.0 256 == 256

-- NLM_F_ACK_TLVS, the bit of value 512, is set: attributes follow what is echoed
abbrev pub has_attributes : NlmF → Bool
has_attributes flags = bit_and flags.0 512 == 512

-- what stands after a header echoed alone: attributes under both flags
abbrev pub tail_of : NlmF → Tail
tail_of flags = if is_capped flags && has_attributes flags then Listed else Unread

-- there are a code and a header, and the code is 0
abbrev pub is_acknowledged : List ℕ → Bool
is_acknowledged s = nat_le 20 (length s) && nat_eq (number_in 4 0 s) 0

-- the kind; 2 is NLMSG_ERROR, 3 NLMSG_DONE
abbrev pub kind_of : ℕ → NlmF → List ℕ → Kind
kind_of number flags s =
    if nat_eq number 2 then (if is_acknowledged s then Acknowledgement (tail_of flags)
    else (if is_capped flags then Capped (tail_of flags) else Failure))
    else (if nat_eq number 3 then (if nat_eq (length s) 0 then Nothing else (if is_multi flags then DumpEnd else Body))
    else Body)

module _ {K V : Type 0} (type_of : ℕ → K) (read : List ℕ → Result V DeError) where
  -- the payload of each kind as read, or its refusal; `read` is the reading of a body
  abbrev pub payload_as : Kind → List ℕ → Result (NlPayload K V) DeError
  payload_as Body s = read s >>= λ v. Ok (payload.Payload v)
  payload_as Nothing s = Ok payload.Empty
  payload_as DumpEnd s = dump_end_in s >>= λ e. Ok (payload.DumpExtAck e)
  payload_as (Acknowledgement tail) s = headed_in type_of tail s >>= λ e. Ok (payload.Ack e)
  payload_as (Capped tail) s = headed_in type_of tail s >>= λ e. Ok (payload.Capped e)
  payload_as Failure s = failure_in type_of read s >>= λ e. Ok (payload.Err e)

  -- the payload read after a header of this type and these flags
  abbrev pub payload_in : ℕ → NlmF → List ℕ → Result (NlPayload K V) DeError
  payload_in number flags s = payload_as (kind_of number flags s) s

-- where reading takes memory, by the reading of a body and where that takes some
module _ {V : Type 0} (read : List ℕ → Result V DeError) (takes : List ℕ → Type 0) where
  -- each kind
  abbrev pub kind_takes_memory : Kind → List ℕ → Type 0
  kind_takes_memory Body s = takes s
  kind_takes_memory Nothing s = ⊥
  kind_takes_memory DumpEnd s = 0 < length (drop 4 s)
  kind_takes_memory (Acknowledgement tail) s = tail_takes_memory tail (drop 20 s)
  kind_takes_memory (Capped tail) s = tail_takes_memory tail (drop 20 s)
  kind_takes_memory Failure s = failure_takes_memory read takes s

  -- the same by type and flags
  abbrev pub payload_takes_memory : ℕ → NlmF → List ℕ → Type 0
  payload_takes_memory number flags s = kind_takes_memory (kind_of number flags s) s

-- how contracts see a payload, by the view of a body
abbrev pub payload_view : {K P V : Type 0} → (P → V) → NlPayload K P → NlPayload K V
payload_view view (payload.Payload p) = payload.Payload (view p)
payload_view view (payload.Err e) = payload.Err (failure_view view e)
payload_view view (payload.Ack e) = payload.Ack e
payload_view view (payload.Capped e) = payload.Capped e
payload_view view (payload.DumpExtAck e) = payload.DumpExtAck e
payload_view view payload.Empty = payload.Empty
