-- Requests: their bytes, and why one is not sent.
use Rattle.std.specs.Prelude.{◌≡◌, ℕ, ◌+◌, ◌%◌, ◌^◌, Bool, false, bit_or, List, codes, nat_lt, if◌then◌else◌, Result}
use Rattle.std.specs.Prelude.{Ok, Err, Some}
use Rattle.neli_wire.specs.Sizes.{align}
use Rattle.neli_wire.specs.Writing.{Wire}
use Rattle.neli_consts.specs.declared.nlm_f.NlmF.{NlmF}
use Rattle.neli_reader.specs.Framed.{Nlmsghdr}
use Rattle.neli_reader.specs.NlPayload.{NlPayload}
use Rattle.neli_reader.specs.RouterError.{RouterError}
use Rattle.neli_reader.specs.RouterError.TheVariants as router
use Rattle.neli_reader.specs.SocketError.TheVariants as socket
use Rattle.neli_reader.specs.Builders.{header_with}
use Rattle.neli_reader.specs.Headers.{flags_of}
use Rattle.neli_reader.specs.Wires.{message_wire, payload_size}
use Rattle.neli_router.specs.declared.handle.HandleState.{HandleState}
use Rattle.neli_router.specs.Rule.{awaits, needs_ack}
use Rattle.neli_answers.specs.declared.answering.Answering.{Answering}

-- the flags with REQUEST (1)
abbrev pub with_request : NlmF → NlmF
with_request flags = flags_of (bit_or flags.0 1)

-- the bytes of a frame, or why there are none
abbrev pub as_request : {T P : Type 0} → Wire → Result (List ℕ) (RouterError T P)
as_request (Ok bytes) = Ok bytes
as_request (Err e) = Err (router.Socket (socket.Ser e))

module _ {T P : Type 0} (number_of : T → ℕ) (wire : P → Wire) (size : P → ℕ) where
  -- the length of a request with this payload: header and payload, rounded up to four
  abbrev pub request_length : NlPayload T P → ℕ
  request_length payload = align (16 + payload_size size payload)

  -- the request: its number and the router's port are in the header
  abbrev pub request : ℕ → ℕ → T → NlmF → NlPayload T P → Nlmsghdr T P
  request port number message_type flags payload = record {
    header = header_with (request_length payload) message_type (with_request flags) number port;
    payload = payload;
  }

  -- what is sent, as bytes; or the first cause that holds: the number is in use, the length passes 32 bits, the
  -- payload has no bytes
  abbrev pub frame_or_refusal : ℕ → ℕ → Bool → T → NlmF → NlPayload T P → Result (List ℕ) (RouterError T P)
  frame_or_refusal port number in_use message_type flags payload =
      if in_use then Err (router.SeqInUse number)
      else (if nat_lt 4294967295 (request_length payload) then Err (router.Msg (codes "Length does not fit its field"))
      else as_request (message_wire number_of wire (request port number message_type flags payload)))

  -- memory is taken: neither the number nor the length is refused
  abbrev pub TakesMemory : Bool → NlPayload T P → Type 0
  TakesMemory in_use payload = (in_use ≡ false) × (nat_lt 4294967295 (request_length payload) ≡ false)

-- e is why nothing is sent: the cause that holds, or that memory ran out if some is taken
abbrev pub RefusesSend : {T P : Type 0} → Result (List ℕ) (RouterError T P) → Type 0 → RouterError T P → Type 0
RefusesSend outcome takes router.Memory = takes
RefusesSend outcome takes e = outcome ≡ Err e

-- the number after this one
abbrev pub number_after : ℕ → ℕ
number_after n = (n + 1) % 2 ^ 32

-- a handle that has returned nothing yet, of a request that is answered so
abbrev pub expects : ℕ → Answering → HandleState
expects number answering =
    record { number = Some number; needs_ack = awaits answering; single_given = false; ended = false }

-- the same, by the request's flags
abbrev pub asks : ℕ → NlmF → HandleState
asks number flags =
    record { number = Some number; needs_ack = needs_ack flags; single_given = false; ended = false }
