-- Retyping: an untyped message, whose type is a number and whose body is bytes, as one of other types.
use Rattle.std.specs.Prelude.{◌≡◌, ◌<◌, ◌+◌, ◌⊎◌, ℕ, List, codes, length, take}
use Rattle.std.specs.Prelude.{Option, Some, None, Result, Ok, Err, IsOk, nat_lt, if◌then◌else◌}
use Rattle.neli_wire.specs.declared.errors.DeError.{DeError}
use Rattle.neli_wire.specs.declared.errors.DeError.TheVariants.{InvalidInput}
use Rattle.neli_wire.specs.Reading.{◌>>=◌, exact_takes_memory}
use Rattle.neli_wire.specs.Refusals.{de_copy_takes_memory}
use Rattle.neli_wire.specs.Sizes.{align}
use Rattle.neli_msg.specs.declared.answer.Nlmsgerr.{Nlmsgerr}
use Rattle.neli_msg.specs.Framed.{Nlmsghdr, NlmsghdrErr}
use Rattle.neli_msg.specs.declared.payload.NlPayload.{NlPayload}
use Rattle.neli_msg.specs.declared.payload.NlPayload.TheVariants as payload
use Rattle.neli_msg.specs.declared.router_error.RouterError.{RouterError}
use Rattle.neli_msg.specs.declared.router_error.RouterError.TheVariants as router
use Rattle.neli_msg.specs.Answers.{answer}
use Rattle.neli_msg.specs.Copies.{socket_copy_takes_memory}
use Rattle.neli_msg.specs.Headers.{Header}
use Rattle.neli_msg.specs.Messages.{Message}
use Rattle.neli_msg.specs.Wires.{message_size, payload_size}

-- ---- the untyped message in the other types; lengths stay

-- a header with the meaning of its type's number
abbrev pub typed_header : {K : Type 0} → (ℕ → K) → Header ℕ → Header K
typed_header type_of h = record {
  len = h.len;
  message_type = type_of h.message_type;
  flags = h.flags;
  sequence_number = h.sequence_number;
  port = h.port;
}

-- an acknowledgement or a capped error: its code, its header's length and its attributes stay
abbrev pub typed_acknowledgement : {K : Type 0} → (ℕ → K) → Nlmsgerr (Header ℕ) → Nlmsgerr (Header K)
typed_acknowledgement type_of e = answer e.error (typed_header type_of e.nlmsg) e.ext_ack

-- the first n bytes, read as a body
abbrev pub first_as : {V : Type 0} → (List ℕ → Result V DeError) → ℕ → List ℕ → Result V DeError
first_as read n bytes = if nat_lt (length bytes) n then Err (InvalidInput n) else read (take n bytes)

module _ {K V : Type 0} (type_of : ℕ → K) (read : List ℕ → Result V DeError) where
  -- an echoed message: its payload's bytes are read as a body
  abbrev pub typed_echo : NlmsghdrErr ℕ (List ℕ) → Result (NlmsghdrErr K V) DeError
  typed_echo m =
      read m.payload.0 >>= λ v. Ok (record { header = typed_header type_of m.header; payload = record { 0 = v } })

  -- an error: its code and its attributes stay
  abbrev pub typed_failure : Nlmsgerr (NlmsghdrErr ℕ (List ℕ)) → Result (Nlmsgerr (NlmsghdrErr K V)) DeError
  typed_failure e = typed_echo e.nlmsg >>= λ m. Ok (answer e.error m e.ext_ack)

  -- a payload
  abbrev pub typed_payload : NlPayload ℕ (List ℕ) → Result (NlPayload K V) DeError
  typed_payload (payload.Payload bytes) = read bytes >>= λ v. Ok (payload.Payload v)
  typed_payload (payload.Err e) = typed_failure e >>= λ f. Ok (payload.Err f)
  typed_payload (payload.Ack e) = Ok (payload.Ack (typed_acknowledgement type_of e))
  typed_payload (payload.Capped e) = Ok (payload.Capped (typed_acknowledgement type_of e))
  typed_payload (payload.DumpExtAck e) = Ok (payload.DumpExtAck e)
  typed_payload payload.Empty = Ok payload.Empty

  -- a message
  abbrev pub typed_message : Message ℕ (List ℕ) → Result (Message K V) DeError
  typed_message m = typed_payload m.1 >>= λ p. Ok (typed_header type_of m.0, p)

  -- a payload, of a body the first n bytes
  abbrev pub typed_first : ℕ → NlPayload ℕ (List ℕ) → Result (NlPayload K V) DeError
  typed_first n (payload.Payload bytes) = first_as read n bytes >>= λ v. Ok (payload.Payload v)
  typed_first n p = typed_payload p

-- if the payload has bytes for a body, they are read as one
abbrev pub IsRead : {V : Type 0} → (List ℕ → Result V DeError) → NlPayload ℕ (List ℕ) → Type 0
IsRead read (payload.Payload bytes) = IsOk (read bytes)
IsRead read (payload.Err e) = IsOk (read e.nlmsg.payload.0)
IsRead read p = Unit {0}

-- where typing takes memory, by the reading of a body and where that takes some
module _ {V : Type 0} (read : List ℕ → Result V DeError) (takes : List ℕ → Type 0) where
  -- an error: where reading the echoed bytes does, or if they are read and there are attributes to copy
  abbrev pub failure_typing_takes_memory : Nlmsgerr (NlmsghdrErr ℕ (List ℕ)) → Type 0
  failure_typing_takes_memory e =
      takes e.nlmsg.payload.0 ⊎ (IsOk (read e.nlmsg.payload.0) × (0 < length e.ext_ack))

  -- a payload: a body as its reading does; an answer without a body where it has attributes
  abbrev pub typing_takes_memory : NlPayload ℕ (List ℕ) → Type 0
  typing_takes_memory (payload.Payload bytes) = takes bytes
  typing_takes_memory (payload.Err e) = failure_typing_takes_memory e
  typing_takes_memory (payload.Ack e) = 0 < length e.ext_ack
  typing_takes_memory (payload.Capped e) = 0 < length e.ext_ack
  typing_takes_memory (payload.DumpExtAck e) = 0 < length e.ext_ack
  typing_takes_memory payload.Empty = ⊥

  -- a payload, of a body the first n bytes
  abbrev pub first_takes_memory : ℕ → NlPayload ℕ (List ℕ) → Type 0
  first_takes_memory n (payload.Payload bytes) = exact_takes_memory takes n bytes
  first_takes_memory n p = typing_takes_memory p

-- the number of a body's bytes
abbrev pub body_count : {K : Type 0} → NlPayload K (List ℕ) → ℕ
body_count (payload.Payload bytes) = length bytes
body_count p = 0

-- ---- lengths computed anew

-- a header with another length
abbrev pub with_len : {K : Type 0} → Header K → ℕ → Header K
with_len h len = record {
  len = len;
  message_type = h.message_type;
  flags = h.flags;
  sequence_number = h.sequence_number;
  port = h.port;
}

-- the view of an echoed message, if it stated this length
abbrev pub echo_stating : {K P V : Type 0} → ℕ → (P → V) → NlmsghdrErr K P → NlmsghdrErr K V
echo_stating len view m = record { header = with_len m.header len; payload = record { 0 = view m.payload.0 } }

-- the same of an error
abbrev pub failure_stating : {K P V : Type 0} → ℕ → (P → V) → Nlmsgerr (NlmsghdrErr K P) → Nlmsgerr (NlmsghdrErr K V)
failure_stating len view e = answer e.error (echo_stating len view e.nlmsg) e.ext_ack

-- the same of a payload
abbrev pub payload_stating : {K P V : Type 0} → ℕ → (P → V) → NlPayload K P → NlPayload K V
payload_stating len view (payload.Payload p) = payload.Payload (view p)
payload_stating len view (payload.Err e) = payload.Err (failure_stating len view e)
payload_stating len view (payload.Ack e) = payload.Ack e
payload_stating len view (payload.Capped e) = payload.Capped e
payload_stating len view (payload.DumpExtAck e) = payload.DumpExtAck e
payload_stating len view payload.Empty = payload.Empty

-- the length that an echoed message states; 0 without one
abbrev pub stated_echo : {K P : Type 0} → NlPayload K P → ℕ
stated_echo (payload.Err e) = e.nlmsg.header.len
stated_echo p = 0

-- an echoed message states the length of its own header and payload, rounded up to four
abbrev pub HasOwnLength : {K P : Type 0} → (P → ℕ) → NlmsghdrErr K P → Type 0
HasOwnLength size m = m.header.len ≡ align (16 + size m.payload.0)

-- the same for the message that a payload echoes
abbrev pub HasOwnEcho : {K P : Type 0} → (P → ℕ) → NlPayload K P → Type 0
HasOwnEcho size (payload.Err e) = HasOwnLength size e.nlmsg
HasOwnEcho size p = Unit {0}

-- ---- refusals

-- e is why a message is not typed: a body's refusal, or a length that exceeds 32 bits; or memory ran out
abbrev pub RefusesTyping : {A T P : Type 0} → Result A DeError → Type 0 → RouterError T P → Type 0
RefusesTyping outcome too_long (router.De e) = outcome ≡ Err e
RefusesTyping outcome too_long (router.Msg text) = (text ≡ codes "Length does not fit its field") × too_long
RefusesTyping outcome too_long router.Memory = Unit {0}
RefusesTyping outcome too_long e = ⊥

module _ {P V : Type 0} (view : P → V) (size : P → ℕ) (read : List ℕ → Result V DeError) where
  -- these bytes are read as a body with which the message is too long
  abbrev pub IsTooLong : List ℕ → Type 0
  IsTooLong bytes = (p : P) × (read bytes ≡ Ok (view p)) × (4294967295 < align (16 + size p))

  -- the same of the bytes that a payload echoes
  abbrev pub IsEchoTooLong : NlPayload ℕ (List ℕ) → Type 0
  IsEchoTooLong (payload.Err e) = IsTooLong e.nlmsg.payload.0
  IsEchoTooLong p = ⊥

  -- the echoed message is too long, or the typed payload makes the message so
  abbrev pub IsMessageTooLong : {K : Type 0} → (ℕ → K) → NlPayload ℕ (List ℕ) → Type 0
  IsMessageTooLong {K} type_of u =
      IsEchoTooLong u ⊎ ((p : NlPayload K P) × (typed_payload type_of read u
      ≡ Ok (payload_stating (stated_echo u) view p))
      × HasOwnEcho size p × (4294967295 < align (16 + payload_size size p)))

-- ---- a message, and a router's error: the parts of a message in it are retyped, and all else stays

module _ {K P V : Type 0} (type_of : ℕ → K) (view : P → V) (size : P → ℕ) (read : List ℕ → Result V DeError) where
  -- m is the untyped u in the other types, with its lengths computed anew
  abbrev pub IsTyped : Nlmsghdr ℕ (List ℕ) → Nlmsghdr K P → Type 0
  IsTyped u m =
      (typed_payload type_of read u.payload ≡ Ok (payload_stating (stated_echo u.payload) view m.payload))
      × (m.header ≡ with_len (typed_header type_of u.header) (align (message_size size m)))
      × HasOwnEcho size m.payload

  -- why is why u can't be typed: a body's refusal, or a length that exceeds 32 bits; or memory ran out
  abbrev pub RefusesTypingMessage : Nlmsghdr ℕ (List ℕ) → RouterError K P → Type 0
  RefusesTypingMessage u why =
      RefusesTyping (typed_payload type_of read u.payload) (IsMessageTooLong view size read type_of u.payload) why

  -- f is the untyped e in the other types
  abbrev pub IsTypedError : RouterError ℕ (List ℕ) → RouterError K P → Type 0
  IsTypedError (router.Nlmsgerr e) (router.Nlmsgerr f) =
      (typed_failure type_of read e ≡ Ok (failure_stating e.nlmsg.header.len view f)) × HasOwnLength size f.nlmsg
  IsTypedError (router.Nlmsgerr e) f = ⊥
  IsTypedError (router.Capped e) f = f ≡ router.Capped (typed_acknowledgement type_of e)
  IsTypedError (router.BadSeqOrPid u) (router.BadSeqOrPid m) = IsTyped u m
  IsTypedError (router.BadSeqOrPid u) f = ⊥
  IsTypedError (router.Msg text) f = f ≡ router.Msg text
  IsTypedError (router.Io kind) f = f ≡ router.Io kind
  IsTypedError (router.De e) f = f ≡ router.De e
  IsTypedError (router.Socket e) f = f ≡ router.Socket e
  IsTypedError router.NoAck f = f ≡ router.NoAck
  IsTypedError router.UnexpectedAck f = f ≡ router.UnexpectedAck
  IsTypedError router.ClosedChannel f = f ≡ router.ClosedChannel
  IsTypedError (router.SeqInUse n) f = f ≡ router.SeqInUse n
  IsTypedError router.Memory f = f ≡ router.Memory

  -- why is why the untyped error can't be typed: its message can't; or memory ran out if there is something to copy
  abbrev pub RefusesTypingError : RouterError ℕ (List ℕ) → RouterError K P → Type 0
  RefusesTypingError (router.Nlmsgerr e) why =
      RefusesTyping (typed_failure type_of read e) (IsTooLong view size read e.nlmsg.payload.0) why
  RefusesTypingError (router.BadSeqOrPid u) why = RefusesTypingMessage u why
  RefusesTypingError (router.Capped e) why = why ≡ router.Memory
  RefusesTypingError (router.Msg text) why = why ≡ router.Memory
  RefusesTypingError (router.De e) why = why ≡ router.Memory
  RefusesTypingError (router.Socket e) why = why ≡ router.Memory
  RefusesTypingError e why = ⊥

-- where typing a router's error takes memory: where its message does, or its attributes or texts are copied
module _ {V : Type 0} (read : List ℕ → Result V DeError) (takes : List ℕ → Type 0) where
  abbrev pub error_takes_memory : RouterError ℕ (List ℕ) → Type 0
  error_takes_memory (router.Nlmsgerr e) = failure_typing_takes_memory read takes e
  error_takes_memory (router.Capped e) = 0 < length e.ext_ack
  error_takes_memory (router.BadSeqOrPid u) = typing_takes_memory read takes u.payload
  error_takes_memory (router.Msg text) = 0 < length text
  error_takes_memory (router.De e) = de_copy_takes_memory e
  error_takes_memory (router.Socket e) = socket_copy_takes_memory e
  error_takes_memory e = ⊥

-- ---- parts taken out and put in

-- the body, if there is one
abbrev pub body_of : {K P : Type 0} → NlPayload K P → Option P
body_of (payload.Payload p) = Some p
body_of p = None

-- the error, if there is one
abbrev pub failure_of : {K P : Type 0} → NlPayload K P → Option (Nlmsgerr (NlmsghdrErr K P))
failure_of (payload.Err e) = Some e
failure_of p = None

-- the capped error, if there is one
abbrev pub capped_of : {K P : Type 0} → NlPayload K P → Option (Nlmsgerr (Header K))
capped_of (payload.Capped e) = Some e
capped_of p = None

-- the message with another payload and another length
abbrev pub with_payload : {K P : Type 0} → Nlmsghdr K P → ℕ → NlPayload K P → Nlmsghdr K P
with_payload m len p = record { header = with_len m.header len; payload = p }

-- the rest of a message with this payload after its error is taken out: an empty one of 16 bytes
abbrev pub left_of : {K P : Type 0} → Nlmsghdr K P → NlPayload K P → Nlmsghdr K P
left_of m (payload.Err e) = with_payload m 16 payload.Empty
left_of m p = m

-- the rest of a message after its error is taken out
abbrev pub without_failure : {K P : Type 0} → Nlmsghdr K P → Nlmsghdr K P
without_failure m = left_of m m.payload

-- the same for its capped error
abbrev pub left_of_capped : {K P : Type 0} → Nlmsghdr K P → NlPayload K P → Nlmsghdr K P
left_of_capped m (payload.Capped e) = with_payload m 16 payload.Empty
left_of_capped m p = m

abbrev pub without_capped : {K P : Type 0} → Nlmsghdr K P → Nlmsghdr K P
without_capped m = left_of_capped m m.payload
