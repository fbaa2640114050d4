-- Requests as a kernel takes them, and what it answers: by neli_kernel's own definitions.
use Rattle.std.specs.Prelude.{◌≡◌, ◌≢◌, ◌⊎◌, ℕ, ℤ, Bool, if◌then◌else◌, List, [], length, Option, Some, None}
use Rattle.std.specs.Prelude.{Result, Ok, Err}
use Rattle.neli_wire.specs.declared.errors.DeError.{DeError}
use Rattle.neli_wire.specs.declared.errors.SerError.{SerError}
use Rattle.neli_wire.specs.declared.errors.SerError.TheVariants as ser
use Rattle.neli_wire.specs.Writing.{Wire}
use Rattle.neli_reader.specs.Answers.{Attributes, ext_ack_in}
use Rattle.neli_reader.specs.Headers.{flags_of}
use Rattle.neli_reader.specs.NlPayload.TheVariants as payload
use Rattle.neli_kernel.specs.Answers.{acknowledgement, capped_error, error, message_or_refusal}
use Rattle.neli_kernel.specs.Answers.{message_with, reply}
use Rattle.neli_kernel.specs.Requests.{has_flags, is_handled, wants_dump, wants_routing_dump}
use Rattle.neli_kernel.specs.declared.request.Request.{Request}
use Rattle.neli_c_parts.specs.declared.asking.NeliRequest.{NeliRequest}
use Rattle.neli_c_parts.specs.Codes.{bad_length, memory, ok, place}
use Rattle.neli_c_parts.specs.Writes.{WritesMessage}
use Rattle.neli_c_parts.specs.Walks.{header_view, refusal_code}

-- ---- requests

-- the request has this header, came from the socket of this port, and has this payload
abbrev pub IsAsked : NeliRequest → List ℕ → Request → Type 0
IsAsked r payload asked =
    (asked.port ≡ r.port) × (asked.header ≡ header_view r.message) × (asked.payload.now ≡ payload)

-- 1 where it holds, else 0
abbrev pub byte_of : Bool → ℕ
byte_of b = if b then 1 else 0

-- what the header asks for stands beside it
abbrev pub SaysWants : NeliRequest → Type 0
SaysWants r =
    (asked : Request) × IsAsked r [] asked
    × (r.is_handled ≡ byte_of (is_handled asked))
    × (r.wants_acknowledgement ≡ byte_of (has_flags asked 4))
    × (r.wants_dump ≡ byte_of (wants_dump asked))
    × (r.wants_routing_dump ≡ byte_of (wants_routing_dump asked))
    × (r.wants_echo ≡ byte_of (has_flags asked 8))

-- ---- the bytes of messages, or why there are none

abbrev pub acknowledgement_wire : Request → Attributes → Wire
acknowledgement_wire asked attrs = message_or_refusal (λ n. n) (λ b. Ok b) (acknowledgement asked attrs)

abbrev pub capped_wire : ℤ → Request → Attributes → Wire
capped_wire code asked attrs = message_or_refusal (λ n. n) (λ b. Ok b) (capped_error asked code attrs)

abbrev pub error_wire : ℤ → Request → Attributes → Wire
error_wire code asked attrs = message_or_refusal (λ n. n) (λ b. Ok b) (error asked code attrs)

-- of a reply of this type, these flags and this body
abbrev pub reply_wire : ℕ → ℕ → List ℕ → Request → Wire
reply_wire message_type flags body asked =
    message_or_refusal {T = ℕ} {P = List ℕ} (λ n. n) (λ b. Ok b) (reply length asked message_type (flags_of flags) body)

-- of a notification of this type, flags, number, port and body
abbrev pub notification_wire : ℕ → ℕ → ℕ → ℕ → List ℕ → Wire
notification_wire message_type flags number port body =
    message_or_refusal {T = ℕ} {P = List ℕ} (λ n. n) (λ b. Ok b)
    (message_with length message_type (flags_of flags) number port (payload.Payload body))

-- ---- what calls answer

-- of a message without bytes: memory ran out, or its length passes its field
abbrev pub ser_code : SerError → ℤ
ser_code ser.Memory = memory
ser_code e = bad_length

-- the bytes are written where there is room for all, and `size` is how many there are; or why there are none
abbrev pub WritesBytes : ℤ → Wire → List ℕ → List ℕ → ℕ → ℕ → Type 0
WritesBytes code (Ok bytes) old new size size' = WritesMessage code (Ok bytes) old new size'
WritesBytes code (Err e) old new size size' = (code ≡ ser_code e) × (size' ≡ size)

-- the same, or memory ran out; but at ok nothing is written
abbrev pub WritesAnswer : ℤ → Wire → List ℕ → List ℕ → ℕ → ℕ → Type 0
WritesAnswer code wire old new size size' =
    (code ≢ ok → new ≡ old) × (((code ≡ memory) × (size' ≡ size)) ⊎ WritesBytes code wire old new size size')

-- the same of an answer with these attributes; or why they cannot be read, and nothing is written
abbrev pub WritesWith : ℤ → (Attributes → Wire) → Result Attributes DeError → List ℕ → List ℕ → ℕ → ℕ → Type 0
WritesWith code wire (Ok attrs) old new size size' = WritesAnswer code (wire attrs) old new size size'
WritesWith code wire (Err e) old new size size' =
    ((code ≡ refusal_code e) ⊎ (code ≡ memory)) × (new ≡ old) × (size' ≡ size)

-- the same of a request with this payload, and of the attributes that the bytes `text` list
abbrev pub Answers : ℤ → NeliRequest → List ℕ → (Request → Attributes → Wire) → List ℕ → List ℕ → List ℕ → ℕ → ℕ
    → Type 0
Answers code r payload wire text old new size size' =
    (asked : Request) × IsAsked r payload asked × WritesWith code (wire asked) (ext_ack_in text) old new size size'

-- the same of a request's payload where it lies within the bytes; else its place is past them, and nothing is written
abbrev pub AnswersWhole : ℤ → NeliRequest → Option (List ℕ) → (Request → Attributes → Wire) → List ℕ → List ℕ → List ℕ
    → ℕ → ℕ → Type 0
AnswersWhole code r (Some payload) wire text old new size size' = Answers code r payload wire text old new size size'
AnswersWhole code r None wire text old new size size' =
    (code ≡ place) × (new ≡ old) × (size' ≡ size)
