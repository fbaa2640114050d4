-- Lent reads: the item that is lent, and what the step past it changes.
use Rattle.std.specs.Prelude.{◌≡◌, ℕ, ℤ, pos, Bool, true, false, not, ◌&&◌, ◌||◌, ◌==◌, bit_and, if◌then◌else◌}
use Rattle.std.specs.Prelude.{List, ◌<◌, Result, Ok, Err}
use Rattle.neli_wire.specs.declared.errors.DeError.{DeError}
use Rattle.neli_reader.specs.Framed.{Nlmsghdr}
use Rattle.neli_reader.specs.Kind.{Kind}
use Rattle.neli_reader.specs.Kind.TheVariants.{Body, Nothing, DumpEnd, Acknowledgement}
use Rattle.neli_reader.specs.Kinds.{is_multi}
use Rattle.neli_reader.specs.NlPayload.{NlPayload}
use Rattle.neli_reader.specs.NlPayload.TheVariants as payload
use Rattle.neli_reader.specs.Retyping.{IsTyped, IsTypedError}
use Rattle.neli_reader.specs.RouterError.TheVariants as router
use Rattle.neli_lent.specs.Messages.{Lent, code_or_zero, lent_kind, message_view}
use Rattle.neli_lent.specs.declared.message.LentMessage.{LentMessage}
use Rattle.neli_deliveries.specs.declared.delivery.Delivery.{Delivery}
use Rattle.neli_deliveries.specs.declared.delivery.Delivery.TheVariants as delivery
use Rattle.neli_deliveries.specs.Readings.{Item}
use Rattle.neli_deliveries.specs.declared.delivery.Heading.{Heading}
use Rattle.neli_log.specs.Lending.{Lends, lent_heading}
use Rattle.neli_log.specs.declared.lending.LentDelivery.{LentDelivery}
use Rattle.neli_log.specs.declared.lending.LentDelivery.TheVariants as lent
use Rattle.neli_router.specs.Verdicts.{code_verdict, fault_verdict, is_last}
use Rattle.neli_router.specs.declared.lending.LentError.{LentError}
use Rattle.neli_router.specs.declared.lending.LentError.TheVariants as error
use Rattle.neli_router.specs.declared.lending.LentReply.{LentReply}
use Rattle.neli_router.specs.declared.lending.LentReply.TheVariants as reply
use Rattle.neli_router.specs.declared.lending.Step.{Step}
use Rattle.neli_router.specs.declared.verdict.Heard.{Heard}
use Rattle.neli_router.specs.declared.verdict.Loss.TheVariants as loss
use Rattle.neli_router.specs.declared.verdict.Verdict.{Verdict}
use Rattle.neli_router.specs.declared.verdict.Verdict.TheVariants as stands

-- ---- what is lent

-- a delivery read untyped, which nothing refuses: a message, or the error in its place
abbrev pub untyped : Delivery → Item ℕ (List ℕ)
untyped (delivery.Message u) = Ok u
untyped (delivery.Stray u) = Err (router.BadSeqOrPid u)
untyped (delivery.Fault e) = Err (router.Socket e)

-- the item is the error with this code that a payload is
abbrev pub IsErrorOf : ℤ → NlPayload ℕ (List ℕ) → Item ℕ (List ℕ) → Type 0
IsErrorOf code (payload.Err e) item = (code ≡ e.error) × (item ≡ Err (router.Nlmsgerr e))
IsErrorOf code (payload.Capped e) item = (code ≡ e.error) × (item ≡ Err (router.Capped e))
IsErrorOf code p item = ⊥

abbrev pub LentItem : Type 0
LentItem = Result (LentMessage ℕ) LentError

-- the lent item is this one
abbrev pub IsLentItem : Item ℕ (List ℕ) → LentItem → Type 0
IsLentItem item (Ok m) = (u : Nlmsghdr ℕ (List ℕ)) × Lends (message_view m) u × (item ≡ Ok u)
IsLentItem item (Err (error.Answer code m)) =
    (u : Nlmsghdr ℕ (List ℕ)) × Lends (message_view m) u × IsErrorOf code u.payload item
IsLentItem item (Err error.NoAck) = item ≡ Err router.NoAck
IsLentItem item (Err error.UnexpectedAck) = item ≡ Err router.UnexpectedAck
IsLentItem item (Err (error.BadSeqOrPid m)) =
    (u : Nlmsghdr ℕ (List ℕ)) × Lends (message_view m) u × (item ≡ Err (router.BadSeqOrPid u))
IsLentItem item (Err (error.Socket e)) = item ≡ Err (router.Socket e.now)
IsLentItem item (Err error.ClosedChannel) = item ≡ Err router.ClosedChannel

-- an item is lent, and it is this one
abbrev pub IsLentReply : Item ℕ (List ℕ) → LentReply → Type 0
IsLentReply item (reply.Item l) = IsLentItem item l
IsLentReply item r = ⊥

-- ---- the same by the header and the payload's bytes, as the code decides it

-- an acknowledgement, or an error of the other side
abbrev pub kind_answers : Kind → Bool
kind_answers Body = false
kind_answers Nothing = false
kind_answers DumpEnd = false
kind_answers kind = true

abbrev pub lent_answers : Lent ℕ → Bool
lent_answers m = kind_answers (lent_kind (λ n. n) m)

abbrev pub lent_single : Bool → Lent ℕ → Bool
lent_single numbered m =
    numbered && (not (lent_answers m) && (not (is_multi m.0.flags) || (m.0.message_type == 3)))

abbrev pub lent_ends : Bool → Bool → Bool → Lent ℕ → Bool
lent_ends needs numbered after m = lent_answers m || (if needs then after else lent_single numbered m)

abbrev pub last_of_kind : Kind → Bool → Bool → LentMessage ℕ → LentItem
last_of_kind (Acknowledgement tail) needs after m = if needs then Ok m else Err error.UnexpectedAck
last_of_kind kind needs after m =
    if after then Err error.NoAck
    else (if kind_answers kind then Err (error.Answer (code_or_zero m.payload.now) m) else Ok m)

abbrev pub lent_last : Bool → Bool → LentMessage ℕ → LentItem
lent_last needs after m = last_of_kind (lent_kind (λ n. n) (message_view m)) needs after m

abbrev pub lent_item : Bool → Bool → Bool → LentDelivery → LentItem
lent_item needs numbered after (lent.Message m) =
    if lent_ends needs numbered after (message_view m) then lent_last needs after m else Ok m
lent_item needs numbered after (lent.Stray m) = Err (error.BadSeqOrPid m)
lent_item needs numbered after (lent.Fault e) = Err (error.Socket e)

abbrev pub kind_end_code : Kind → List ℕ → ℤ
kind_end_code DumpEnd s = code_or_zero s
kind_end_code kind s = pos 0

abbrev pub lent_end_code : Lent ℕ → ℤ
lent_end_code m = kind_end_code (lent_kind (λ n. n) m) m.1

abbrev pub lent_error_verdict : LentError → Verdict
lent_error_verdict (error.Answer code m) = stands.Failed code
lent_error_verdict error.NoAck = stands.Lost loss.NoAck
lent_error_verdict error.UnexpectedAck = stands.Lost loss.UnexpectedAck
lent_error_verdict (error.BadSeqOrPid m) = stands.Lost loss.Stray
lent_error_verdict (error.Socket e) = fault_verdict e.now
lent_error_verdict error.ClosedChannel = stands.Lost loss.Closed

abbrev pub is_lent_flagged : ℕ → LentItem → Bool
is_lent_flagged flag (Ok m) = bit_and m.header.flags.0 flag == flag
is_lent_flagged flag (Err e) = false

abbrev pub lent_last_verdict : LentItem → Verdict
lent_last_verdict (Ok m) = code_verdict (lent_end_code (message_view m))
lent_last_verdict (Err e) = lent_error_verdict e

abbrev pub lent_verdict : Bool → LentItem → Verdict
lent_verdict ended l =
    if is_lent_flagged 16 l then stands.Interrupted else (if ended then lent_last_verdict l else stands.Pending)

-- ---- the step past a delivery

-- by the item that is lent
abbrev pub step_by : Bool → Bool → Heading → LentItem → Step
step_by single ended heading l = record {
  single = single;
  ended = ended;
  heading = heading;
  filtered = is_lent_flagged 32 l;
  verdict = lent_verdict ended l;
}

abbrev pub lent_step : Bool → Bool → Bool → LentDelivery → Step
lent_step needs numbered after (lent.Message m) =
    step_by (lent_single numbered (message_view m)) (lent_ends needs numbered after (message_view m))
    (lent_heading (lent.Message m)) (lent_item needs numbered after (lent.Message m))
lent_step needs numbered after d = step_by false true (lent_heading d) (lent_item needs numbered after d)

-- every verdict but pending stays
abbrev pub first_verdict : Verdict → Verdict → Verdict
first_verdict stands.Pending v = v
first_verdict before v = before

-- what is known after it
abbrev pub with_step : Step → Heard → Heard
with_step step heard = record heard {
  verdict = first_verdict heard.verdict step.verdict;
  filtered = heard.filtered || step.filtered;
  finished = heard.finished || is_last heard.answering step.heading;
}

-- ---- read as the caller's types

-- the delivery was read: no body is refused, and no length exceeds 32 bits
abbrev pub IsReadable : {K P : Type 0} → Delivery → Item K P → Type 0
IsReadable (delivery.Message u) (Ok m) = Unit {0}
IsReadable (delivery.Stray u) (Err (router.BadSeqOrPid m)) = Unit {0}
IsReadable (delivery.Fault e) item = Unit {0}
IsReadable d item = ⊥

-- the type of its message, if it has one, is a number of 16 bits
abbrev pub HasType : Delivery → Type 0
HasType (delivery.Message u) = u.header.message_type < 65536
HasType (delivery.Stray u) = u.header.message_type < 65536
HasType (delivery.Fault e) = Unit {0}

-- the item is the untyped one in the caller's types, with its lengths computed anew
abbrev pub IsTypedItem : {K P V : Type 0} → (ℕ → K) → (P → V) → (P → ℕ) → (List ℕ → Result V DeError)
    → Item ℕ (List ℕ) → Item K P → Type 0
IsTypedItem type_of view size read (Ok u) (Ok m) = IsTyped type_of view size read u m
IsTypedItem type_of view size read (Err e) (Err f) = IsTypedError type_of view size read e f
IsTypedItem type_of view size read u item = ⊥
