-- The verdict on an answer: what is known of it by the items read, and whether it is complete.
use Rattle.std.specs.Prelude.{ℕ, ℤ, pos, Bool, true, false, ◌||◌, ◌==◌, nat_eq, nat_lt, bit_and, if◌then◌else◌}
use Rattle.std.specs.HashMap.{HashMap, get}
use Rattle.std.specs.Ordering.{int_eq}
use Rattle.std.specs.Prelude.{List, [], ◌∷◌, ◌++◌, take, Option, Some, None, Ok, Err}
use Rattle.std.specs.List.{list_any, slice_get}
use Rattle.neli_reader.specs.NlPayload.{NlPayload}
use Rattle.neli_reader.specs.NlPayload.TheVariants as payload
use Rattle.neli_reader.specs.RouterError.{RouterError}
use Rattle.neli_reader.specs.RouterError.TheVariants as router
use Rattle.neli_reader.specs.SocketError.{SocketError}
use Rattle.neli_reader.specs.SocketError.TheVariants as socket
use Rattle.neli_answers.specs.Answers.{ends_answer}
use Rattle.neli_answers.specs.declared.answering.Answering.{Answering}
use Rattle.neli_answers.specs.declared.answering.Answering.TheVariants as answered
use Rattle.neli_deliveries.specs.Deliveries.{heading_of}
use Rattle.neli_deliveries.specs.declared.delivery.Delivery.{Delivery}
use Rattle.neli_deliveries.specs.declared.delivery.Heading.{Heading}
use Rattle.neli_deliveries.specs.declared.delivery.Heading.TheVariants as heading
use Rattle.neli_deliveries.specs.Readings.{Item}
use Rattle.neli_router.specs.declared.verdict.Heard.{Heard}
use Rattle.neli_router.specs.declared.verdict.Loss.TheVariants as loss
use Rattle.neli_router.specs.declared.verdict.Verdict.{Verdict}
use Rattle.neli_router.specs.declared.verdict.Verdict.TheVariants as stands
use Rattle.neli_router.specs.Rule.{ends_at, item_of, last_item, last_place, single_place}

-- ---- of one item

-- a message with this flag: 16 is NLM_F_DUMP_INTR, 32 NLM_F_DUMP_FILTERED
abbrev pub is_flagged : {K P : Type 0} → ℕ → Item K P → Bool
is_flagged flag (Ok m) = bit_and m.header.flags.0 flag == flag
is_flagged flag (Err e) = false

-- the code of the end of a dump, which is below zero for a failed dump; 0 elsewhere
abbrev pub end_code : {K P : Type 0} → NlPayload K P → ℤ
end_code (payload.DumpExtAck e) = e.error
end_code p = pos 0

-- by that code
abbrev pub code_verdict : ℤ → Verdict
code_verdict code = if int_eq code (pos 0) then stands.Complete else stands.Failed code

-- of a fault of the link, or of a datagram
abbrev pub fault_verdict : SocketError → Verdict
fault_verdict (socket.De e) = stands.Lost loss.Datagram
fault_verdict e = stands.Lost loss.Link

-- of the error in place of a message
abbrev pub error_verdict : {K P : Type 0} → RouterError K P → Verdict
error_verdict (router.Nlmsgerr e) = stands.Failed e.error
error_verdict (router.Capped e) = stands.Failed e.error
error_verdict (router.Socket e) = fault_verdict e
error_verdict (router.BadSeqOrPid m) = stands.Lost loss.Stray
error_verdict router.NoAck = stands.Lost loss.NoAck
error_verdict router.UnexpectedAck = stands.Lost loss.UnexpectedAck
error_verdict router.ClosedChannel = stands.Lost loss.Closed
error_verdict e = stands.Lost loss.Unreadable

-- of the item that ends an answer
abbrev pub last_verdict : {K P : Type 0} → Item K P → Verdict
last_verdict (Ok m) = code_verdict (end_code m.payload)
last_verdict (Err e) = error_verdict e

-- ---- of an answer, by its deliveries so far, read as items

module _ {K P : Type 0} (number_of : K → ℕ) (needs numbered : Bool) where
  -- the item returned at the last place, if one stands there
  abbrev pub last_given : List (Item K P) → Option (Item K P) → List (Item K P)
  last_given items None = []
  last_given items (Some x) =
      last_item needs (nat_lt (single_place number_of numbered items) (last_place number_of needs numbered items)) x ∷ []

  -- the returned items, in order: all before the last place as they are, and there the last item
  abbrev pub given_of : List (Item K P) → List (Item K P)
  given_of items =
      take (last_place number_of needs numbered items) items
      ++ last_given items (slice_get items (last_place number_of needs numbered items))

  -- by the last item, if it was returned
  abbrev pub verdict_at_end : List (Item K P) → Verdict
  verdict_at_end [] = stands.Pending
  verdict_at_end (x ∷ xs) = last_verdict x

  -- the verdict: interrupted if a returned item is marked; else by the last item
  abbrev pub verdict : List (Item K P) → Verdict
  verdict items =
      if list_any (is_flagged 16) (given_of items) then stands.Interrupted
      else verdict_at_end (last_given items (slice_get items (last_place number_of needs numbered items)))

  -- whether the other side filtered
  abbrev pub is_filtered : List (Item K P) → Bool
  is_filtered items = list_any (is_flagged 32) (given_of items)

-- ---- where the other side's answer ends

-- the last message of an answer, by its type and its flags, as any error is; no stray and no fault is one
abbrev pub is_last : Answering → Heading → Bool
is_last answering (heading.Message type flags) = ends_answer answering type flags (pos 0)
is_last answering heading.Other = false

-- the same of a delivery, by its message's header
abbrev pub is_last_delivery : Answering → Delivery → Bool
is_last_delivery answering d = is_last answering (heading_of d)

-- the same of an item in a list; an error in place of a message is none
abbrev pub is_last_item : {K P : Type 0} → (K → ℕ) → Answering → Item K P → Bool
is_last_item number_of answering (Ok m) =
    ends_answer answering (number_of m.header.message_type) m.header.flags (pos 0)
is_last_item number_of answering (Err e) = false

-- complete only where the other side's answer has ended too
abbrev pub whole_verdict : Bool → Verdict → Verdict
whole_verdict finished stands.Complete = if finished then stands.Complete else stands.Lost loss.Unended
whole_verdict finished v = v

-- the verdict on a list of items, by how their request is answered
abbrev pub verdict_of_items : {K P : Type 0} → (K → ℕ) → Answering → Bool → List (Item K P) → Verdict
verdict_of_items number_of answering needs items =
    whole_verdict (list_any (is_last_item number_of answering) (given_of number_of needs true items))
    (verdict number_of needs true items)

-- ---- one item more

-- nothing was read of an answer that comes so
abbrev pub begun : Answering → Heard
begun answering = record { verdict = stands.Pending; filtered = false; finished = false; answering = answering }

-- by an item that is given, at which the answer ends or not
abbrev pub item_verdict : {K P : Type 0} → Bool → Item K P → Verdict
item_verdict ended x =
    if is_flagged 16 x then stands.Interrupted else (if ended then last_verdict x else stands.Pending)

-- every verdict but pending stays
abbrev pub verdict_with : {K P : Type 0} → Verdict → Bool → Item K P → Verdict
verdict_with stands.Pending ended x = item_verdict ended x
verdict_with v ended x = v

-- what is known with one more returned item, of a delivery with this heading
abbrev pub heard_after : {K P : Type 0} → Bool → Heading → Item K P → Heard → Heard
heard_after ended h x heard = record heard {
  verdict = verdict_with heard.verdict ended x;
  filtered = heard.filtered || is_flagged 32 x;
  finished = heard.finished || is_last heard.answering h;
}

-- after this delivery was read as this item, by a handle that returned a single reply (`after`) or not
abbrev pub heard_with : {K P : Type 0} → (K → ℕ) → Bool → Bool → Bool → Delivery → Item K P → Heard → Heard
heard_with number_of needs numbered after d x heard =
    heard_after (ends_at number_of needs numbered after x) (heading_of d) (item_of number_of needs numbered after x)
    heard

-- what is known of the answer to a request, while its number is open; of multicast nothing
abbrev pub heard_of : {S : Type 0} → HashMap ℕ Heard S → Option ℕ → Option Heard
heard_of heard None = None
heard_of heard (Some q) = get nat_eq heard q

-- what is known, with the final verdict
abbrev pub settled : Heard → Heard
settled heard = record heard { verdict = whole_verdict heard.finished heard.verdict }

-- the verdict by that: nothing ends multicast, and a number that is not open is lost
abbrev pub verdict_by : Option ℕ → Option Heard → Verdict
verdict_by None heard = stands.Pending
verdict_by (Some q) None = stands.Lost loss.Closed
verdict_by (Some q) (Some heard) = whole_verdict heard.finished heard.verdict

-- what is known, or nothing yet of an answer that comes as the handle needs it
abbrev pub known_of : Bool → Option Heard → Heard
known_of needs None = begun (if needs then answered.Acknowledgement else answered.Reply)
known_of needs (Some heard) = heard
