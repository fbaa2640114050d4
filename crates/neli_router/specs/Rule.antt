-- The reply rule: where a handle's answers end, and what each read returns.
use Rattle.std.specs.Prelude.{ℕ, suc, Bool, true, false, not, ◌&&◌, ◌||◌, ◌==◌, nat_lt, min, bit_and, if◌then◌else◌}
use Rattle.std.specs.Prelude.{List, [], ◌∷◌, length, Option, Some, None, Ok, Err}
use Rattle.std.specs.List.{slice_get}
use Rattle.neli_consts.specs.declared.nlm_f.NlmF.{NlmF}
use Rattle.neli_answers.specs.declared.answering.Answering.{Answering}
use Rattle.neli_answers.specs.declared.answering.Answering.TheVariants as answered
use Rattle.neli_reader.specs.Framed.{Nlmsghdr}
use Rattle.neli_reader.specs.NlPayload.{NlPayload}
use Rattle.neli_reader.specs.NlPayload.TheVariants as payload
use Rattle.neli_reader.specs.RouterError.TheVariants as router
use Rattle.neli_reader.specs.Kinds.{is_multi}
use Rattle.neli_deliveries.specs.Readings.{Item}
use Rattle.neli_router.specs.declared.reply.Reply.{Reply}
use Rattle.neli_router.specs.declared.reply.Reply.TheVariants as reply

-- sent flags request an acknowledgement: ACK (4) is set, and not both bits of DUMP (0x300)
abbrev pub needs_ack : NlmF → Bool
needs_ack flags = (bit_and flags.0 4 == 4) && not (bit_and flags.0 768 == 768)

-- an acknowledgement ends the answer
abbrev pub awaits : Answering → Bool
awaits answered.Acknowledgement = true
awaits answering = false

-- a handle with a sequence number, not that for multicast
abbrev pub has_number : Option ℕ → Bool
has_number None = false
has_number (Some q) = true

-- ---- a delivery as read, by its class

-- an acknowledgement, or an error of the other side
abbrev pub is_answer : {K P : Type 0} → NlPayload K P → Bool
is_answer (payload.Ack e) = true
is_answer (payload.Err e) = true
is_answer (payload.Capped e) = true
is_answer p = false

-- nothing follows: an acknowledgement, an error, a stray, a fault, or a message that could not be read as the caller's
-- types
abbrev pub ends_alone : {K P : Type 0} → Item K P → Bool
ends_alone (Ok m) = is_answer m.payload
ends_alone (Err e) = true

module _ {K P : Type 0} (number_of : K → ℕ) where
  -- a whole reply, which is no part of a dump, or the end of a dump (type 3, NLMSG_DONE)
  abbrev pub is_whole_reply : Nlmsghdr K P → Bool
  is_whole_reply m = not (is_multi m.header.flags) || (number_of m.header.message_type == 3)

  -- a single reply to a request: after it nothing follows, or only the acknowledgement
  abbrev pub is_single : Bool → Item K P → Bool
  is_single numbered (Ok m) = numbered && (not (is_answer m.payload) && is_whole_reply m)
  is_single numbered (Err e) = false

-- ---- where the answers end

-- the place of the first that passes, or the length
abbrev pub first_place : {A : Type 0} → (A → Bool) → List A → ℕ
first_place p [] = 0
first_place p (x ∷ xs) = if p x then 0 else suc (first_place p xs)

-- the place of the first single reply
abbrev pub single_place : {K P : Type 0} → (K → ℕ) → Bool → List (Item K P) → ℕ
single_place number_of numbered items = first_place (is_single number_of numbered) items

module _ {K P : Type 0} (number_of : K → ℕ) (needs numbered : Bool) where
  -- the one place at which the answers end, past the items where they do not: that of the first item after which
  -- nothing follows, or that of the first single reply, or the one after it if an acknowledgement is needed
  abbrev pub last_place : List (Item K P) → ℕ
  last_place items =
      min (first_place ends_alone items) (if needs then suc (single_place number_of numbered items)
      else single_place number_of numbered items)

-- ---- the returned item

-- of a message at the last place, by its payload, after a single reply or not
abbrev pub last_item_of_payload : {K P : Type 0} → Bool → Bool → Nlmsghdr K P → NlPayload K P → Item K P
last_item_of_payload needs after m (payload.Ack e) = if needs then Ok m else Err router.UnexpectedAck
last_item_of_payload needs after m (payload.Err e) = if after then Err router.NoAck else Err (router.Nlmsgerr e)
last_item_of_payload needs after m (payload.Capped e) = if after then Err router.NoAck else Err (router.Capped e)
last_item_of_payload needs after m p = if after then Err router.NoAck else Ok m

-- at the last place
abbrev pub last_item : {K P : Type 0} → Bool → Bool → Item K P → Item K P
last_item needs after (Ok m) = last_item_of_payload needs after m m.payload
last_item needs after (Err e) = Err e

module _ {K P : Type 0} (number_of : K → ℕ) (needs numbered : Bool) where
  -- answer i, from 0, if the deliveries so far are read as these items, and this one stands at i
  abbrev pub answer_at : List (Item K P) → ℕ → Option (Item K P) → Reply K P
  answer_at items i None = if nat_lt (last_place number_of needs numbered items) (length items) then reply.End
      else reply.Waits
  answer_at items i (Some item) =
      if nat_lt i (last_place number_of needs numbered items) then reply.Item item
      else (if i == last_place number_of needs numbered items
      then reply.Item (last_item needs (nat_lt (single_place number_of numbered items) i) item)
      else reply.End)

  -- answer i: an item, the end, or a wait
  abbrev pub answer : List (Item K P) → ℕ → Reply K P
  answer items i = answer_at items i (slice_get items i)

  -- ---- one read, of a handle that returned a single reply (`after`) or not

  -- whether the answers end at this item
  abbrev pub ends_at : Bool → Item K P → Bool
  ends_at after item = ends_alone item || (if needs then after else is_single number_of numbered item)

  -- the item returned in its place
  abbrev pub item_of : Bool → Item K P → Item K P
  item_of after item = if ends_at after item then last_item needs after item else item
