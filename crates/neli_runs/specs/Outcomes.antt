-- The outcome of each command of a run.
use Rattle.std.specs.Prelude.{◌≡◌, ⊤, ℕ, zero, suc, Bool, true, false, List, [], ◌∷◌, length, Some, Result, Ok, Err}
use Rattle.std.specs.List.{slice_get}
use Rattle.neli_wire.specs.declared.errors.DeError.{DeError}
use Rattle.neli_wire.specs.Writing.{Wire}
use Rattle.neli_reader.specs.RouterError.{RouterError}
use Rattle.neli_deliveries.specs.declared.delivery.Delivery.{Delivery}
use Rattle.neli_deliveries.specs.Readings.{IsReading, Item}
use Rattle.neli_router.specs.declared.reply.Reply.{Reply}
use Rattle.neli_router.specs.declared.reply.Reply.TheVariants as reply
use Rattle.neli_router.specs.Rule.{answer}
use Rattle.neli_router.specs.Sends.{frame_or_refusal}
use Rattle.neli_runs.specs.declared.command.Command.{Command}
use Rattle.neli_runs.specs.declared.command.Command.TheVariants as command
use Rattle.neli_runs.specs.declared.command.Outcome.{Outcome}
use Rattle.neli_runs.specs.declared.command.Outcome.TheVariants as outcome
use Rattle.neli_runs.specs.Deliveries.{deliveries}
use Rattle.neli_runs.specs.History.{History, is_handle_open, is_open, items_of, needs_of, next_number}

-- handle 0 is that for multicast, the others have a sequence number
abbrev pub is_numbered : ℕ → Bool
is_numbered zero = false
is_numbered (suc k) = true

-- ---- requests

-- bytes are sent, or nothing is sent for this cause
abbrev pub IsSending : {ST SP RT RP : Type 0} → Result (List ℕ) (RouterError ST SP) → Outcome ST SP RT RP → Type 0
IsSending result (outcome.Sent bytes) = result ≡ Ok bytes.items
IsSending result (outcome.NotSent e) = result ≡ Err e
IsSending result o = ⊥

module _ {ST SP RT RP : Type 0} (number_of : ST → ℕ) (wire : SP → Wire) (size : SP → ℕ) (port : ℕ) where
  -- the outcome of sending a request after a history: its frame, or the first cause that refuses it
  abbrev pub IsSent : History ST SP RT RP → Command ST SP → Outcome ST SP RT RP → Type 0
  IsSent h (command.Send message_type flags payload) o =
      IsSending (frame_or_refusal number_of wire size port (next_number h)
      (is_open (next_number h) h) message_type flags payload) o
  IsSent h c o = ⊤

-- ---- reads

module _ {K P V : Type 0} (type_of : ℕ → K) (view : P → V) (size : P → ℕ) (read : List ℕ → Result V DeError) where
  -- the items are the first of these deliveries, read as the caller's types
  abbrev pub AreReadings : List Delivery → List (Item K P) → Type 0
  AreReadings ds [] = ⊤
  AreReadings [] (item ∷ items) = ⊥
  AreReadings (d ∷ ds) (item ∷ items) = IsReading type_of view size read d item × AreReadings ds items

-- each of the returned items is the answer of its place
abbrev pub WereAnswers : {K P : Type 0} → (K → ℕ) → Bool → Bool → List (Item K P) → List (Item K P) → Type 0
WereAnswers {K} {P} number_of needs numbered readings given =
    (i : ℕ) (item : Item K P) → slice_get given i ≡ Some item
    → answer number_of needs numbered readings i ≡ reply.Item item

module _ {K P V : Type 0} (type_of : ℕ → K) (number_of : K → ℕ) (view : P → V) (size : P → ℕ) (read : List ℕ
    → Result V DeError) where
  -- the reply to a read of a handle whose reads returned these items before: with its first deliveries read as the
  -- caller's types, the answer of the next place; a wait only if all deliveries are read
  abbrev pub IsNextAnswer : Bool → Bool → List Delivery → List (Item K P) → Reply K P → Type 0
  IsNextAnswer needs numbered ds given r =
      (readings : List (Item K P)) × AreReadings type_of view size read ds readings
      × WereAnswers number_of needs numbered readings given
      × (answer number_of needs numbered readings (length given) ≡ r)
      × (r ≡ reply.Waits → length readings ≡ length ds)

-- the outcome of a read that has this reply
abbrev pub outcome_of : {ST SP RT RP : Type 0} → Reply RT RP → Outcome ST SP RT RP
outcome_of (reply.Item item) = outcome.Item item
outcome_of reply.End = outcome.End
outcome_of reply.Waits = outcome.Waits

-- the item that it returns, or none
abbrev pub items_in : {RT RP : Type 0} → Reply RT RP → List (Item RT RP)
items_in (reply.Item item) = item ∷ []
items_in reply.End = []
items_in reply.Waits = []

-- done if the handle is open
abbrev pub closed_or_not : {ST SP RT RP : Type 0} → Bool → Outcome ST SP RT RP
closed_or_not true = outcome.Done
closed_or_not false = outcome.NoHandle

module _ {ST SP K P V : Type 0} (type_of : ℕ → K) (number_of : K → ℕ) (view : P → V) (size : P → ℕ) (read : List ℕ
    → Result V DeError) (port : ℕ) where
  -- the outcome of reading handle k after a history
  abbrev pub IsReadOf : History ST SP K P → ℕ → Bool → Outcome ST SP K P → Type 0
  IsReadOf h k true o =
      (r : Reply K P) × IsNextAnswer type_of number_of view size read (needs_of k h) (is_numbered k)
      (deliveries port k h) (items_of k h) r
      × (o ≡ outcome_of r)
  IsReadOf h k false o = o ≡ outcome.NoHandle

  -- the outcome of every command but a request
  abbrev pub IsAnswered : History ST SP K P → Command ST SP → Outcome ST SP K P → Type 0
  IsAnswered h (command.Read k) o = IsReadOf h k (is_handle_open k h) o
  IsAnswered h (command.Close k) o = o ≡ closed_or_not (is_handle_open k h)
  IsAnswered h (command.Send t f p) o = ⊤
  IsAnswered h c o = o ≡ outcome.Done

-- ---- a run

module _ {ST SP RT RP : Type 0} (Says : History ST SP RT RP → Command ST SP → Outcome ST SP RT RP → Type 0) where
  -- each command has one outcome, and this holds of each with the history before it
  abbrev pub EachAfter : History ST SP RT RP → List (Command ST SP) → List (Outcome ST SP RT RP) → Type 0
  EachAfter h [] [] = ⊤
  EachAfter h [] (o ∷ os) = ⊥
  EachAfter h (c ∷ cs) [] = ⊥
  EachAfter h (c ∷ cs) (o ∷ os) = Says h c o × EachAfter ((c, o) ∷ h) cs os

  -- the same from the start
  abbrev pub Each : List (Command ST SP) → List (Outcome ST SP RT RP) → Type 0
  Each cs os = EachAfter [] cs os
