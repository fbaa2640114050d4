-- A history: commands with their outcomes, the latest first. After an event, the list holds the history before it.
use Rattle.std.specs.Prelude.{ℕ, zero, suc, ◌+◌, ◌%◌, ◌^◌, Bool, true, false, not, ◌&&◌, ◌||◌, ◌==◌, nat_le}
use Rattle.std.specs.Prelude.{if◌then◌else◌, List, [], ◌∷◌, ◌++◌, Option, Some, None}
use Rattle.neli_deliveries.specs.Readings.{Item}
use Rattle.neli_router.specs.Rule.{needs_ack}
use Rattle.neli_runs.specs.declared.command.Command.{Command}
use Rattle.neli_runs.specs.declared.command.Command.TheVariants as command
use Rattle.neli_runs.specs.declared.command.Outcome.{Outcome}
use Rattle.neli_runs.specs.declared.command.Outcome.TheVariants as outcome

-- a command and its outcome
abbrev pub Event : Type 0 → Type 0 → Type 0 → Type 0 → Type 0
Event ST SP RT RP = Command ST SP × Outcome ST SP RT RP

-- all events so far, the latest first
abbrev pub History : Type 0 → Type 0 → Type 0 → Type 0 → Type 0
History ST SP RT RP = List (Event ST SP RT RP)

-- ---- facts about commands and outcomes

module _ {ST SP : Type 0} where
  -- the number that the command sets, or the one before
  abbrev pub number_set_after : Command ST SP → ℕ → ℕ
  number_set_after (command.SetNextSeq n) before = n
  number_set_after (command.Send t f p) before = before
  number_set_after (command.Datagram b g) before = before
  number_set_after (command.Fault e) before = before
  number_set_after (command.Read k) before = before
  number_set_after (command.Close k) before = before

  -- a count, which restarts where a number is set
  abbrev pub count_after : Command ST SP → ℕ → ℕ
  count_after (command.SetNextSeq n) count = 0
  count_after (command.Send t f p) count = count
  count_after (command.Datagram b g) count = count
  count_after (command.Fault e) count = count
  count_after (command.Read k) count = count
  count_after (command.Close k) count = count

  -- a request that asks for an acknowledgement
  abbrev pub asks_ack : Command ST SP → Bool
  asks_ack (command.Send t f p) = needs_ack f
  asks_ack (command.SetNextSeq n) = false
  asks_ack (command.Datagram b g) = false
  asks_ack (command.Fault e) = false
  asks_ack (command.Read k) = false
  asks_ack (command.Close k) = false

  -- a close of handle k
  abbrev pub closes : ℕ → Command ST SP → Bool
  closes k (command.Close j) = j == k
  closes k (command.SetNextSeq n) = false
  closes k (command.Send t f p) = false
  closes k (command.Datagram b g) = false
  closes k (command.Fault e) = false
  closes k (command.Read j) = false

  -- a read of handle k
  abbrev pub reads : ℕ → Command ST SP → Bool
  reads k (command.Read j) = j == k
  reads k (command.SetNextSeq n) = false
  reads k (command.Send t f p) = false
  reads k (command.Datagram b g) = false
  reads k (command.Fault e) = false
  reads k (command.Close j) = false

module _ {ST SP RT RP : Type 0} where
  -- a request was sent
  abbrev pub is_sent : Outcome ST SP RT RP → Bool
  is_sent (outcome.Sent bytes) = true
  is_sent _ = false

  -- a command with no result but that it was done
  abbrev pub is_done : Outcome ST SP RT RP → Bool
  is_done outcome.Done = true
  is_done _ = false

  -- the items after an outcome: one more, if a read of theirs returned one
  abbrev pub with_item : Outcome ST SP RT RP → Bool → List (Item RT RP) → List (Item RT RP)
  with_item (outcome.Item item) theirs before = if theirs then before ++ item ∷ [] else before
  with_item outcome.Done theirs before = before
  with_item (outcome.Sent bytes) theirs before = before
  with_item (outcome.NotSent e) theirs before = before
  with_item outcome.End theirs before = before
  with_item outcome.Waits theirs before = before
  with_item outcome.NoHandle theirs before = before

  -- ---- what was done

  -- the history of commands and outcomes after a history
  abbrev pub past : History ST SP RT RP → List (Command ST SP) → List (Outcome ST SP RT RP) → History ST SP RT RP
  past h [] os = h
  past h (c ∷ cs) [] = h
  past h (c ∷ cs) (o ∷ os) = past ((c, o) ∷ h) cs os

  -- ---- sequence numbers

  -- the number of sent requests
  abbrev pub requests_sent : History ST SP RT RP → ℕ
  requests_sent [] = 0
  requests_sent (e ∷ h) = if is_sent e.1 then suc (requests_sent h) else requests_sent h

  -- the number that was set last; 0 if none was
  abbrev pub last_set_number : History ST SP RT RP → ℕ
  last_set_number [] = 0
  last_set_number (e ∷ h) = number_set_after e.0 (last_set_number h)

  -- the number of requests sent since then
  abbrev pub requests_since_set : History ST SP RT RP → ℕ
  requests_since_set [] = 0
  requests_since_set (e ∷ h) = count_after e.0 (if is_sent e.1 then suc (requests_since_set h)
      else requests_since_set h)

  -- the sequence number of a request sent now
  abbrev pub next_number : History ST SP RT RP → ℕ
  next_number h = (last_set_number h + requests_since_set h) % 2 ^ 32

  -- ---- handles: 0 is that for multicast, k that of the k-th request that was sent

  -- the sequence number of handle k
  abbrev pub number_of : ℕ → History ST SP RT RP → ℕ
  number_of k [] = 0
  number_of k (e ∷ h) = if is_sent e.1 && (k == suc (requests_sent h)) then next_number h else number_of k h

  -- whether its request asks for an acknowledgement
  abbrev pub needs_of : ℕ → History ST SP RT RP → Bool
  needs_of k [] = false
  needs_of k (e ∷ h) = if is_sent e.1 && (k == suc (requests_sent h)) then asks_ack e.0 else needs_of k h

  -- whose deliveries it gets
  abbrev pub list_of_handle : ℕ → History ST SP RT RP → Option ℕ
  list_of_handle zero h = None
  list_of_handle (suc k) h = Some (number_of (suc k) h)

  -- it was closed
  abbrev pub is_closed : ℕ → History ST SP RT RP → Bool
  is_closed k [] = false
  is_closed k (e ∷ h) = (closes k e.0 && is_done e.1) || is_closed k h

  -- it exists and is not closed
  abbrev pub is_handle_open : ℕ → History ST SP RT RP → Bool
  is_handle_open k h = nat_le k (requests_sent h) && not (is_closed k h)

  -- the items that its reads returned, in order
  abbrev pub items_of : ℕ → History ST SP RT RP → List (Item RT RP)
  items_of k [] = []
  items_of k (e ∷ h) = with_item e.1 (reads k e.0) (items_of k h)

-- one of the numbers from 1 to n passes
abbrev pub any_upto : ℕ → (ℕ → Bool) → Bool
any_upto zero p = false
any_upto (suc n) p = p (suc n) || any_upto n p

-- a sequence number is open: a request with it was sent, and its handle is not closed
abbrev pub is_open : {ST SP RT RP : Type 0} → ℕ → History ST SP RT RP → Bool
is_open q h = any_upto (requests_sent h) (λ k. is_handle_open k h && (number_of k h == q))
