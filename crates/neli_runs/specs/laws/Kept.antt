-- The session's invariant over a history: the router's lists, and what the reads of each handle need.
use Rattle.std.specs.Prelude.{ℕ, suc, ◌≡◌, ◌≤◌, true, false, nat_lt, nat_le, List, [], ◌∷◌, drop, length, Option, Some}
use Rattle.std.specs.Prelude.{None, Result}
use Rattle.std.specs.List.{slice_get}
use Rattle.neli_wire.specs.declared.errors.DeError.{DeError}
use Rattle.neli_wire.specs.Writing.{Wire}
use Rattle.neli_deliveries.specs.declared.delivery.Delivery.{Delivery}
use Rattle.neli_deliveries.specs.Readings.{Item}
use Rattle.neli_router.specs.declared.handle.HandleState.{HandleState}
use Rattle.neli_router.specs.Rule.{last_place, single_place}
use Rattle.neli_runs.specs.declared.command.Command.{Command}
use Rattle.neli_runs.specs.declared.command.Outcome.{Outcome}
use Rattle.neli_runs.specs.History.{History, is_closed, is_handle_open, items_of, needs_of, next_number, requests_sent}
use Rattle.neli_runs.specs.History.{list_of_handle}
use Rattle.neli_runs.specs.Outcomes.{AreReadings, IsAnswered, IsSent, WereAnswers, is_numbered}
use Rattle.neli_runs.specs.laws.Deliveries.{delivered}

-- the deliveries that wait, for each number and for multicast
abbrev pub Pending : Type 0
Pending = Option ℕ → Option (List Delivery)

-- the handles given so far; none in the place of a closed one
abbrev pub Handles : Type 0
Handles = List (Option HandleState)

-- the handle for multicast at the start
abbrev pub multicast : HandleState
multicast = record { number = None; needs_ack = false; single_given = false; ended = false }

-- handle k, given and not closed, whose first deliveries were read as these items
pub record IsKept {ST SP K P V : Type 0} (type_of : ℕ → K) (number_of : K → ℕ) (view : P → V) (size : P
    → ℕ) (read : List ℕ → Result V DeError) (port : ℕ) (pending : Pending) (k : ℕ) (x : HandleState)
    (h : History ST SP K P) (readings : List (Item K P)) : Type 0 where
  pub live : is_handle_open k h ≡ true
  pub number : x.number ≡ list_of_handle k h
  pub needs : x.needs_ack ≡ needs_of k h
  pub left : pending (list_of_handle k h) ≡ Some (drop (length readings) (delivered port k h))
  pub within : length readings ≤ length (delivered port k h)
  pub are_read : AreReadings type_of view size read (delivered port k h) readings
  pub count : length (items_of k h) ≡ length readings
  pub items : WereAnswers number_of (needs_of k h) (is_numbered k) readings (items_of k h)
  pub given : x.single_given ≡ nat_lt (single_place number_of (is_numbered k) readings) (length readings)
  pub ended : x.ended ≡ nat_lt (last_place number_of (needs_of k h) (is_numbered k) readings) (length readings)

-- handle k, not given yet
pub record IsFresh {ST SP K P : Type 0} (port k : ℕ) (h : History ST SP K P) : Type 0 where
  pub later : nat_le k (requests_sent h) ≡ false
  pub closed : is_closed k h ≡ false
  pub items_none : items_of k h ≡ []
  pub deliveries_none : delivered port k h ≡ []

-- each list of deliveries belongs to an open handle
abbrev pub IsOwned : {ST SP K P : Type 0} → ℕ → History ST SP K P → Type 0
IsOwned q h = (k : ℕ) × (is_handle_open k h ≡ true) × (list_of_handle k h ≡ Some q)

module _ {ST SP K P V : Type 0} (type_of : ℕ → K) (number_of : K → ℕ) (view : P → V) (size : P → ℕ) (read : List ℕ
    → Result V DeError) where
  abbrev pub IsSlot : ℕ → Pending → ℕ → History ST SP K P → Option (Option HandleState) → Type 0
  IsSlot port pending k h None = IsFresh port k h
  IsSlot port pending k h (Some None) = is_handle_open k h ≡ false
  IsSlot port pending k h (Some (Some x)) = (readings : List (Item K P))
      × IsKept type_of number_of view size read port pending k x h readings

pub record Agrees {ST SP K P V : Type 0} (type_of : ℕ → K) (number_of : K → ℕ) (view : P → V) (size : P
    → ℕ) (read : List ℕ → Result V DeError) (port next count : ℕ) (pending : Pending) (slots : ℕ
    → Option (Option HandleState)) (h : History ST SP K P) : Type 0 where
  pub next_is : next ≡ next_number h
  pub count_is : count ≡ suc (requests_sent h)
  pub each : (k : ℕ) → IsSlot type_of number_of view size read port pending k h (slots k)
  pub owned : (q : ℕ) (ds : List Delivery) → pending (Some q) ≡ Some ds → IsOwned q h
  pub one : (j k : ℕ) → is_handle_open j h ≡ true → is_handle_open k h ≡ true → list_of_handle j h ≡ list_of_handle k h
      → j ≡ k

module _ {ST SP K P V : Type 0} (type_of : ℕ → K) (number_of : K → ℕ) (view : P → V) (size : P → ℕ) (read : List ℕ
    → Result V DeError) where
  -- a session with this next number, these lists and these handles keeps this history
  abbrev pub Holds : ℕ → ℕ → Pending → Handles → History ST SP K P → Type 0
  Holds port next pending handles h = Agrees type_of number_of view size read port next (length handles) pending
      (λ k. slice_get handles k) h

  -- a command with this outcome leads from the invariant of any history to that of it and the command, and the outcome
  -- is right
  abbrev pub StepKeeps : (History ST SP K P → Command ST SP → Outcome ST SP K P → Type 0) → ℕ → ℕ → Pending → Handles
      → ℕ → Pending → Handles → Command ST SP → Outcome ST SP K P → Type 0
  StepKeeps StepIsRight port next pending handles next' pending' handles' c o =
      (h : History ST SP K P) → Holds port next pending handles h
      → StepIsRight h c o × Holds port next' pending' handles' ((c, o) ∷ h)

-- a property of an outcome, whatever its command is
abbrev pub StepIsRight : {ST SP K P V : Type 0} → (ℕ → K) → (K → ℕ) → (P → V) → (P → ℕ) → (List ℕ → Result V DeError)
    → (ST → ℕ) → (SP → Wire) → (SP → ℕ) → ℕ → History ST SP K P → Command ST SP → Outcome ST SP K P → Type 0
StepIsRight type_of number view size read number_of wire wire_size port h c o =
    IsSent number_of wire wire_size port h c o × IsAnswered type_of number view size read port h c o

-- a step of a session: its command with this outcome leads from the invariant of any history to that of it and the
-- command, and the outcome is right
abbrev pub IsStep : {ST SP K P V : Type 0} → (ℕ → K) → (K → ℕ) → (P → V) → (P → ℕ) → (List ℕ → Result V DeError)
    → (ST → ℕ) → (SP → Wire) → (SP → ℕ) → ℕ → ℕ → Pending → Handles → ℕ → Pending → Handles → Command ST SP
    → Outcome ST SP K P → Type 0
IsStep type_of number view size read number_of wire wire_size port next pending handles next' pending' handles' c o =
    StepKeeps type_of number view size read
    (StepIsRight type_of number view size read number_of wire wire_size port)
    port next pending handles next' pending' handles' c o
