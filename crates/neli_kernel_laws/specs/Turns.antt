-- The replies to a handle's reads from its messages: one after the other, and then the end.
use Rattle.std.specs.Prelude.{◌≡◌, ℕ, Bool, true, false, List, length, Option, Some, None, Result, Ok, Err}
use Rattle.std.specs.List.{list_any, slice_get}
use Rattle.neli_wire.specs.declared.errors.DeError.{DeError}
use Rattle.neli_deliveries.specs.Deliveries.{Untyped, message}
use Rattle.neli_deliveries.specs.Readings.{IsReading, Item}
use Rattle.neli_runs.specs.Reply.{Reply}
use Rattle.neli_runs.specs.Reply.TheVariants as reply
use Rattle.neli_runs.specs.Rule.{last_item}

-- the item is the reading of this message: the message, typed, or why it cannot be typed
abbrev pub IsReadAs : {K P V : Type 0} → (ℕ → K) → (P → V) → (P → ℕ) → (List ℕ → Result V DeError) → Untyped → Item K P
    → Type 0
IsReadAs type_of view size read u item = IsReading type_of view size read (message u) item

-- the item is an error
abbrev pub is_err : {K P : Type 0} → Item K P → Bool
is_err (Ok m) = false
is_err (Err e) = true

-- the reading of each message
module _ {U K P : Type 0} (IsRead : U → Item K P → Type 0) where
  -- the item of a message: its reading, or an error of the other side as an error
  abbrev pub IsGiven : U → Item K P → Type 0
  IsGiven u item = (x : Item K P) × IsRead u x × (item ≡ last_item true false x)

  -- the reply of this message, or the end if there is none
  abbrev pub IsReplyOf : Option U → Reply K P → Type 0
  IsReplyOf None r = r ≡ reply.End
  IsReplyOf (Some u) r = (item : Item K P) × IsGiven u item × (r ≡ reply.Item item)

  -- the same, or the end anyway
  abbrev pub IsReplyOrEnd : Bool → Option U → Reply K P → Type 0
  IsReplyOrEnd true u r = r ≡ reply.End
  IsReplyOrEnd false u r = IsReplyOf u r

  -- the reply to a read of a handle whose reads returned these items before: the next of these messages, and past the
  -- last of them, or after an error, the end
  abbrev pub IsInTurn : List U → List (Item K P) → Reply K P → Type 0
  IsInTurn us given r = IsReplyOrEnd (list_any is_err given) (slice_get us (length given)) r

  -- ---- the handle for multicast, which expects no answer

  -- its item of a message: the reading, or an error of the other side or an acknowledgement as an error
  abbrev pub IsHeard : U → Item K P → Type 0
  IsHeard u item = (x : Item K P) × IsRead u x × (item ≡ last_item false false x)

  -- the reply of this message, or a wait if there is none; or the end anyway
  abbrev pub IsHeardOrWait : Bool → Option U → Reply K P → Type 0
  IsHeardOrWait true u r = r ≡ reply.End
  IsHeardOrWait false None r = r ≡ reply.Waits
  IsHeardOrWait false (Some u) r = (item : Item K P) × IsHeard u item × (r ≡ reply.Item item)

  -- the reply to a read of it, if its reads returned these items before: the next of these messages, and past the last
  -- of them a wait; after an error, the end
  abbrev pub IsHeardInTurn : List U → List (Item K P) → Reply K P → Type 0
  IsHeardInTurn us given r = IsHeardOrWait (list_any is_err given) (slice_get us (length given)) r
