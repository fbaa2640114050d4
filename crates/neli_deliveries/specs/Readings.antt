-- A delivery as the caller's types: a message, or why there is none.
use Rattle.std.specs.Prelude.{◌≡◌, ◌≢◌, ℕ, List, Option, Some, None, Result, Ok, Err}
use Rattle.neli_wire.specs.declared.errors.DeError.{DeError}
use Rattle.neli_reader.specs.Framed.{Nlmsghdr}
use Rattle.neli_reader.specs.RouterError.{RouterError}
use Rattle.neli_reader.specs.RouterError.TheVariants as router
use Rattle.neli_reader.specs.Copies.{socket_copy_takes_memory}
use Rattle.neli_reader.specs.NlPayload.TheVariants as payload
use Rattle.neli_reader.specs.Retyping.{IsTyped, RefusesTypingMessage}
use Rattle.neli_deliveries.specs.declared.delivery.Delivery.{Delivery}
use Rattle.neli_deliveries.specs.declared.delivery.Delivery.TheVariants as delivery

-- what a handle receives: a message, or an error in its place
abbrev pub Item : Type 0 → Type 0 → Type 0
Item K P = Result (Nlmsghdr K P) (RouterError K P)

-- the caller's types: the meaning of a type's number; the view of a body, its size, and its reading
module _ {K P V : Type 0} (type_of : ℕ → K) (view : P → V) (size : P → ℕ) (read : List ℕ → Result V DeError) where
  -- e is why u can't be typed: a body's refusal, or a length that exceeds 32 bits
  abbrev pub IsNotTyped : Nlmsghdr ℕ (List ℕ) → RouterError K P → Type 0
  IsNotTyped u e = RefusesTypingMessage type_of view size read u e × (e ≢ router.Memory)

  -- the item is this delivery: a message, typed; a stray, typed, as an error; or why it can't be typed; or the fault
  abbrev pub IsReading : Delivery → Item K P → Type 0
  IsReading (delivery.Message u) (Ok m) = IsTyped type_of view size read u m
  IsReading (delivery.Message u) (Err e) = IsNotTyped u e
  IsReading (delivery.Stray u) (Err (router.BadSeqOrPid m)) = IsTyped type_of view size read u m
  IsReading (delivery.Stray u) (Err e) = IsNotTyped u e
  IsReading (delivery.Stray u) (Ok m) = ⊥
  IsReading (delivery.Fault e) item = item ≡ Err (router.Socket e)

  -- the item is the first delivery that waits; none if nothing waits
  abbrev pub IsFirst : Option Delivery → Option (Item K P) → Type 0
  IsFirst None item = item ≡ None
  IsFirst (Some d) None = ⊥
  IsFirst (Some d) (Some item) = IsReading d item

-- where memory may run out, by where reading a body takes some
module _ (takes : List ℕ → Type 0) where
  -- of a message: where reading its body does; an error or the end of a dump may take some too
  abbrev pub MessageTakesMemory : Nlmsghdr ℕ (List ℕ) → Type 0
  MessageTakesMemory u = (bytes : List ℕ) → u.header.message_type ≢ 2 → u.header.message_type ≢ 3
      → u.payload ≡ payload.Payload bytes → takes bytes

  -- of a delivery: as its message does, or where a fault has a text to copy
  abbrev pub ReadingTakesMemory : Delivery → Type 0
  ReadingTakesMemory (delivery.Message u) = MessageTakesMemory u
  ReadingTakesMemory (delivery.Stray u) = MessageTakesMemory u
  ReadingTakesMemory (delivery.Fault e) = socket_copy_takes_memory e

  -- of the first delivery that waits: none if nothing waits
  abbrev pub FirstTakesMemory : Option Delivery → Type 0
  FirstTakesMemory None = ⊥
  FirstTakesMemory (Some d) = ReadingTakesMemory d
