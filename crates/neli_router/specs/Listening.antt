-- Listening: reads of multicast that continue after any item.
use Rattle.std.specs.Prelude.{ℕ, List, length, if◌then◌else◌, Option, Some, Result, Ok, Err}
use Rattle.std.specs.declared.io.ErrorKind.{ErrorKind}
use Rattle.std.specs.declared.io.ErrorKind.TheVariants.{Other}
use Rattle.neli_wire.specs.declared.errors.DeError.{DeError}
use Rattle.neli_reader.specs.RouterError.{RouterError}
use Rattle.neli_reader.specs.SocketError.{SocketError}
use Rattle.neli_reader.specs.SocketError.TheVariants as socket
use Rattle.neli_deliveries.specs.declared.delivery.Delivery.{Delivery}
use Rattle.neli_deliveries.specs.Deliveries.{is_would_block}
use Rattle.neli_deliveries.specs.Readings.{IsReading}
use Rattle.neli_router.specs.declared.listening.Missed.{Missed}
use Rattle.neli_router.specs.declared.listening.Missed.TheVariants as missed
use Rattle.neli_router.specs.declared.listening.Notice.{Notice}
use Rattle.neli_router.specs.declared.listening.Notice.TheVariants as notice

-- the kind of a fault of the link
abbrev pub fault_kind : SocketError → ErrorKind
fault_kind (socket.Io kind) = kind
fault_kind e = Other

-- an overrun that was not yet reported stays
abbrev pub overrun_or : Option Missed → Missed → Missed
overrun_or (Some missed.Overrun) m = missed.Overrun
overrun_or before m = m

-- what is missed after a fault of the link
abbrev pub missed_with : Option Missed → SocketError → Option Missed
missed_with before e = if is_would_block e then before else Some (overrun_or before (missed.Fault (fault_kind e)))

module _ {K P V : Type 0} (type_of : ℕ → K) (view : P → V) (size : P → ℕ) (read : List ℕ → Result V DeError) where
  -- the notice is this delivery: the message as the caller's types; or, if it cannot be read as them, as it arrived
  abbrev pub IsNotice : Delivery → Notice K P → Type 0
  IsNotice d (notice.Message m) = IsReading type_of view size read d (Ok m)
  IsNotice d (notice.Untyped item) =
      ((e : RouterError K P) × IsReading type_of view size read d (Err e))
      × IsReading (λ n. n) (λ b. b) length (λ b. Ok b) d item
  IsNotice d n = ⊥
