-- Listening, in C's terms: reads of multicast that continue after any item.
use Rattle.std.specs.Prelude.{◌≡◌, ◌≢◌, ◌⊎◌, ℕ, ℤ, List, [], ◌∷◌, length, Option, Some, None, Result, Ok}
use Rattle.std.specs.Prelude.{Err, nat_eq}
use Rattle.std.specs.Prelude.{unsigned_abs, if◌then◌else◌}
use Rattle.neli_reader.specs.Framed.{Nlmsghdr}
use Rattle.neli_reader.specs.SocketError.TheVariants as socket
use Rattle.neli_deliveries.specs.declared.delivery.Delivery.{Delivery}
use Rattle.neli_deliveries.specs.Readings.{IsReading, Item}
use Rattle.neli_router.specs.Listening.{missed_with}
use Rattle.neli_router.specs.declared.listening.Missed.{Missed}
use Rattle.neli_router.specs.declared.listening.Missed.TheVariants as missed
use Rattle.neli_router.specs.declared.listening.Notice.{Notice}
use Rattle.neli_router.specs.declared.listening.Notice.TheVariants as notice
use Rattle.neli_c_parts.specs.declared.session.NeliItem.{NeliItem}
use Rattle.neli_c_parts.specs.declared.session.Session.{Session}
use Rattle.neli_c_parts.specs.Codes.{item, link, memory, no_handle, ok, overrun, waits}
use Rattle.neli_c_parts.specs.Sessions.{GivesNothing, fault_kind, item_code, item_message, shown_fields, pending}
use Rattle.neli_c_parts.specs.Sessions.{shown_of}

-- what listeners missed after the link's fault of this number: an overrun by its name (105, ENOBUFS)
abbrev pub missed_by : ℤ → Option Missed → Option Missed
missed_by n before =
    if nat_eq (unsigned_abs n) 105 then Some missed.Overrun else missed_with before (socket.Io (fault_kind n))

-- the code of what was missed
abbrev pub missed_code : Missed → ℤ
missed_code missed.Overrun = overrun
missed_code (missed.Fault k) = link

-- of the router's result
abbrev pub notice_code : {E : Type 0} → Result (Notice ℕ (List ℕ)) E → ℤ
notice_code (Ok (notice.Message m)) = item
notice_code (Ok (notice.Untyped i)) = item_code i
notice_code (Ok (notice.Missed m)) = missed_code m
notice_code (Ok notice.Waits) = waits
notice_code (Ok notice.Closed) = no_handle
notice_code (Err e) = memory

-- its message is held, and shown; without an item both are unchanged
abbrev pub HoldsNotice : {E : Type 0} → Result (Notice ℕ (List ℕ)) E → Option (Nlmsghdr ℕ (List ℕ))
    → Option (Nlmsghdr ℕ (List ℕ)) → NeliItem → NeliItem → Type 0
HoldsNotice (Ok (notice.Message m)) old new a b = (new ≡ Some m) × (b ≡ shown_fields m)
HoldsNotice (Ok (notice.Untyped i)) old new a b = (new ≡ item_message i) × (b ≡ shown_of (item_message i) a)
HoldsNotice r old new a b = (new ≡ old) × (b ≡ a)

-- the first delivery of multicast is returned as it arrived, its message is held and shown, and `ds` waits
abbrev pub GivesNotice : ℤ → Session → Delivery → List Delivery → NeliItem → NeliItem → Type 0
GivesNotice code t d ds shown shown' =
    (given : Item ℕ (List ℕ)) × IsReading (λ n. n) (λ b. b) length (λ b. Ok b) d given
    × (code ≡ item_code given) × (t.held ≡ item_message given) × (shown' ≡ shown_of (item_message given) shown)
    × (pending t None ≡ Some ds) × (t.router.missed ≡ None)

-- what was missed is reported once, before the deliveries that wait; else that multicast is closed, a wait, or its
-- first delivery; or memory ran out, and all is unchanged
abbrev pub Listens : ℤ → Session → Session → NeliItem → NeliItem → Type 0
Listens code s t shown shown' =
    ((m : Missed) → s.router.missed ≡ Some m → (code ≡ missed_code m) × (t.router.missed ≡ None)
    × (t.router.deliveries ≡ s.router.deliveries) × (t.held ≡ s.held) × (shown' ≡ shown))
    × (s.router.missed ≡ None → pending s None ≡ None → (code ≡ no_handle) × GivesNothing s t shown shown')
    × (s.router.missed ≡ None → pending s None ≡ Some [] → (code ≡ waits) × GivesNothing s t shown shown')
    × (s.router.missed ≡ None → (d : Delivery) (ds : List Delivery) → pending s None ≡ Some (d ∷ ds)
    → ((code ≡ memory) × GivesNothing s t shown shown') ⊎ GivesNotice code t d ds shown shown')
    × ((w : Option ℕ) → w ≢ None → pending t w ≡ pending s w)
    × (t.router.deliveries.port ≡ s.router.deliveries.port) × (t.router.next_seq ≡ s.router.next_seq)
    × (t.router.heard ≡ s.router.heard) × (t.router.given_up ≡ s.router.given_up)
    × (t.handles.items ≡ s.handles.items) × (t.freed ≡ s.freed)

-- what listeners missed is this, if a fault was taken in; else what they missed before
abbrev pub MissesThen : ℤ → Option Missed → Session → Session → Type 0
MissesThen code after s t =
    (code ≡ ok → t.router.missed ≡ after) × (code ≢ ok → t.router.missed ≡ s.router.missed)

-- by the fault of this number
abbrev pub Misses : ℤ → ℤ → Session → Session → Type 0
Misses code errno s t = MissesThen code (missed_by errno s.router.missed) s t

-- what listeners missed, and was not yet reported, is the same
abbrev pub MissesSame : Session → Session → Type 0
MissesSame s t = t.router.missed ≡ s.router.missed
