-- Several items of a handle at once: the messages that single lends give, each once those before it are passed; and so
-- many steps past them.
use Rattle.std.specs.Prelude.{◌≡◌, ◌≢◌, ◌≤◌, ⊤, ℕ, zero, suc, ℤ, pos, Bool, true, false, List, [], ◌∷◌, length, take}
use Rattle.std.specs.Prelude.{drop, Option, Some, None, Ok, Err, IfSome, slice_set}
use Rattle.neli_reader.specs.Framed.{Nlmsghdr}
use Rattle.neli_lent.specs.Messages.{message_view}
use Rattle.neli_lent.specs.declared.message.LentMessage.{LentMessage}
use Rattle.neli_deliveries.specs.declared.delivery.Delivery.{Delivery}
use Rattle.neli_deliveries.specs.Readings.{Item}
use Rattle.neli_log.specs.Lending.{Lends}
use Rattle.neli_router.specs.Ahead.{Coming, coming_for}
use Rattle.neli_router.specs.declared.handle.HandleState.{HandleState}
use Rattle.neli_router.specs.declared.lending.LentReply.{LentReply}
use Rattle.neli_router.specs.declared.lending.LentReply.TheVariants as reply
use Rattle.neli_c_parts.specs.declared.lending.NeliLent.{NeliLent}
use Rattle.neli_c_parts.specs.declared.session.Session.{Session}
use Rattle.neli_c_parts.specs.declared.session.Slot.TheVariants as slot
use Rattle.neli_c_parts.specs.Codes.{item, no_handle, ok, room}
use Rattle.neli_c_parts.specs.Lending.{IsStored, LendsPlace, PassesHandle}
use Rattle.neli_c_parts.specs.Sessions.{HasFree, pending}
use Rattle.neli_c_parts.specs.Slots.{handle_at}

-- ---- what is lent

abbrev pub Message : Type 0
Message = Nlmsghdr ℕ (List ℕ)

-- the message that an item is, and those after it; none if it is an error in the place of one
abbrev pub messages_from : Item ℕ (List ℕ) → List Message → List Message
messages_from (Ok u) later = u ∷ later
messages_from (Err e) later = []

-- the messages among items that come one after the other, up to an error in the place of one
abbrev pub leading_messages : List (Item ℕ (List ℕ)) → List Message
leading_messages [] = []
leading_messages (i ∷ later) = messages_from i (leading_messages later)

-- of what neli_router lends ahead
abbrev pub messages_in : Coming → List Message
messages_in a = leading_messages a.items

-- of what a handle is lent, by what waits for it; none if it is not open
abbrev pub messages_of : HandleState → Option (List Delivery) → List Message
messages_of h waiting = messages_in (coming_for h waiting)

-- of the handle at a place
abbrev pub messages_for : Session → Option HandleState → List Message
messages_for s None = []
messages_for s (Some h) = messages_of h (pending s h.number)

abbrev pub messages_at : ℕ → Session → List Message
messages_at k s = messages_for s (handle_at k s.handles.items)

-- nothing comes next: the handle has ended, or nothing has arrived yet
abbrev pub is_rest : LentReply → Bool
is_rest (reply.Item _) = false
is_rest reply.End = true
is_rest reply.Waits = true

-- the message of its reply
abbrev pub message_in : LentReply → Option (LentMessage ℕ)
message_in (reply.Item (Ok m)) = Some m
message_in r = None

-- this message is lent
abbrev pub IsLentAs : Message → NeliLent → Type 0
IsLentAs u lent = (m : LentMessage ℕ) × Lends (message_view m) u × IsStored m (pos 0) lent

-- these are lent, one after the other
abbrev pub AreLent : List Message → List NeliLent → Type 0
AreLent [] [] = ⊤
AreLent (u ∷ us) (lent ∷ later) = IsLentAs u lent × AreLent us later
AreLent us later = ⊥

-- so many are stored, as many as there is room for or as come, and the room after them is unchanged
abbrev pub StoresAhead : ℕ → List Message → List NeliLent → List NeliLent → Type 0
StoresAhead n us old new =
    AreLent (take (length old) us) (take n new) × (n ≤ length old) × (drop n new ≡ drop n old)

-- what a single lend returns and stores at the first place; without one there is no room
abbrev pub LendsFirst : ℤ → ℕ → Session → List NeliLent → List NeliLent → Type 0
LendsFirst code k s [] new = (code ≡ room) × (new ≡ [])
LendsFirst code k s (old ∷ later) new = (lent : NeliLent) × LendsPlace code k s old lent × (new ≡ lent ∷ later)

-- messages of the handle at a place are lent; where none comes first, what is there is lent alone
abbrev pub LendsItems : ℤ → ℕ → Session → List NeliLent → List NeliLent → ℕ → Type 0
LendsItems code k s old new count =
    (count ≢ 0 → (code ≡ item) × StoresAhead count (messages_at k s) old new)
    × (count ≡ 0 → (code ≢ item) × AreLent (take (length old) (messages_at k s)) [] × LendsFirst code k s old new)

-- ---- the steps past them

-- so many passes, one after the other
abbrev pub PassesTimes : ℕ → HandleState → HandleState → Session → Session → Type 0
PassesTimes zero h h' s t = (h' ≡ h) × (t.router ≡ s.router)
PassesTimes (suc n) h h' s t =
    (g : HandleState) × (u : Session) × PassesHandle h g s u × PassesTimes n g h' u t

-- of the handle at a place; without one nothing changes
abbrev pub PassesItems : ℤ → ℕ → ℕ → Session → Session → Type 0
PassesItems code k n s t =
    (handle_at k s.handles.items ≡ None → (code ≡ no_handle) × (t ≡ s))
    × IfSome (handle_at k s.handles.items) (λ h. (after : HandleState) × (code ≡ ok)
    × (t.handles.items ≡ slice_set s.handles.items k (slot.Open after)) × (t.freed ≡ s.freed)
    × ((ks : List ℕ) → HasFree s ks → HasFree t ks) × (t.held ≡ s.held) × PassesTimes n h after s t)
