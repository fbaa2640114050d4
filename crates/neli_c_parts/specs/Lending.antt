-- Lent reads, in C's terms: the item of a handle where the router keeps it, and the step past it.
use Rattle.std.specs.Prelude.{◌≡◌, ℕ, ℤ, pos, true, false, List, [], ◌∷◌, length, Some}
use Rattle.std.specs.Prelude.{None, Ok, Err, IfSome, slice_set}
use Rattle.neli_deliveries.specs.declared.delivery.Delivery.{Delivery}
use Rattle.neli_deliveries.specs.Readings.{Item}
use Rattle.neli_log.specs.Log.{pending_of}
use Rattle.neli_lent.specs.declared.message.LentMessage.{LentMessage}
use Rattle.neli_router.specs.Lending.{IsLentItem, LentItem, untyped}
use Rattle.neli_router.specs.Reads.{GoesPast, item_for}
use Rattle.neli_router.specs.Same.{SameButHandle}
use Rattle.neli_router.specs.declared.handle.HandleState.{HandleState}
use Rattle.neli_router.specs.declared.lending.LentError.TheVariants as error
use Rattle.neli_router.specs.declared.lending.LentReply.{LentReply}
use Rattle.neli_router.specs.declared.lending.LentReply.TheVariants as reply
use Rattle.neli_c_parts.specs.declared.lending.NeliLent.{NeliLent}
use Rattle.neli_c_parts.specs.declared.session.Session.{Session}
use Rattle.neli_c_parts.specs.declared.session.Slot.TheVariants as slot
use Rattle.neli_c_parts.specs.Codes.{item, kernel_error, no_ack, no_handle, ok, stray, unexpected_ack, waits}
use Rattle.neli_c_parts.specs.Sessions.{HasFree, pending, socket_code}
use Rattle.neli_c_parts.specs.Slots.{handle_at}
use Rattle.neli_c_parts.specs.Walks.{header_view}

-- ---- what is lent

-- the code of an item that neli_router lends
abbrev pub lent_code : LentItem → ℤ
lent_code (Ok m) = item
lent_code (Err (error.Answer e m)) = kernel_error
lent_code (Err error.NoAck) = no_ack
lent_code (Err error.UnexpectedAck) = unexpected_ack
lent_code (Err (error.BadSeqOrPid m)) = stray
lent_code (Err (error.Socket e)) = socket_code e.now
lent_code (Err error.ClosedChannel) = no_handle

-- a message is stored, with the code of the error that it is: its header, and its payload, which is all of the bytes
abbrev pub IsStored : LentMessage ℕ → ℤ → NeliLent → Type 0
IsStored m code lent =
    (header_view lent.message ≡ m.header) × (lent.bytes.now ≡ m.payload.now) × (lent.message.payload ≡ 0)
    × (lent.message.payload_length ≡ length m.payload.now) × (lent.error ≡ code)

-- the message of an item is stored, that of an error of the kernel too; of any other item nothing
abbrev pub Stores : LentItem → NeliLent → NeliLent → Type 0
Stores (Ok m) old new = IsStored m (pos 0) new
Stores (Err (error.Answer e m)) old new = IsStored m e new
Stores l old new = new ≡ old

-- the same of a reply
abbrev pub given_code : LentReply → ℤ
given_code (reply.Item l) = lent_code l
given_code reply.End = ok
given_code reply.Waits = waits

abbrev pub Gives : LentReply → NeliLent → NeliLent → Type 0
Gives (reply.Item l) old new = Stores l old new
Gives r old new = new ≡ old

-- this item is lent
abbrev pub LendsItem : ℤ → Item ℕ (List ℕ) → NeliLent → NeliLent → Type 0
LendsItem code i old new = (l : LentItem) × IsLentItem i l × (code ≡ lent_code l) × Stores l old new

-- of a handle that exists: its end, that it is not open, a wait; or its first delivery is lent, as the item that the
-- reply rule makes of it
abbrev pub LendsHandle : ℤ → HandleState → Session → NeliLent → NeliLent → Type 0
LendsHandle code h s old new =
    (h.ended ≡ true → (code ≡ ok) × (new ≡ old))
    × (h.ended ≡ false → pending s h.number ≡ None → (code ≡ no_handle) × (new ≡ old))
    × (h.ended ≡ false → pending s h.number ≡ Some [] → (code ≡ waits) × (new ≡ old))
    × (h.ended ≡ false → (d : Delivery) (ds : List Delivery) → pending s h.number ≡ Some (d ∷ ds)
    → LendsItem code (item_for (λ n. n) h (untyped d)) old new)

-- of the handle at a place; without one nothing is stored
abbrev pub LendsPlace : ℤ → ℕ → Session → NeliLent → NeliLent → Type 0
LendsPlace code k s old new =
    (handle_at k s.handles.items ≡ None → (code ≡ no_handle) × (new ≡ old))
    × IfSome (handle_at k s.handles.items) (λ h. LendsHandle code h s old new)

-- ---- the step past it

-- of a handle that exists, and is h' then: its first delivery is gone, and adds to the verdict what a read of it adds;
-- where none waits, and of other handles, nothing changes
abbrev pub PassesHandle : HandleState → HandleState → Session → Session → Type 0
PassesHandle h h' s t =
    (h.ended ≡ true → (h' ≡ h) × (t.router ≡ s.router))
    × (h.ended ≡ false → pending s h.number ≡ None → (h' ≡ record h { ended = true }) × (t.router ≡ s.router))
    × (h.ended ≡ false → pending s h.number ≡ Some [] → (h' ≡ h) × (t.router ≡ s.router))
    × (h.ended ≡ false → (d : Delivery) (ds : List Delivery) → pending s h.number ≡ Some (d ∷ ds)
    → GoesPast (λ n. n) pending_of d ds (untyped d) h h' s.router t.router)
    × SameButHandle (λ d. d.port) pending_of h.number s.router t.router × (t.router.given_up ≡ s.router.given_up)

-- of the handle at a place; without one nothing changes
abbrev pub PassesPlace : ℤ → ℕ → Session → Session → Type 0
PassesPlace code k s t =
    (handle_at k s.handles.items ≡ None → (code ≡ no_handle) × (t ≡ s))
    × IfSome (handle_at k s.handles.items) (λ h. (after : HandleState) × (code ≡ ok)
    × (t.handles.items ≡ slice_set s.handles.items k (slot.Open after)) × (t.freed ≡ s.freed)
    × ((ks : List ℕ) → HasFree s ks → HasFree t ks) × (t.held ≡ s.held) × PassesHandle h after s t)
