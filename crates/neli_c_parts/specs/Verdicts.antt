-- Verdicts on answers, in C's terms, and the effect of giving up.
use Rattle.std.specs.Prelude.{◌≡◌, ◌≢◌, ◌⊎◌, ℕ, ℤ, pos, List, if◌then◌else◌, ◌∷◌, Option}
use Rattle.std.specs.Prelude.{Some, None, IfSome}
use Rattle.std.specs.Prelude.{false, length, slice_set, Ok}
use Rattle.neli_deliveries.specs.declared.delivery.Delivery.{Delivery}
use Rattle.neli_deliveries.specs.Readings.{IsReading, Item}
use Rattle.neli_router.specs.declared.handle.HandleState.{HandleState}
use Rattle.neli_router.specs.declared.verdict.Heard.{Heard}
use Rattle.neli_router.specs.declared.verdict.Loss.TheVariants as loss
use Rattle.neli_router.specs.declared.verdict.Verdict.{Verdict}
use Rattle.neli_router.specs.declared.verdict.Verdict.TheVariants as verdict
use Rattle.neli_router.specs.GivenUp.{IsLeft, has_finished, still_open}
use Rattle.neli_router.specs.Reads.{known_after}
use Rattle.neli_router.specs.Verdicts.{heard_of, known_of, verdict_by}
use Rattle.neli_c_parts.specs.declared.session.NeliVerdict.{NeliVerdict}
use Rattle.neli_c_parts.specs.declared.session.Session.{Session}
use Rattle.neli_c_parts.specs.declared.session.Slot.TheVariants as slot
use Rattle.neli_c_parts.specs.Codes.{bad_bytes, interrupted, kernel_error, link, memory, no_ack, no_handle, ok}
use Rattle.neli_c_parts.specs.Codes.{stray}
use Rattle.neli_c_parts.specs.Codes.{unended, unexpected_ack, waits}
use Rattle.neli_c_parts.specs.Sessions.{HasFree, pending}
use Rattle.neli_c_parts.specs.Slots.{handle_at}

-- ---- verdicts

-- the code of a verdict
abbrev pub verdict_code : Verdict → ℤ
verdict_code verdict.Pending = waits
verdict_code verdict.Complete = ok
verdict_code verdict.Interrupted = interrupted
verdict_code (verdict.Failed e) = kernel_error
verdict_code (verdict.Lost loss.Link) = link
verdict_code (verdict.Lost loss.Datagram) = bad_bytes
verdict_code (verdict.Lost loss.Stray) = stray
verdict_code (verdict.Lost loss.Unreadable) = bad_bytes
verdict_code (verdict.Lost loss.NoAck) = no_ack
verdict_code (verdict.Lost loss.UnexpectedAck) = unexpected_ack
verdict_code (verdict.Lost loss.Unended) = unended
verdict_code (verdict.Lost loss.Closed) = no_handle

-- the kernel's code if it failed, and 0 elsewhere
abbrev pub verdict_error : Verdict → ℤ
verdict_error (verdict.Failed e) = e
verdict_error v = pos 0

-- 1 if the kernel filtered, else 0
abbrev pub filtered_byte : Option Heard → ℕ
filtered_byte None = 0
filtered_byte (Some heard) = if heard.filtered then 1 else 0

-- of the handle at a place, as the router returns it; without a handle nothing is written
abbrev pub TellsVerdict : ℤ → ℕ → Session → NeliVerdict → NeliVerdict → Type 0
TellsVerdict code k s out out' =
    (handle_at k s.handles.items ≡ None → (code ≡ no_handle) × (out' ≡ out))
    × IfSome (handle_at k s.handles.items) (λ h.
    (code ≡ verdict_code (verdict_by h.number (heard_of s.router.heard h.number)))
    × (out' ≡ record {
      error = verdict_error (verdict_by h.number (heard_of s.router.heard h.number));
      filtered = filtered_byte (heard_of s.router.heard h.number);
    }))

-- what a read of this handle adds to the verdict on the answer: its first delivery, as the returned item; of others
-- nothing; or memory ran out, and the router is unchanged
abbrev pub HearsHandle : HandleState → Session → Session → Type 0
HearsHandle h s t =
    (h.ended ≡ false → (d : Delivery) (ds : List Delivery) → pending s h.number ≡ Some (d ∷ ds)
    → (t.router ≡ s.router) ⊎ ((given : Item ℕ (List ℕ)) × IsReading (λ n. n) (λ b. b) length (λ b. Ok b) d given
    × (heard_of t.router.heard h.number
    ≡ known_after (λ n. n) h d given (heard_of s.router.heard h.number))))
    × ((w : Option ℕ) → w ≢ h.number → heard_of t.router.heard w ≡ heard_of s.router.heard w)
    × (t.router.given_up ≡ s.router.given_up)

-- ---- giving up

-- the request of this handle is left until its answer ends; or memory ran out, and it is closed
abbrev pub LeavesRequest : ℤ → HandleState → Session → Session → Type 0
LeavesRequest code h s t =
    ((code ≡ ok) ⊎ (code ≡ memory))
    × (code ≡ memory → (pending t h.number ≡ None)
    × (t.router.given_up.items ≡ still_open (pending t) s.router.given_up.items))
    × (code ≡ ok → (q : ℕ) (ds : List Delivery) → h.number ≡ Some q → pending s (Some q) ≡ Some ds
    → IsLeft q (known_of h.needs_ack (heard_of s.router.heard (Some q))).answering
    (has_finished (known_of h.needs_ack (heard_of s.router.heard (Some q))) ds) s.router.given_up.items (pending t)
    t.router.given_up.items)
    × (h.number ≡ None → (code ≡ ok) × (pending t None ≡ None))
    × (pending s h.number ≡ None → (code ≡ ok) × (pending t h.number ≡ None))

-- the handle at a place is given up, and the place is free, but that of multicast is not used again; the deliveries of
-- others stay; or there is none, and nothing changes
abbrev pub GivesUpHandle : ℤ → ℕ → Session → Session → Type 0
GivesUpHandle code k s t =
    (handle_at k s.handles.items ≡ None → (code ≡ no_handle) × (t ≡ s))
    × ((h : HandleState) → handle_at k s.handles.items ≡ Some h → LeavesRequest code h s t
    × ((w : Option ℕ) → w ≢ h.number → pending t w ≡ pending s w)
    × ((w : Option ℕ) → w ≢ h.number → heard_of t.router.heard w ≡ heard_of s.router.heard w)
    × (t.handles.items ≡ slice_set s.handles.items k (slot.Free s.freed))
    × (k ≢ 0 → (ks : List ℕ) → HasFree s ks → HasFree t (k ∷ ks))
    × (k ≡ 0 → (ks : List ℕ) → HasFree s ks → HasFree t ks)
    × (t.router.deliveries.port ≡ s.router.deliveries.port) × (t.router.next_seq ≡ s.router.next_seq)
    × (t.held ≡ s.held))
