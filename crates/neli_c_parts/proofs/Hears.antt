-- The verdict on an answer after a read of a session, by that of its router.
use Rattle.std.proofs.Common.{◌≡◌, ◌≢◌, ◌⊎◌, ℕ, false, List, ◌∷◌, length, Option, Some, None, Result}
use Rattle.std.proofs.Common.{Ok, Err, IfOk, OnErr, subst, ◌∙◌, inl, inr, option_map, refl}
use Rattle.std.proofs.Common.{ℤ, slice_set}
use Rattle.neli_deliveries.specs.declared.delivery.Delivery.{Delivery}
use Rattle.neli_deliveries.specs.Readings.{IsReading, Item}
use Rattle.neli_log.specs.Log.{pending_of}
use Rattle.neli_router.specs.declared.handle.HandleState.{HandleState}
use Rattle.neli_router.specs.declared.reply.Reply.{Reply}
use Rattle.neli_router.specs.declared.reply.Reply.TheVariants as reply
use Rattle.neli_router.specs.Reads.{IsNextRead, known_after}
use Rattle.neli_router.specs.Verdicts.{heard_of, known_of, settled, verdict_by}
use Rattle.neli_c_parts.specs.declared.session.Session.{Session}
use Rattle.neli_router.specs.GivenUp.{IsLeft, has_finished}
use Rattle.neli_router.specs.declared.verdict.Heard.{Heard as Known}
use Rattle.neli_c_parts.specs.declared.session.NeliVerdict.{NeliVerdict}
use Rattle.neli_c_parts.specs.declared.session.Slot.TheVariants as slot
use Rattle.neli_c_parts.specs.Codes.{memory, ok}
use Rattle.neli_c_parts.specs.Sessions.{HasFree, pending}
use Rattle.neli_c_parts.specs.Slots.{handle_at}
use Rattle.neli_c_parts.specs.Verdicts.{GivesUpHandle, HearsHandle, LeavesRequest, TellsVerdict, filtered_byte}
use Rattle.neli_c_parts.specs.Verdicts.{verdict_code, verdict_error}
use Rattle.neli_c_parts.proofs.Replies.{of-value}

module _ {E : Type 0} (h after : HandleState) (s t : Session) where
  -- the result of next_typed for the first delivery
  abbrev Heard : Result (Reply ℕ (List ℕ)) E → Delivery → List Delivery → Type 0
  Heard r d ds =
      IfOk r (IsNextRead (λ n. n) (λ n. n) (λ b. b) length (λ b. Ok b) pending_of d ds h after s.router t.router
      (λ x. reply.Item x))

  first : (r : Result (Reply ℕ (List ℕ)) E) (d : Delivery) (ds : List Delivery) → Heard r d ds
      → OnErr r ((after ≡ h) × (t.router ≡ s.router))
      → (t.router ≡ s.router) ⊎ ((given : Item ℕ (List ℕ)) × IsReading (λ n. n) (λ b. b) length (λ b. Ok b) d given
      × (heard_of t.router.heard h.number ≡ known_after (λ n. n) h d given (heard_of s.router.heard h.number)))
  first (Ok answer) d ds heard err = inr (heard.x, heard.is_read, heard.goes.heard)
  first (Err e) d ds heard err = inl err.1

  pub hears : (r : Result (Reply ℕ (List ℕ)) E)
      → (h.ended ≡ false → (d : Delivery) (ds : List Delivery) → pending s h.number ≡ Some (d ∷ ds) → Heard r d ds)
      → ((w : Option ℕ) → w ≢ h.number → heard_of t.router.heard w ≡ heard_of s.router.heard w)
      → (t.router.given_up ≡ s.router.given_up)
      → OnErr r ((after ≡ h) × (t.router ≡ s.router)) → HearsHandle h s t
  hears r heard others left err = (λ e d ds p. first r d ds (heard e d ds p) err, others, left)

-- the verdict on the handle at a place
pub tells : (code error : ℤ) (filtered k : ℕ) (s : Session) (x : HandleState) (out : NeliVerdict)
    → Some x ≡ handle_at k s.handles.items
    → code ≡ verdict_code (verdict_by x.number (heard_of s.router.heard x.number))
    → error ≡ verdict_error (verdict_by x.number (heard_of s.router.heard x.number))
    → filtered ≡ filtered_byte (heard_of s.router.heard x.number)
    → TellsVerdict code k s out (record { error = error; filtered = filtered })
tells code error filtered k s x out is c e f = (
  λ none. absurd (there is none),
  of-value (handle_at k s.handles.items) (λ h.
      (code ≡ verdict_code (verdict_by h.number (heard_of s.router.heard h.number)))
      × (◌≡◌ {A = NeliVerdict} (record { error = error; filtered = filtered }) (record {
        error = verdict_error (verdict_by h.number (heard_of s.router.heard h.number));
        filtered = filtered_byte (heard_of s.router.heard h.number);
      }))) x is (c, rw (e, f) refl),
)
  where
    there : Some x ≡ handle_at k s.handles.items → handle_at k s.handles.items ≡ None → ⊥
    there is none = cc

-- whether the kernel filtered does not depend on the verdict
pub filtered-settled : (heard : Option Known) → filtered_byte (option_map settled heard) ≡ filtered_byte heard
filtered-settled None = refl
filtered-settled (Some known) = refl

-- giving a handle up, if memory does not run out
pub given-up : (k : ℕ) (s t : Session) (x : HandleState) → Some x ≡ handle_at k s.handles.items
    → (x.number ≡ None → pending t None ≡ None)
    → (pending s x.number ≡ None → pending t x.number ≡ None)
    → ((q : ℕ) (ds : List Delivery) → x.number ≡ Some q → pending s (Some q) ≡ Some ds
    → IsLeft q (known_of x.needs_ack (heard_of s.router.heard (Some q))).answering
    (has_finished (known_of x.needs_ack (heard_of s.router.heard (Some q))) ds) s.router.given_up.items
    (pending t) t.router.given_up.items)
    → ((w : Option ℕ) → w ≢ x.number → pending t w ≡ pending s w)
    → ((w : Option ℕ) → w ≢ x.number → heard_of t.router.heard w ≡ heard_of s.router.heard w)
    → (t.handles.items ≡ slice_set s.handles.items k (slot.Free s.freed))
    → (k ≢ 0 → (ks : List ℕ) → HasFree s ks → HasFree t (k ∷ ks))
    → (k ≡ 0 → (ks : List ℕ) → HasFree s ks → HasFree t ks)
    → (t.router.deliveries.port ≡ s.router.deliveries.port) → (t.router.next_seq ≡ s.router.next_seq)
    → (t.held ≡ s.held) → GivesUpHandle ok k s t
given-up k s t x is multicast closed leaves others heard slots first again port next held = (
  λ none. absurd (there is none),
  λ h at. subst (λ (y : HandleState). LeavesRequest ok y s t
      × ((w : Option ℕ) → w ≢ y.number → pending t w ≡ pending s w)
      × ((w : Option ℕ) → w ≢ y.number → heard_of t.router.heard w ≡ heard_of s.router.heard w)
      × (t.handles.items ≡ slice_set s.handles.items k (slot.Free s.freed))
      × (k ≢ 0 → (ks : List ℕ) → HasFree s ks → HasFree t (k ∷ ks))
      × (k ≡ 0 → (ks : List ℕ) → HasFree s ks → HasFree t ks)
      × (t.router.deliveries.port ≡ s.router.deliveries.port) × (t.router.next_seq ≡ s.router.next_seq)
      × (t.held ≡ s.held)) (same h is at) (
        (inl refl, λ e. absurd (apart e), λ e. leaves, λ e. (refl, multicast e), λ e. (refl, closed e)),
        others,
        heard,
        slots,
        first,
        again,
        port,
        next,
        held,
      ),
)
  where
    there : Some x ≡ handle_at k s.handles.items → handle_at k s.handles.items ≡ None → ⊥
    there is none = cc

    same : (h : HandleState) → Some x ≡ handle_at k s.handles.items → handle_at k s.handles.items ≡ Some h → x ≡ h
    same h is at = (let both : Some x ≡ Some h = is ∙ at in cc)

    apart : ok ≡ memory → ⊥
    apart e = cc
