-- The result of listening by a session, by that of its router.
use Rattle.std.proofs.Common.{◌≡◌, ◌≢◌, ◌⊎◌, ℕ, ℤ, List, [], ◌∷◌, length, Option, Some, None, Result, Ok}
use Rattle.std.proofs.Common.{Err, IfOk}
use Rattle.std.proofs.Common.{OnErr, ap, subst, ◌∙◌, inl, inr}
use Rattle.neli_deliveries.specs.declared.delivery.Delivery.{Delivery}
use Rattle.neli_router.specs.Listening.{IsNotice}
use Rattle.neli_router.specs.declared.listening.Missed.{Missed}
use Rattle.neli_router.specs.declared.listening.Notice.{Notice}
use Rattle.neli_router.specs.declared.listening.Notice.TheVariants as notice
use Rattle.neli_c_parts.specs.declared.session.NeliItem.{NeliItem}
use Rattle.neli_c_parts.specs.declared.session.Session.{Session}
use Rattle.neli_c_parts.specs.Codes.{memory}
use Rattle.neli_c_parts.specs.Listens.{GivesNotice, HoldsNotice, Listens, notice_code}
use Rattle.neli_c_parts.specs.Sessions.{GivesNothing, pending}

module _ {E : Type 0} (s t : Session) (code : ℤ) (a b : NeliItem) where
  -- the result of listen for the first delivery
  abbrev Given : Result (Notice ℕ (List ℕ)) E → Delivery → List Delivery → Type 0
  Given r d ds =
      IfOk r (λ given. IsNotice (λ n. n) (λ x. x) length (λ x. Ok x) d given
      × (pending t None ≡ Some ds) × (t.router.missed ≡ None))

  -- the facts about this result
  held-of : (r x : Result (Notice ℕ (List ℕ)) E) → r ≡ x → HoldsNotice r s.held t.held a b
      → HoldsNotice x s.held t.held a b
  held-of r x is held = subst (λ (y : Result (Notice ℕ (List ℕ)) E). HoldsNotice {E = E} y s.held t.held a b) is held

  gives : (r : Result (Notice ℕ (List ℕ)) E) (d : Delivery) (ds : List Delivery) → code ≡ notice_code r
      → HoldsNotice r s.held t.held a b → Given r d ds → OnErr r (t.router ≡ s.router)
      → ((code ≡ memory) × GivesNothing s t a b) ⊎ GivesNotice code t d ds a b
  gives (Ok (notice.Message m)) d ds is held given err =
      inr (Ok m, given.0, is, held.0, held.1, given.1, given.2)
  gives (Ok (notice.Untyped i)) d ds is held given err =
      inr (i, given.0.1, is, held.0, held.1, given.1, given.2)
  gives (Ok (notice.Missed m)) d ds is held given err = absurd given.0
  gives (Ok notice.Waits) d ds is held given err = absurd given.0
  gives (Ok notice.Closed) d ds is held given err = absurd given.0
  gives (Err e) d ds is held given err = inl (is, (err, held.0, held.1))

  pub listens : (r : Result (Notice ℕ (List ℕ)) E) → code ≡ notice_code r → HoldsNotice r s.held t.held a b
      → ((m : Missed) → s.router.missed ≡ Some m → (r ≡ Ok (notice.Missed m)) × (t.router.missed ≡ None)
      × (t.router.deliveries ≡ s.router.deliveries))
      → (s.router.missed ≡ None → pending s None ≡ None → (r ≡ Ok notice.Closed) × (t.router ≡ s.router))
      → (s.router.missed ≡ None → pending s None ≡ Some [] → (r ≡ Ok notice.Waits) × (t.router ≡ s.router))
      → (s.router.missed ≡ None → (d : Delivery) (ds : List Delivery) → pending s None ≡ Some (d ∷ ds) → Given r d ds)
      → ((w : Option ℕ) → w ≢ None → pending t w ≡ pending s w) → OnErr r (t.router ≡ s.router)
      → (t.router.deliveries.port ≡ s.router.deliveries.port) → (t.router.next_seq ≡ s.router.next_seq)
      → (t.router.heard ≡ s.router.heard) → (t.router.given_up ≡ s.router.given_up)
      → (t.handles.items ≡ s.handles.items) → (t.freed ≡ s.freed) → Listens code s t a b
  listens r is held missed closed waits given others err port next heard left handles freed = (
    λ m e. (let kept = held-of r (Ok (notice.Missed m)) (missed m e).0 held in (
      is ∙ ap notice_code (missed m e).0,
      (missed m e).1,
      (missed m e).2,
      kept.0,
      kept.1,
    )),
    λ e p. (let kept = held-of r (Ok notice.Closed) (closed e p).0 held in (
      is ∙ ap notice_code (closed e p).0,
      ((closed e p).1, kept.0, kept.1),
    )),
    λ e p. (let kept = held-of r (Ok notice.Waits) (waits e p).0 held in (
      is ∙ ap notice_code (waits e p).0,
      ((waits e p).1, kept.0, kept.1),
    )),
    λ e d ds p. gives r d ds is held (given e d ds p) err,
    others,
    port,
    next,
    heard,
    left,
    handles,
    freed,
  )
