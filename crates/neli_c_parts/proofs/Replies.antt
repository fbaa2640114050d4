-- The result of a read of a session, by that of its router.
use Rattle.std.proofs.Common.{◌≡◌, ◌⊎◌, ℕ, ℤ, true, false, List, [], ◌∷◌, length, Option}
use Rattle.std.proofs.Common.{Some, None, Result}
use Rattle.std.proofs.Common.{Ok, Err, IfOk, OnErr, ap, subst, ◌∙◌, inl, inr, IfSome}
use Rattle.neli_deliveries.specs.declared.delivery.Delivery.{Delivery}
use Rattle.neli_deliveries.specs.Readings.{Item}
use Rattle.neli_log.specs.Log.{pending_of}
use Rattle.neli_router.specs.declared.handle.HandleState.{HandleState}
use Rattle.neli_router.specs.declared.reply.Reply.{Reply}
use Rattle.neli_router.specs.declared.reply.Reply.TheVariants as reply
use Rattle.neli_router.specs.Reads.{IsNextRead, item_for}
use Rattle.neli_router.specs.Same.{SameButHandle}
use Rattle.neli_reader.specs.RouterError.TheVariants as router
use Rattle.neli_c_parts.specs.declared.session.NeliItem.{NeliItem}
use Rattle.neli_c_parts.specs.declared.session.Session.{Session}
use Rattle.neli_c_parts.specs.Codes.{memory}
use Rattle.neli_c_parts.specs.Sessions.{GivesDelivery, GivesNothing, Holds, ReadsHandle, pending, reply_code}

-- a fact about the value that exists
pub of-value : {A : Type 0} (o : Option A) (P : A → Type 0) (x : A) → Some x ≡ o → P x → IfSome o P
of-value {A} o P x is p = subst (λ (o : Option A). IfSome o P) is p

module _ {E : Type 0} (h after : HandleState) (s t : Session) (code : ℤ) (a b : NeliItem) where
  -- the result of next_typed for the first delivery
  abbrev Given : Result (Reply ℕ (List ℕ)) E → Delivery → List Delivery → Type 0
  Given r d ds =
      IfOk r (IsNextRead (λ n. n) (λ n. n) (λ b. b) length (λ b. Ok b) pending_of d ds h after s.router t.router
      (λ x. reply.Item x))

  -- the facts about this result
  held-of : (r x : Result (Reply ℕ (List ℕ)) E) → r ≡ x → Holds r s.held t.held a b → Holds x s.held t.held a b
  held-of r x is held = subst (λ (y : Result (Reply ℕ (List ℕ)) E). Holds {E = E} y s.held t.held a b) is held

  gives : (r : Result (Reply ℕ (List ℕ)) E) (d : Delivery) (ds : List Delivery) → code ≡ reply_code r
      → Holds r s.held t.held a b → Given r d ds
      → OnErr r ((after ≡ h) × (t.router ≡ s.router))
      → ((code ≡ memory) × (after ≡ h) × GivesNothing s t a b) ⊎ GivesDelivery code h after s t d ds a b
  gives (Ok answer) d ds is held given err =
      let i : Item ℕ (List ℕ) = item_for (λ n. n) h given.x in
      let same : answer ≡ reply.Item i = given.is_given in
      let shows = held-of (Ok answer) (Ok (reply.Item i)) (ap (λ (x : Reply ℕ (List ℕ)). Ok x) same) held in
      inr (
        given.x,
        given.is_read,
        is ∙ ap (λ (x : Reply ℕ (List ℕ)). reply_code {E = E} (Ok x)) same,
        shows.0,
        shows.1,
        given.goes,
      )
  gives (Err e) d ds is held given err = inl (is, err.0, (err.1, held.0, held.1))

  pub reads : (r : Result (Reply ℕ (List ℕ)) E) → code ≡ reply_code r → Holds r s.held t.held a b
      → (h.ended ≡ true → (r ≡ Ok reply.End) × (after ≡ h) × (t.router ≡ s.router))
      → (h.ended ≡ false → pending s h.number ≡ None → (r ≡ Ok (reply.Item (Err router.ClosedChannel)))
      × (after ≡ record h { ended = true }) × (t.router ≡ s.router))
      → (h.ended ≡ false → pending s h.number ≡ Some [] → (r ≡ Ok reply.Waits) × (after ≡ h) × (t.router ≡ s.router))
      → (h.ended ≡ false → (d : Delivery) (ds : List Delivery) → pending s h.number ≡ Some (d ∷ ds) → Given r d ds)
      → SameButHandle (λ d. d.port) pending_of h.number s.router t.router
      → OnErr r ((after ≡ h) × (t.router ≡ s.router))
      → ReadsHandle code h after s t a b
  reads r is held ended closed waiting given same err = (
    λ e. (let kept = held-of r (Ok reply.End) (ended e).0 held in (
      is ∙ ap reply_code (ended e).0,
      (ended e).1,
      ((ended e).2, kept.0, kept.1),
    )),
    λ e p. (let kept = held-of r (Ok (reply.Item (Err router.ClosedChannel))) (closed e p).0 held in (
      is ∙ ap reply_code (closed e p).0,
      (closed e p).1,
      (closed e p).2,
      kept.0,
      kept.1,
    )),
    λ e p. (let kept = held-of r (Ok reply.Waits) (waiting e p).0 held in (
      is ∙ ap reply_code (waiting e p).0,
      (waiting e p).1,
      ((waiting e p).2, kept.0, kept.1),
    )),
    λ e d ds p. gives r d ds is held (given e d ds p) err,
    same,
  )
