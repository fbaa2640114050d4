-- A whole reply that needed an acknowledgement, and another message after it.
use Rattle.std.proofs.Common.{◌≡◌, ◌<◌, ℕ, suc, true, false, List, [], ◌∷◌, map, length}
use Rattle.std.proofs.Common.{Result, Ok, Err, refl, sym, ap, ◌∙◌}
use Rattle.neli_wire.specs.declared.errors.DeError.{DeError}
use Rattle.neli_reader.specs.Framed.{Nlmsghdr}
use Rattle.neli_reader.specs.NlPayload.{NlPayload}
use Rattle.neli_reader.specs.NlPayload.TheVariants as payload
use Rattle.neli_reader.specs.RouterError.{RouterError}
use Rattle.neli_reader.specs.RouterError.TheVariants as router
use Rattle.neli_deliveries.specs.Deliveries.{Untyped, message}
use Rattle.neli_deliveries.specs.Readings.{Item}
use Rattle.neli_runs.specs.Outcomes.{IsNextAnswer}
use Rattle.neli_runs.specs.Reply.{Reply}
use Rattle.neli_runs.specs.Reply.TheVariants as reply
use Rattle.neli_runs.specs.Rule.{answer, last_item, last_item_of_payload}
use Rattle.neli_kernel_laws.specs.Complete.{IsWhole, is_acknowledgement}
use Rattle.neli_kernel_laws.specs.Turns.{IsReadAs}
use Rattle.neli_kernel_laws.proofs.Turns.{alone-last, item_is, over-zero, pair-past, pair-second, pair-waits}
use Rattle.neli_kernel_laws.proofs.Turns.{suc_is, waits, zero_not_suc}
use Rattle.neli_kernel_laws.proofs.Typed.{read-ack, whole-single}

-- a message that is no acknowledgement is returned as an error after a whole reply
no-ack-error : {K P : Type 0} (m : Nlmsghdr K P) (p : NlPayload K P) → is_acknowledgement p ≡ false
    → last_item_of_payload true true m p ≡ Err router.NoAck
no-ack-error m (payload.Ack e) is = cc
no-ack-error m (payload.Err e) is = refl
no-ack-error m (payload.Capped e) is = refl
no-ack-error m (payload.DumpExtAck e) is = refl
no-ack-error m (payload.Payload p) is = refl
no-ack-error m payload.Empty is = refl

none-yet : {K P : Type 0} (number_of : K → ℕ) (g : Item K P) → answer number_of true true [] 0 ≡ reply.Item g → ⊥
none-yet number_of g is = let w : reply.Waits ≡ reply.Item g = sym (waits number_of true true 0) ∙ is in cc

module _ {K P V : Type 0} (type_of : ℕ → K) (number_of : K → ℕ) (view : P → V) (size : P → ℕ) (read : List ℕ
    → Result V DeError) (back : (n : ℕ) → n < 65536 → number_of (type_of n) ≡ n) (u b : Untyped) (more : List Untyped)
    (whole : IsWhole u) where
  -- the replies to a handle with these deliveries
  abbrev IsNext : List (Item K P) → Reply K P → Type 0
  IsNext = IsNextAnswer type_of number_of view size read true true (map message (u ∷ b ∷ more))

  error-of : is_acknowledgement b.1 ≡ false → (y : Item K P) → IsReadAs type_of view size read b y
      → (e : RouterError K P) × (last_item true true y ≡ Err e)
  error-of none (Err e) is = (e, refl)
  error-of none (Ok n) is = (
    router.NoAck,
    no-ack-error n n.payload (read-ack type_of number_of view size read back b n is ∙ none),
  )

  -- the first reading is the message that was returned
  not-error : (e : RouterError K P) (xs : List (Item K P)) (m : Nlmsghdr K P)
      → answer number_of true true (Err e ∷ xs) 0 ≡ reply.Item (Ok m) → ⊥
  not-error e xs m is =
      let same : Err e ≡ Ok m = item_is _ _ (sym (over-zero number_of true true (Err e) xs
      (alone-last number_of true true (Err e) xs refl)) ∙ is) in
      cc

  pub unacknowledged-error : is_acknowledgement b.1 ≡ false → (m : Nlmsghdr K P) (r : Reply K P) → IsNext (Ok m ∷ []) r
      → (e : RouterError K P) × (r ≡ reply.Item (Err e))
  unacknowledged-error none m r ([], are, were, is, waiting) = absurd (none-yet number_of (Ok m) (were 0 (Ok m) refl))
  unacknowledged-error none m r (Err e ∷ xs, are, were, is, waiting) =
      absurd (not-error e xs m (were 0 (Ok m) refl))
  unacknowledged-error none m r (Ok n ∷ [], are, were, is, waiting) =
      let s = whole-single type_of number_of view size read back u n are.0 whole in
      absurd (zero_not_suc (length (map message more)) (suc_is 0 (suc (length (map message more)))
      (waiting (sym is ∙ pair-waits number_of (Ok n) s.0 s.1 0))))
  unacknowledged-error none m r (Ok n ∷ y ∷ ys, are, were, is, waiting) =
      let s = whole-single type_of number_of view size read back u n are.0 whole in
      let e = error-of none y are.1.0 in (
        e.0,
        sym is ∙ pair-second number_of (Ok n) s.0 s.1 y ys
            ∙ ap (λ (x : Item K P). reply.Item x) e.1,
      )

  pub unacknowledged-end : (m : Nlmsghdr K P) (g : Item K P) (given : List (Item K P)) (r : Reply K P)
      → IsNext (Ok m ∷ g ∷ given) r → r ≡ reply.End
  unacknowledged-end m g given r ([], are, were, is, waiting) = absurd (none-yet number_of (Ok m) (were 0 (Ok m) refl))
  unacknowledged-end m g given r (Err e ∷ xs, are, were, is, waiting) =
      absurd (not-error e xs m (were 0 (Ok m) refl))
  unacknowledged-end m g given r (Ok n ∷ [], are, were, is, waiting) =
      let s = whole-single type_of number_of view size read back u n are.0 whole in
      let w : reply.Waits ≡ reply.Item g = sym (pair-waits number_of (Ok n) s.0 s.1 0) ∙ were 1 g refl in
      absurd cc
  unacknowledged-end m g given r (Ok n ∷ y ∷ ys, are, were, is, waiting) =
      let s = whole-single type_of number_of view size read back u n are.0 whole in
      sym is ∙ pair-past number_of (Ok n) s.0 s.1 y ys (length given)
