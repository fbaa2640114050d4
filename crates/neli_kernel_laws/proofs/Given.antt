-- A whole answer is returned in turn.
use Rattle.std.proofs.Common.{◌≡◌, ◌<◌, ℕ, ◌++◌, All, Bool, true, false, List, [], ◌∷◌}
use Rattle.std.proofs.Common.{map, Result, Ok, Err, refl, sym, subst, ◌∙◌, inl, inr}
use Rattle.std.proofs.lemmas.List.{append-nil, length-map}
use Rattle.std.proofs.lemmas.List.Elements.{All-head, All-tail}
use Rattle.neli_wire.specs.declared.errors.DeError.{DeError}
use Rattle.neli_reader.specs.Framed.{Nlmsghdr}
use Rattle.neli_reader.specs.NlPayload.{NlPayload}
use Rattle.neli_reader.specs.NlPayload.TheVariants as payload
use Rattle.neli_deliveries.specs.Deliveries.{Untyped, message}
use Rattle.neli_deliveries.specs.Readings.{Item}
use Rattle.neli_runs.specs.Outcomes.{AreReadings, IsNextAnswer}
use Rattle.neli_runs.specs.Reply.{Reply}
use Rattle.neli_runs.specs.Rule.{ends_alone, is_answer, is_single, last_item_of_payload, last_item, last_place}
use Rattle.neli_kernel_laws.specs.Complete.{IsComplete, IsEnding, IsPart, is_acknowledgement}
use Rattle.neli_kernel_laws.specs.Turns.{IsInTurn, IsReadAs}
use Rattle.neli_kernel_laws.proofs.Turns.{AreRead, InTurn, alone-last, over-turn, pair-turn, quiet-turn, single-last}
use Rattle.neli_kernel_laws.proofs.Typed.{part-quiet, read-ack, read-answer, whole-single}

-- ---- the item at the last place

-- a needed acknowledgement is returned as it is, after a single reply or not
ack-by : {K P : Type 0} (after : Bool) (m : Nlmsghdr K P) (p : NlPayload K P) → is_acknowledgement p ≡ true
    → last_item_of_payload true after m p ≡ Ok m
ack-by after m (payload.Ack e) is = refl
ack-by after m (payload.Err e) is = cc
ack-by after m (payload.Capped e) is = cc
ack-by after m (payload.DumpExtAck e) is = cc
ack-by after m (payload.Payload p) is = cc
ack-by after m payload.Empty is = cc

-- any other item is the same, whether an acknowledgement is needed or not
other-by : {K P : Type 0} (needs : Bool) (m : Nlmsghdr K P) (p : NlPayload K P) → is_acknowledgement p ≡ false
    → last_item_of_payload needs false m p ≡ last_item_of_payload true false m p
other-by needs m (payload.Ack e) is = cc
other-by needs m (payload.Err e) is = refl
other-by needs m (payload.Capped e) is = refl
other-by needs m (payload.DumpExtAck e) is = refl
other-by needs m (payload.Payload p) is = refl
other-by needs m payload.Empty is = refl

-- a message that is no answer is no acknowledgement
no-ack : {K P : Type 0} (p : NlPayload K P) → is_answer p ≡ false → is_acknowledgement p ≡ false
no-ack (payload.Ack e) none = cc
no-ack (payload.Err e) none = refl
no-ack (payload.Capped e) none = refl
no-ack (payload.DumpExtAck e) none = refl
no-ack (payload.Payload p) none = refl
no-ack payload.Empty none = refl

-- ---- reads of these types

-- the deliveries are these messages
module _ {K P V : Type 0} (type_of : ℕ → K) (view : P → V) (size : P → ℕ) (read : List ℕ → Result V DeError) where
  pub are-read : (us : List Untyped) (items : List (Item K P))
      → AreReadings type_of view size read (map message us) items → AreRead (IsReadAs type_of view size read) us items
  are-read us [] are = tt
  are-read [] (item ∷ items) are = absurd are
  are-read (u ∷ us) (item ∷ items) are = (are.0, are-read us items are.1)

module _ {K P V : Type 0} (type_of : ℕ → K) (number_of : K → ℕ) (view : P → V) (size : P → ℕ) (read : List ℕ
    → Result V DeError) (back : (n : ℕ) → n < 65536 → number_of (type_of n) ≡ n) where
  abbrev IsRead : Untyped → Item K P → Type 0
  IsRead = IsReadAs type_of view size read

  abbrev Turn : Bool → List Untyped → List Untyped → Type 0
  Turn needs us later = InTurn number_of needs IsRead us later

  -- the acknowledgement, or an error, where an acknowledgement is needed
  answer-over : (u : Untyped) → is_answer u.1 ≡ true → (x : Item K P) (xs : List (Item K P)) → IsRead u x
      → (last_place number_of true true (x ∷ xs) ≡ 0) × (last_item true false x ≡ last_item true false x)
  answer-over u is (Ok m) xs read_is = (
    alone-last number_of true true (Ok m) xs
        (read-answer type_of number_of view size read back u m read_is ∙ is),
    refl,
  )
  answer-over u is (Err e) xs read_is = (alone-last number_of true true (Err e) xs refl, refl)

  -- an error, if none is needed
  error-over : (u : Untyped) → is_answer u.1 ≡ true → is_acknowledgement u.1 ≡ false → (x : Item K P)
      (xs : List (Item K P)) → IsRead u x
      → (last_place number_of false true (x ∷ xs) ≡ 0) × (last_item false false x ≡ last_item true false x)
  error-over u is none (Ok m) xs read_is = (
    alone-last number_of false true (Ok m) xs (read-answer type_of number_of view size read back u m read_is ∙ is),
    other-by false m m.payload (read-ack type_of number_of view size read back u m read_is ∙ none),
  )
  error-over u is none (Err e) xs read_is = (alone-last number_of false true (Err e) xs refl, refl)

  -- a whole reply, if no acknowledgement is needed
  whole-over : (u : Untyped) → ((m : Nlmsghdr K P) → IsRead u (Ok m)
      → (ends_alone {K = K} {P = P} (Ok m) ≡ false) × (is_single {K = K} {P = P} number_of true (Ok m) ≡ true))
      → (x : Item K P) (xs : List (Item K P)) → IsRead u x → (last_place number_of false true (x ∷ xs) ≡ 0)
      × (last_item false false x ≡ last_item true false x)
  whole-over u single (Ok m) xs read_is =
      let s = single m read_is in
      (single-last number_of (Ok m) xs s.1, other-by false m m.payload (no-ack m.payload s.0))
  whole-over u single (Err e) xs read_is = (alone-last number_of false true (Err e) xs refl, refl)

  -- the acknowledgement after a whole reply
  ack-last : (a : Untyped) → is_answer a.1 ≡ true → is_acknowledgement a.1 ≡ true → (y : Item K P) → IsRead a y
      → (ends_alone y ≡ true) × (last_item true true y ≡ last_item true false y)
  ack-last a is ack (Ok m) read_is =
      let same : is_acknowledgement m.payload ≡ true = read-ack type_of number_of view size read back a m read_is
      ∙ ack in (
        read-answer type_of number_of view size read back a m read_is ∙ is,
        ack-by true m m.payload same
            ∙ sym (ack-by false m m.payload same),
      )
  ack-last a is ack (Err e) read_is = (refl, refl)

  ack-answer : (p : NlPayload ℕ (List ℕ)) → is_acknowledgement p ≡ true → is_answer p ≡ true
  ack-answer (payload.Ack e) is = refl
  ack-answer (payload.Err e) is = refl
  ack-answer (payload.Capped e) is = refl
  ack-answer (payload.DumpExtAck e) is = cc
  ack-answer (payload.Payload p) is = cc
  ack-answer payload.Empty is = cc

  ending-turn : (needs : Bool) (us later : List Untyped) → IsEnding needs us → Turn needs us later
  ending-turn true [] later is = absurd is
  ending-turn true (u ∷ []) later is = over-turn number_of true IsRead u later (answer-over u is)
  ending-turn true (u ∷ a ∷ []) later is =
      pair-turn number_of IsRead u a (λ m read_is. whole-single type_of number_of view size read back u m read_is is.0)
      (ack-last a (ack-answer a.1 is.1) is.1) later
  ending-turn true (u ∷ a ∷ b ∷ more) later is = absurd is
  ending-turn false [] later is = absurd is
  ending-turn false (u ∷ []) later (inl error) =
      over-turn number_of false IsRead u later (error-over u error.0 error.1)
  ending-turn false (u ∷ []) later (inr whole) =
      over-turn number_of false IsRead u later (whole-over u
      (λ m read_is. whole-single type_of number_of view size read back u m read_is whole))
  ending-turn false (u ∷ a ∷ more) later is = absurd is

  parts-turn : (needs : Bool) (parts ending later : List Untyped) → All IsPart parts → Turn needs ending later
      → Turn needs (parts ++ ending) later
  parts-turn needs [] ending later all last = last
  parts-turn needs (u ∷ parts) ending later all last =
      quiet-turn number_of needs IsRead u (parts ++ ending) later
      (λ m read_is. part-quiet type_of number_of view size read back u m read_is (All-head IsPart u parts all))
      (parts-turn needs parts ending later (All-tail IsPart u parts all) last)

  complete-turn : (needs : Bool) (us later : List Untyped) → IsComplete needs us → Turn needs us later
  complete-turn needs us later c =
      subst (λ (xs : List Untyped). Turn needs xs later) (sym c.4)
      (parts-turn needs c.0 c.1 later c.2 (ending-turn needs c.1 later c.3))

  -- whatever arrived later
  pub given-before : (needs : Bool) (us later : List Untyped) (given : List (Item K P)) (r : Reply K P)
      → IsComplete needs us
      → IsNextAnswer type_of number_of view size read needs true (map message (us ++ later)) given r
      → IsInTurn IsRead us given r
  given-before needs us later given r c next =
      complete-turn needs us later c given r (
        next.0,
        are-read type_of view size read (us ++ later) next.0 next.1,
        next.2,
        next.3,
        λ waits. next.4 waits
            ∙ length-map (us ++ later) message,
      )

  pub given-in-turn : (needs : Bool) (us : List Untyped) (given : List (Item K P)) (r : Reply K P) → IsComplete needs us
      → IsNextAnswer type_of number_of view size read needs true (map message us) given r → IsInTurn IsRead us given r
  given-in-turn needs us given r c next =
      given-before needs us [] given r c
      (subst (λ (xs : List Untyped). IsNextAnswer type_of number_of view size read needs true (map message xs) given r)
      (sym (append-nil us)) next)
