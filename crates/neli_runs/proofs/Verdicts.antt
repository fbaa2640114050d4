-- What an answer is that is complete.
use Rattle.std.proofs.Common.{ℕ, zero, suc, ◌≡◌, ◌≤◌, Bool, true, false, min, List, [], ◌∷◌, ◌++◌, length, take}
use Rattle.std.proofs.Common.{Option, Some, None, Ok, Err, refl, sym, ap, ◌∙◌, inl, inr, arith, pos, ℤ, subst, Result}
use Rattle.std.specs.Prelude.{◌==◌, ◌||◌, ◌&&◌, nat_lt, not, if◌then◌else◌}
use Rattle.std.proofs.lemmas.Bool.{eqb-true}
use mathlib.Core.Bool.{true≢false}
use Rattle.neli_reader.specs.Kinds.{is_multi}
use Rattle.std.specs.List.{list_any, slice_get}
use Rattle.std.proofs.lemmas.Bool.Decides.{Decides-int_eq, nat_tests}
use Rattle.std.specs.Ordering.{int_eq}
use Rattle.neli_wire.specs.declared.errors.DeError.{DeError}
use Rattle.neli_reader.specs.Framed.{Nlmsghdr}
use Rattle.neli_reader.specs.NlPayload.{NlPayload}
use Rattle.neli_reader.specs.NlPayload.TheVariants as payload
use Rattle.neli_reader.specs.Retyping.{IsTyped}
use Rattle.neli_deliveries.specs.declared.delivery.Delivery.{Delivery}
use Rattle.neli_deliveries.specs.declared.delivery.Delivery.TheVariants as delivery
use Rattle.neli_deliveries.specs.Readings.{IsReading, Item}
use Rattle.neli_router.specs.Rule.{ends_alone, first_place, is_answer, is_single, last_item, last_item_of_payload}
use Rattle.neli_router.specs.Rule.{last_place, single_place}
use Rattle.neli_router.specs.Verdicts.{code_verdict, end_code, given_of, is_flagged}
use Rattle.neli_router.specs.Verdicts.{is_last_item, last_given, last_verdict, verdict, verdict_at_end}
use Rattle.neli_router.specs.Verdicts.{verdict_of_items, whole_verdict}
use Rattle.neli_router.specs.declared.verdict.Verdict.{Verdict}
use Rattle.neli_router.specs.declared.verdict.Verdict.TheVariants as stands
use Rattle.neli_router.specs.laws.Places.{true_or_false, within_front}
use Rattle.neli_router.specs.laws.Verdicts.{error_fails, item_there, take_next}
use Rattle.neli_runs.specs.Outcomes.{AreReadings}
use Rattle.neli_answers.specs.declared.answering.Answering.TheVariants as answered
use Rattle.neli_runs.specs.Whole.{AreAnswers, EndsDump, IsWholeAnswer}

-- ---- what is complete

code_zero : (c : ℤ) (b : Bool) → int_eq c (pos 0) ≡ b → (if b then stands.Complete else stands.Failed c) ≡ stands.Complete
    → c ≡ pos 0
code_zero c true is h = (Decides-int_eq c (pos 0)).0 is
code_zero c false is h = cc

step_down : (i n : ℕ) → suc (suc i) ≤ suc n → suc i ≤ n
step_down i n h = omega (arith, h)

not_first : (b : Bool) (n : ℕ) → 1 ≤ (if b then 0 else suc n) → b ≡ false
not_first true n h = absurd (omega (arith, h))
not_first false n h = refl

none_below : (n : ℕ) → suc n ≤ 0 → ⊥
none_below n h = omega (arith, h)

module _ {K P : Type 0} where
  payload_whole : (needs gave : Bool) (m : Nlmsghdr K P) (p : NlPayload K P)
      → last_verdict (last_item_of_payload needs gave m p) ≡ stands.Complete
      → last_item_of_payload needs gave m p ≡ Ok m
  payload_whole true gave m (payload.Ack e) h = refl
  payload_whole false gave m (payload.Ack e) h = cc
  payload_whole needs true m (payload.Err e) h = cc
  payload_whole needs false m (payload.Err e) h = cc
  payload_whole needs true m (payload.Capped e) h = cc
  payload_whole needs false m (payload.Capped e) h = cc
  payload_whole needs true m (payload.Payload e) h = cc
  payload_whole needs false m (payload.Payload e) h = refl
  payload_whole needs true m (payload.DumpExtAck e) h = cc
  payload_whole needs false m (payload.DumpExtAck e) h = refl
  payload_whole needs true m payload.Empty h = cc
  payload_whole needs false m payload.Empty h = refl

  -- the last item of a complete answer is the message that came
  whole_last : (needs gave : Bool) (x : Item K P) → last_verdict (last_item needs gave x) ≡ stands.Complete
      → (m : Nlmsghdr K P) × (x ≡ Ok m) × (last_item needs gave x ≡ Ok m) × (end_code m.payload ≡ pos 0)
  whole_last needs gave (Err e) h = absurd ((error_fails e).1 h)
  whole_last needs gave (Ok m) h =
      let same : last_item needs gave (Ok m) ≡ Ok m = payload_whole needs gave m m.payload h in
      let code : code_verdict (end_code m.payload) ≡ stands.Complete =
      ap (λ (y : Item K P). last_verdict y) (sym same) ∙ h in
      (m, refl, same, code_zero (end_code m.payload) (int_eq (end_code m.payload) (pos 0)) refl code)

  before_first : (p : Item K P → Bool) (xs : List (Item K P)) (i : ℕ) (x : Item K P) → slice_get xs i ≡ Some x
      → suc i ≤ first_place p xs → p x ≡ false
  before_first p [] i x at h = cc
  before_first p (y ∷ xs) zero x at h =
      let same : y ≡ x = cc in
      rw (← same) (not_first (p y) (first_place p xs) h)
  before_first p (y ∷ xs) (suc i) x at h =
      elim (true_or_false (p y)) [
        | inl passes ↦ absurd (none_below (suc i) (rw passes at h))
        | inr fails ↦ before_first p xs i x at (step_down i (first_place p xs) (rw fails at h))
      ]

  alone_false : (x : Item K P) → ends_alone x ≡ false → (m : Nlmsghdr K P) × (x ≡ Ok m)
  alone_false (Ok m) h = (m, refl)
  alone_false (Err e) h = cc

ended_by : (n k : ℕ) → suc n ≤ k → nat_lt n k ≡ true
ended_by n k h = grind (arith, nat_tests)

before_least : (i l f : ℕ) → nat_lt i l ≡ true → l ≤ f → suc i ≤ f
before_least i l f h k = grind (arith, nat_tests)

end_same : (i l : ℕ) → suc i ≤ suc l → nat_lt i l ≡ false → i ≡ l
end_same i l h k = grind (arith, nat_tests)

last_least : (needs : Bool) (f s : ℕ) → min f (if needs then suc s else s) ≤ f
last_least true f s = omega arith
last_least false f s = omega arith

-- a complete answer
module _ {K P : Type 0} (number_of : K → ℕ) (needs numbered : Bool) (items : List (Item K P))
    (whole : verdict number_of needs numbered items ≡ stands.Complete) where
  abbrev last : ℕ
  last = last_place number_of needs numbered items

  abbrev single : Bool
  single = nat_lt (single_place number_of numbered items) last

  -- none is marked, and what stands at the last place is complete
  parts : (b : Bool) (o : Option (Item K P)) → list_any (is_flagged 16) (given_of number_of needs numbered items) ≡ b
      → slice_get items last ≡ o
      → (if b then stands.Interrupted else verdict_at_end number_of needs numbered (last_given number_of needs numbered items o))
      ≡ stands.Complete
      → (list_any (is_flagged 16) (given_of number_of needs numbered items) ≡ false)
      × ((x : Item K P) × (slice_get items last ≡ Some x) × (last_verdict (last_item needs single x) ≡ stands.Complete))
  parts true o is at h = cc
  parts false None is at h = cc
  parts false (Some x) is at h = (is, (x, at, h))

  known : (list_any (is_flagged 16) (given_of number_of needs numbered items) ≡ false)
      × ((x : Item K P) × (slice_get items last ≡ Some x) × (last_verdict (last_item needs single x) ≡ stands.Complete))
  known = parts (list_any (is_flagged 16) (given_of number_of needs numbered items)) (slice_get items last) refl refl whole

  abbrev x : Item K P
  x = known.1.0

  at : slice_get items last ≡ Some x
  at = known.1.1

  message : (m : Nlmsghdr K P) × (x ≡ Ok m) × (last_item needs single x ≡ Ok m) × (end_code m.payload ≡ pos 0)
  message = whole_last needs single x known.1.2

  inside_all : suc last ≤ length items
  inside_all = within_front items last x at

  same_given : given_of number_of needs numbered items ≡ take (suc last) items
  same_given =
      let same : last_item needs single x ≡ x = message.2 ∙ sym message.1 in
      rw at (ap (λ (y : Item K P). take last items ++ y ∷ []) same ∙ sym (take_next items last x at))

  message_at : (i : ℕ) (y : Item K P) → suc i ≤ suc last → slice_get items i ≡ Some y → (m : Nlmsghdr K P) × (y ≡ Ok m)
  message_at i y low there = elim (true_or_false (nat_lt i last)) [
    | inl before ↦
        (let first : suc i ≤ first_place ends_alone items = before_least i last
        (first_place ends_alone items) before (last_least needs (first_place ends_alone items)
        (single_place number_of numbered items)) in
        alone_false y (before_first ends_alone items i y there first))
    | inr end ↦
        (let same : i ≡ last = end_same i last low end in
        let both : Some y ≡ Some x = sym there ∙ (ap (λ (n : ℕ). slice_get items n) same ∙ at) in
        let is : y ≡ x = cc in (message.0, is ∙ message.1))
  ]

module _ {K P V : Type 0} (type_of : ℕ → K) (number_of : K → ℕ) (view : P → V) (size : P → ℕ) (read : List ℕ
    → Result V DeError) (needs numbered : Bool) where
  -- a message is the reading of a message of the handle's own
  own_reading : (d : Delivery) (m : Nlmsghdr K P) → IsReading type_of view size read d (Ok m)
      → (u : Nlmsghdr ℕ (List ℕ)) × (d ≡ delivery.Message u) × IsTyped type_of view size read u m
  own_reading (delivery.Message u) m is = (u, refl, is)
  own_reading (delivery.Stray u) m is = absurd is
  own_reading (delivery.Fault e) m is = cc

  read_at : (ds : List Delivery) (items : List (Item K P)) (i : ℕ) (x : Item K P)
      → AreReadings type_of view size read ds items → slice_get items i ≡ Some x
      → (d : Delivery) × (slice_get ds i ≡ Some d) × IsReading type_of view size read d x
  read_at ds [] i x are at = cc
  read_at [] (y ∷ items) i x are at = absurd are
  read_at (d ∷ ds) (y ∷ items) zero x are at =
      let same : y ≡ x = cc in
      (d, refl, subst (λ (z : Item K P). IsReading type_of view size read d z) same are.0)
  read_at (d ∷ ds) (y ∷ items) (suc i) x are at = read_at ds items i x are.1 at

  module _ (ds : List Delivery) (items : List (Item K P)) (are : AreReadings type_of view size read ds items)
      (whole : verdict number_of needs numbered items ≡ stands.Complete) where
    abbrev end : ℕ
    end = last number_of needs numbered items whole

    own_at : (i : ℕ) (y : Item K P) → slice_get items i ≡ Some y → (m : Nlmsghdr K P) → y ≡ Ok m
        → (u : Nlmsghdr ℕ (List ℕ)) × (slice_get ds i ≡ Some (delivery.Message u))
        × ((n : Nlmsghdr K P) × (slice_get items i ≡ Some (Ok n)) × IsTyped type_of view size read u n)
    own_at i y there m ok =
        let r = read_at ds items i y are there in
        let own = own_reading r.0 m (subst (λ (z : Item K P). IsReading type_of view size read r.0 z) ok r.2) in
        (own.0, r.1 ∙ ap (λ (d : Delivery). Some d) own.1, (m, there ∙ ap (λ (z : Item K P). Some z) ok, own.2))

    pub whole_answer : IsWholeAnswer type_of number_of view size read needs numbered ds items
    whole_answer =
        let inside = inside_all number_of needs numbered items whole in
        let this = message number_of needs numbered items whole in
        record {
          ended = ended_by end (length items) inside;
          all = same_given number_of needs numbered items whole;
          own = λ i low. (let there = item_there items i (omega (arith, low, inside)) in
              let m = message_at number_of needs numbered items whole i there.0 low there.1 in
              own_at i there.0 there.1 m.0 m.1);
          unmarked = (known number_of needs numbered items whole).0;
          code = λ m is. (let same : Some (Ok m) ≡ Some (x number_of needs numbered items whole) =
              sym is ∙ at number_of needs numbered items whole in
              let eq : Ok m ≡ Ok this.0 = (let e : Ok m ≡ x number_of needs numbered items whole = cc in e ∙ this.1) in
              let one : m ≡ this.0 = cc in
              rw one this.3);
        }

-- ---- a complete answer by a dump

any_place : {A : Type 0} (p : A → Bool) (n : ℕ) (xs : List A) → list_any p (take n xs) ≡ true
    → (i : ℕ) × (suc i ≤ n) × ((y : A) × (slice_get xs i ≡ Some y) × (p y ≡ true))
any_place p zero xs h = cc
any_place p (suc n) [] h = cc
any_place p (suc n) (x ∷ xs) h = elim (true_or_false (p x)) [
  | inl holds ↦ (0, omega arith, (x, refl, holds))
  | inr fails ↦ (let r = any_place p n xs (rw fails at h) in (suc r.0, omega (arith, r.1), (r.2.0, r.2.1, r.2.2)))
]

-- a message that ends a dump but is no single reply is of type 2
type_two : (a two three multi : Bool) → (two || three) ≡ true → a ≡ false → (not a && (not multi || three)) ≡ false
    → two ≡ true
type_two a true three multi ends apart single = refl
type_two true false three multi ends apart single = cc
type_two false false true true ends apart single = cc
type_two false false true false ends apart single = cc
type_two false false false multi ends apart single = cc

or_right : (a b : Bool) → (a || b) ≡ true → (a ≡ true → ⊥) → b ≡ true
or_right true b h not = absurd (not refl)
or_right false b h not = h

single_bound : (f s : ℕ) → min f s ≤ s
single_bound f s = omega arith

-- complete is where the other side's answer has ended too
both_whole : (finished : Bool) (v : Verdict) → whole_verdict finished v ≡ stands.Complete
    → (finished ≡ true) × (v ≡ stands.Complete)
both_whole true stands.Complete h = (refl, refl)
both_whole false stands.Complete h = cc
both_whole finished stands.Pending h = cc
both_whole finished stands.Interrupted h = cc
both_whole finished (stands.Failed c) h = cc
both_whole finished (stands.Lost l) h = cc

module _ {K P : Type 0} where
  -- no acknowledgement or error is complete where none is needed
  answer_refused : (gave : Bool) (m : Nlmsghdr K P) (p : NlPayload K P) → is_answer p ≡ true
      → last_item_of_payload false gave m p ≡ Ok m → ⊥
  answer_refused gave m (payload.Ack e) is same = cc
  answer_refused true m (payload.Err e) is same = cc
  answer_refused false m (payload.Err e) is same = cc
  answer_refused true m (payload.Capped e) is same = cc
  answer_refused false m (payload.Capped e) is same = cc
  answer_refused gave m (payload.Payload e) is same = cc
  answer_refused gave m (payload.DumpExtAck e) is same = cc
  answer_refused gave m payload.Empty is same = cc

module _ {K P : Type 0} (number_of : K → ℕ) (items : List (Item K P)) (answers : AreAnswers number_of items)
    (whole : verdict number_of false true items ≡ stands.Complete) where
  abbrev stop : ℕ
  stop = last number_of false true items whole

  -- the item at the end is of type 3, where it ends a dump
  end_done : (m : Nlmsghdr K P) → slice_get items stop ≡ Some (Ok m)
      → is_last_item number_of answered.Dump (Ok m) ≡ true → EndsDump number_of items
  end_done m there ends =
      let this = message number_of false true items whole in
      let same : Some (Ok m) ≡ Some (x number_of false true items whole) =
      sym there ∙ at number_of false true items whole in
      let eq : Ok m ≡ Ok this.0 = (let e : Ok m ≡ x number_of false true items whole = cc in e ∙ this.1) in
      let one : m ≡ this.0 = cc in
      let given : last_item_of_payload false (single number_of false true items whole) m m.payload ≡ Ok m =
      ap (λ (y : Item K P). last_item false (single number_of false true items whole) y) (eq ∙ sym this.1)
      ∙ (this.2 ∙ sym eq) in
      let three : (number_of m.header.message_type == 3) ≡ true =
      or_right (number_of m.header.message_type == 2) (number_of m.header.message_type == 3) ends
      (λ two. answer_refused (single number_of false true items whole) m m.payload
      (answers stop m there (eqb-true (number_of m.header.message_type) 2 two)) given) in
      (m, there, eqb-true (number_of m.header.message_type) 3 three, rw one this.3)

  -- no item before it does
  none_before : (i : ℕ) (m : Nlmsghdr K P) → nat_lt i stop ≡ true → slice_get items i ≡ Some (Ok m)
      → is_last_item number_of answered.Dump (Ok m) ≡ true → ⊥
  none_before i m before there ends =
      let alone : is_answer m.payload ≡ false = before_first ends_alone items i (Ok m) there
      (before_least i stop (first_place ends_alone items) before (last_least false (first_place ends_alone items)
      (single_place number_of true items))) in
      let apart = before_first (is_single number_of true) items i (Ok m) there
      (before_least i stop (single_place number_of true items) before
      (single_bound (first_place ends_alone items) (single_place number_of true items))) in
      let two : (number_of m.header.message_type == 2) ≡ true =
      type_two (is_answer m.payload) (number_of m.header.message_type == 2) (number_of m.header.message_type == 3)
      (is_multi m.header.flags) ends alone apart in
      let answered_is : is_answer m.payload ≡ true = answers i m there (eqb-true (number_of m.header.message_type) 2 two) in
      true≢false (sym answered_is ∙ alone)

  ends_at_place : (i : ℕ) (y : Item K P) → suc i ≤ suc stop → slice_get items i ≡ Some y
      → is_last_item number_of answered.Dump y ≡ true → EndsDump number_of items
  ends_at_place i (Err e) low there ends = cc
  ends_at_place i (Ok m) low there ends = elim (true_or_false (nat_lt i stop)) [
    | inl before ↦ absurd (none_before i m before there ends)
    | inr end ↦ (let same : i ≡ stop = end_same i stop low end in
        end_done m (ap (λ (n : ℕ). slice_get items n) (sym same) ∙ there) ends)
  ]

  ends_dump : list_any (is_last_item number_of answered.Dump) (given_of number_of false true items) ≡ true
      → EndsDump number_of items
  ends_dump finished =
      let found = any_place (is_last_item number_of answered.Dump) (suc stop) items
      (ap (λ (ys : List (Item K P)). list_any (is_last_item number_of answered.Dump) ys)
      (sym (same_given number_of false true items whole)) ∙ finished) in
      ends_at_place found.0 found.2.0 found.1 found.2.1 found.2.2

pub dump_ended : {K P : Type 0} (number_of : K → ℕ) (items : List (Item K P)) → AreAnswers number_of items
    → verdict_of_items number_of answered.Dump false items ≡ stands.Complete → EndsDump number_of items
dump_ended number_of items answers is =
    let both = both_whole (list_any (is_last_item number_of answered.Dump) (given_of number_of false true items))
    (verdict number_of false true items) is in
    ends_dump number_of items answers both.1 both.0
