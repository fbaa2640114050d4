-- How an answer stands, one delivery more at a time.
use Rattle.std.proofs.Common.{ℕ, zero, suc, ◌≡◌, ◌≢◌, ◌≤◌, ◌+◌, ◌-◌, Bool, true, false, not, ◌||◌, ◌&&◌, List, []}
use Rattle.std.proofs.Common.{◌∷◌, ◌++◌, length, take, Option, Some, None, Ok, Err, refl, sym, ap, ap₂, ◌∙◌, inl, inr}
use Rattle.std.proofs.Common.{arith, length-append, pos, ℤ, subst}
use Rattle.std.specs.Prelude.{nat_lt, if◌then◌else◌}
use Rattle.std.specs.List.{list_any, slice_get}
use Rattle.std.specs.Ordering.{int_eq}
use Rattle.std.proofs.Math.Seq.{take-append-add, take-append_seam}
use Rattle.std.proofs.lemmas.Bool.Decides.{nat_tests}
use Rattle.std.proofs.lemmas.List.{take-append-le, take_all}
use Rattle.std.proofs.lemmas.List.Folds.{list_any-append}
use Rattle.std.proofs.lemmas.Option.{slice_get_past}
use Rattle.neli_reader.specs.Framed.{Nlmsghdr}
use Rattle.neli_reader.specs.NlPayload.{NlPayload}
use Rattle.neli_reader.specs.NlPayload.TheVariants as payload
use Rattle.neli_reader.specs.RouterError.{RouterError}
use Rattle.neli_reader.specs.RouterError.TheVariants as router
use Rattle.neli_reader.specs.SocketError.{SocketError}
use Rattle.neli_reader.specs.SocketError.TheVariants as socket
use Rattle.neli_deliveries.specs.Readings.{Item}
use Rattle.neli_router.specs.Rule.{ends_at, is_single, item_of, last_item, last_item_of_payload}
use Rattle.neli_router.specs.Rule.{last_place, single_place}
use Rattle.neli_router.specs.Verdicts.{code_verdict, end_code, error_verdict, fault_verdict, given_of, is_filtered}
use Rattle.neli_router.specs.Verdicts.{is_flagged, last_given, last_verdict, verdict, verdict_at_end, verdict_with}
use Rattle.neli_router.specs.declared.verdict.Verdict.{Verdict}
use Rattle.neli_router.specs.declared.verdict.Verdict.TheVariants as stands
use Rattle.neli_router.specs.laws.Places.{last_append, last_step, lt_longer, single_append, single_step}
use Rattle.neli_router.specs.laws.Places.{true_or_false}

least : (n e : ℕ) → nat_lt e n ≡ false → n ≤ e
least n e h = grind (arith, nat_tests)

at_most : (n e : ℕ) → nat_lt e (suc n) ≡ true → e ≤ n
at_most n e h = grind (arith, nat_tests)

within : (n e : ℕ) → nat_lt e n ≡ true → suc e ≤ n
within n e h = grind (arith, nat_tests)

self_lt : (n : ℕ) → nat_lt n n ≡ false
self_lt n = grind (arith, nat_tests)

lt_next : (n : ℕ) → nat_lt n (suc n) ≡ true
lt_next n = grind (arith, nat_tests)

sum_back : (n e : ℕ) → n ≤ e → e ≡ n + (e - n)
sum_back n e h = omega (arith, h)

last_at : {A : Type 0} (xs : List A) (x : A) → slice_get (xs ++ x ∷ []) (length xs) ≡ Some x
last_at [] x = refl
last_at (y ∷ xs) x = last_at xs x

longer : {A : Type 0} (xs : List A) (x : A) → length (xs ++ x ∷ []) ≡ suc (length xs)
longer xs x = omega (arith, length-append xs (x ∷ []))

append_none : {A : Type 0} (xs : List A) → xs ++ [] ≡ xs
append_none {A = A} [] = refl
append_none {A = A} (x ∷ xs) = ap (λ (ys : List A). x ∷ ys) (append_none xs)

front_same : {A : Type 0} (xs more : List A) (i : ℕ) → suc i ≤ length xs → slice_get (xs ++ more) i ≡ slice_get xs i
front_same [] more i h = absurd (omega (arith, h))
front_same (x ∷ xs) more zero h = refl
front_same (x ∷ xs) more (suc i) h = front_same xs more i (omega (arith, h))

pub item_there : {A : Type 0} (xs : List A) (i : ℕ) → suc i ≤ length xs → (x : A) × (slice_get xs i ≡ Some x)
item_there [] i h = absurd (omega (arith, h))
item_there (x ∷ xs) zero h = (x, refl)
item_there (x ∷ xs) (suc i) h = item_there xs i (omega (arith, h))

pub take_next : {A : Type 0} (xs : List A) (i : ℕ) (x : A) → slice_get xs i ≡ Some x → take (suc i) xs ≡ take i xs ++ x ∷ []
take_next [] i x at = cc
take_next (y ∷ xs) zero x at = (let same : y ≡ x = cc in rw same refl)
take_next (y ∷ xs) (suc i) x at = ap (λ (zs : List _). y ∷ zs) (take_next xs i x at)

module _ {K P : Type 0} (number_of : K → ℕ) (needs numbered : Bool) where
  abbrev end_of : List (Item K P) → ℕ
  end_of items = last_place number_of needs numbered items

  -- where the answers have not ended, nothing is given at the last place yet
  none_last : (items : List (Item K P)) → nat_lt (end_of items) (length items) ≡ false
      → slice_get items (end_of items) ≡ None
  none_last items goes = slice_get_past items (end_of items) (least (length items) (end_of items) goes)

  -- and all items are given as they are
  given_open : (items : List (Item K P)) → nat_lt (end_of items) (length items) ≡ false
      → given_of number_of needs numbered items ≡ items
  given_open items goes = rw (none_last items goes) (rw
      (take_all (end_of items) items (least (length items) (end_of items) goes)) (append_none items))

  verdict_open : (items : List (Item K P)) → nat_lt (end_of items) (length items) ≡ false
      → verdict number_of needs numbered items
      ≡ (if list_any (is_flagged 16) items then stands.Interrupted else stands.Pending)
  verdict_open items goes = rw (given_open items goes, none_last items goes) refl

  -- ---- one more

  combine : (a ended : Bool) (g : Item K P)
      → (if a || (is_flagged 16 g || false) then stands.Interrupted else (if ended then last_verdict g else stands.Pending))
      ≡ verdict_with (if a then stands.Interrupted else stands.Pending) ended g
  combine true ended g = refl
  combine false ended g = elim (is_flagged 16 g) as (λ b. (if b || false then stands.Interrupted
      else (if ended then last_verdict g else stands.Pending))
      ≡ (if b then stands.Interrupted else (if ended then last_verdict g else stands.Pending)))
      [ true ↦ refl | false ↦ refl ]

  module _ (items : List (Item K P)) (x : Item K P) (goes : nat_lt (end_of items) (length items) ≡ false) where
    abbrev after : Bool
    after = nat_lt (single_place number_of numbered items) (length items)

    abbrev all : List (Item K P)
    all = items ++ x ∷ []

    still : nat_lt (end_of all) (length items) ≡ false
    still = last_append number_of numbered needs items (x ∷ []) (length items) (omega arith) ∙ goes

    after_same : nat_lt (single_place number_of numbered all) (length items) ≡ after
    after_same = single_append number_of numbered items (x ∷ []) (length items) (omega arith)

    ends : nat_lt (end_of all) (suc (length items)) ≡ ends_at number_of needs numbered after x
    ends = last_step number_of numbered needs all (length items) x (last_at items x) still
        ∙ ap (λ (b : Bool). ends_at number_of needs numbered b x) after_same

    end_here : ends_at number_of needs numbered after x ≡ true → end_of all ≡ length items
    end_here e =
        let low : length items ≤ end_of all = least (length items) (end_of all) still in
        let high : end_of all ≤ length items = at_most (length items) (end_of all) (ends ∙ e) in
        omega (arith, low, high)

    goes_on : ends_at number_of needs numbered after x ≡ false → nat_lt (end_of all) (length all) ≡ false
    goes_on e = rw (longer items x) (ends ∙ e)

    last_here : ends_at number_of needs numbered after x ≡ true
        → last_given number_of needs numbered all (slice_get all (end_of all)) ≡ last_item needs after x ∷ []
    last_here e = rw (end_here e) (rw (last_at items x) (ap (λ (b : Bool). last_item needs b x ∷ [])
        (ap (λ (n : ℕ). nat_lt (single_place number_of numbered all) n) (end_here e) ∙ after_same)))

    given_here : ends_at number_of needs numbered after x ≡ true
        → given_of number_of needs numbered all ≡ items ++ last_item needs after x ∷ []
    given_here e =
        let front : take (end_of all) all ≡ items = ap (λ (n : ℕ). take n all) (end_here e)
        ∙ take-append_seam items (x ∷ []) in
        rw (last_here e) (ap (λ (ys : List (Item K P)). ys ++ last_item needs after x ∷ []) front)

    verdict_ended : ends_at number_of needs numbered after x ≡ true → verdict number_of needs numbered all
        ≡ verdict_with (if list_any (is_flagged 16) items then stands.Interrupted else stands.Pending) true
        (last_item needs after x)
    verdict_ended e = rw (given_here e, last_here e)
        (rw (list_any-append (is_flagged 16) items (last_item needs after x ∷ []))
        (combine (list_any (is_flagged 16) items) true (last_item needs after x)))

    verdict_goes_on : ends_at number_of needs numbered after x ≡ false → verdict number_of needs numbered all
        ≡ verdict_with (if list_any (is_flagged 16) items then stands.Interrupted else stands.Pending) false x
    verdict_goes_on e = verdict_open all (goes_on e)
        ∙ rw (list_any-append (is_flagged 16) items (x ∷ [])) (combine (list_any (is_flagged 16) items) false x)

    pub verdict_more : verdict number_of needs numbered all
        ≡ verdict_with (verdict number_of needs numbered items) (ends_at number_of needs numbered after x)
        (item_of number_of needs numbered after x)
    verdict_more = elim (true_or_false (ends_at number_of needs numbered after x)) [
      | inl e ↦ rw (e, verdict_open items goes) (verdict_ended e)
      | inr e ↦ rw (e, verdict_open items goes) (verdict_goes_on e)
    ]

    pub given_more : given_of number_of needs numbered all
        ≡ given_of number_of needs numbered items ++ item_of number_of needs numbered after x ∷ []
    given_more = elim (true_or_false (ends_at number_of needs numbered after x)) [
      | inl e ↦ rw (e, given_open items goes) (given_here e)
      | inr e ↦ rw (e, given_open items goes) (given_open all (goes_on e))
    ]

  -- ---- what comes later

  module _ (items more : List (Item K P)) (over : nat_lt (end_of items) (length items) ≡ true) where
    inside : suc (end_of items) ≤ length items
    inside = within (length items) (end_of items) over

    same_end : end_of (items ++ more) ≡ end_of items
    same_end =
        let low : end_of items ≤ end_of (items ++ more) = least (end_of items) (end_of (items ++ more))
        (last_append number_of numbered needs items more (end_of items) (omega (arith, inside))
        ∙ self_lt (end_of items)) in
        let high : end_of (items ++ more) ≤ end_of items = at_most (end_of items) (end_of (items ++ more))
        (last_append number_of numbered needs items more (suc (end_of items)) inside ∙ lt_next (end_of items)) in
        omega (arith, low, high)

    same_single : nat_lt (single_place number_of numbered (items ++ more)) (end_of items)
        ≡ nat_lt (single_place number_of numbered items) (end_of items)
    same_single = single_append number_of numbered items more (end_of items) (omega (arith, inside))

    same_item : slice_get (items ++ more) (end_of items) ≡ slice_get items (end_of items)
    same_item = front_same items more (end_of items) inside

    same_last : (o : Option (Item K P)) → nat_lt (single_place number_of numbered (items ++ more)) (end_of (items ++ more))
        ≡ nat_lt (single_place number_of numbered items) (end_of items)
        → last_given number_of needs numbered (items ++ more) o ≡ last_given number_of needs numbered items o
    same_last None e = refl
    same_last (Some x) e = ap (λ (b : Bool). last_item needs b x ∷ []) e

    last_stays : last_given number_of needs numbered (items ++ more) (slice_get (items ++ more) (end_of (items ++ more)))
        ≡ last_given number_of needs numbered items (slice_get items (end_of items))
    last_stays = rw (← same_item) (rw (← same_end)
        (same_last (slice_get (items ++ more) (end_of (items ++ more)))
        (ap (λ (n : ℕ). nat_lt (single_place number_of numbered (items ++ more)) n) same_end ∙ same_single)))

    given_stays : given_of number_of needs numbered (items ++ more) ≡ given_of number_of needs numbered items
    given_stays =
        let front : take (end_of (items ++ more)) (items ++ more) ≡ take (end_of items) items =
        ap (λ (n : ℕ). take n (items ++ more)) same_end
        ∙ take-append-le (end_of items) items more (omega (arith, inside)) in
        rw (last_stays, front) refl

    pub verdict_over : verdict number_of needs numbered (items ++ more) ≡ verdict number_of needs numbered items
    verdict_over = rw (given_stays, last_stays) refl

  -- a mark that was given stays
  marked_stays : (items more : List (Item K P)) → nat_lt (end_of items) (length items) ≡ false
      → list_any (is_flagged 16) items ≡ true
      → verdict number_of needs numbered (items ++ more) ≡ stands.Interrupted
  marked_stays items more goes marked =
      let n : length items ≤ end_of (items ++ more) = least (length items) (end_of (items ++ more))
      (last_append number_of numbered needs items more (length items) (omega arith) ∙ goes) in
      let cut : take (end_of (items ++ more)) (items ++ more)
      ≡ items ++ take (end_of (items ++ more) - length items) more =
      ap (λ (k : ℕ). take k (items ++ more)) (sum_back (length items) (end_of (items ++ more)) n)
      ∙ take-append-add items more (end_of (items ++ more) - length items) in
      let any : list_any (is_flagged 16) (given_of number_of needs numbered (items ++ more)) ≡ true =
      list_any-append (is_flagged 16) (take (end_of (items ++ more)) (items ++ more)) _
      ∙ rw (cut, list_any-append (is_flagged 16) items (take (end_of (items ++ more) - length items) more), marked) refl in
      rw any refl

  marked_kept : (items more : List (Item K P)) (marked : Bool) → nat_lt (end_of items) (length items) ≡ false
      → list_any (is_flagged 16) items ≡ marked → verdict number_of needs numbered items ≢ stands.Pending
      → verdict number_of needs numbered (items ++ more) ≡ verdict number_of needs numbered items
  marked_kept items more true goes is not =
      marked_stays items more goes is ∙ sym (verdict_open items goes ∙ rw is refl)
  marked_kept items more false goes is not = absurd (not (verdict_open items goes ∙ rw is refl))

  -- so a verdict but pending stays
  pub verdict_stays : (items more : List (Item K P)) → verdict number_of needs numbered items ≢ stands.Pending
      → verdict number_of needs numbered (items ++ more) ≡ verdict number_of needs numbered items
  verdict_stays items more not = elim (true_or_false (nat_lt (end_of items) (length items))) [
    | inl over ↦ verdict_over items more over
    | inr goes ↦ marked_kept items more (list_any (is_flagged 16) items) goes refl not
  ]

-- ---- an answer that has ended

code_ends : (c : ℤ) → code_verdict c ≢ stands.Pending
code_ends c = elim (int_eq c (pos 0)) as (λ b. (if b then stands.Complete else stands.Failed c) ≢ stands.Pending)
    [ true ↦ (λ h. cc) | false ↦ (λ h. cc) ]

-- an error's verdict is neither pending nor complete
fault_fails : (e : SocketError) → (fault_verdict e ≢ stands.Pending) × (fault_verdict e ≢ stands.Complete)
fault_fails (socket.Msg m) = ((λ h. cc), (λ h. cc))
fault_fails (socket.Ser m) = ((λ h. cc), (λ h. cc))
fault_fails (socket.De m) = ((λ h. cc), (λ h. cc))
fault_fails (socket.Io m) = ((λ h. cc), (λ h. cc))
fault_fails socket.Memory = ((λ h. cc), (λ h. cc))

module _ {K P : Type 0} where
  pub error_fails : (e : RouterError K P) → (error_verdict e ≢ stands.Pending) × (error_verdict e ≢ stands.Complete)
  error_fails (router.Msg m) = ((λ h. cc), (λ h. cc))
  error_fails (router.Io m) = ((λ h. cc), (λ h. cc))
  error_fails (router.De m) = ((λ h. cc), (λ h. cc))
  error_fails (router.Socket m) = fault_fails m
  error_fails (router.Nlmsgerr m) = ((λ h. cc), (λ h. cc))
  error_fails (router.Capped m) = ((λ h. cc), (λ h. cc))
  error_fails (router.BadSeqOrPid m) = ((λ h. cc), (λ h. cc))
  error_fails router.NoAck = ((λ h. cc), (λ h. cc))
  error_fails router.UnexpectedAck = ((λ h. cc), (λ h. cc))
  error_fails router.ClosedChannel = ((λ h. cc), (λ h. cc))
  error_fails (router.SeqInUse m) = ((λ h. cc), (λ h. cc))
  error_fails router.Memory = ((λ h. cc), (λ h. cc))

  last_ends : (x : Item K P) → last_verdict x ≢ stands.Pending
  last_ends (Ok m) h = code_ends (end_code m.payload) h
  last_ends (Err e) h = (error_fails e).0 h

  -- a verdict but pending stays
  stays : (v : Verdict) (ended : Bool) (g : Item K P) → v ≢ stands.Pending → v ≡ verdict_with v ended g
  stays stands.Pending ended g not = absurd (not refl)
  stays stands.Complete ended g not = refl
  stays stands.Interrupted ended g not = refl
  stays (stands.Failed c) ended g not = refl
  stays (stands.Lost l) ended g not = refl

  -- what is given at the last place is given again where it stands there
  payload_again : (needs gave : Bool) (m : Nlmsghdr K P) (p : NlPayload K P) → m.payload ≡ p
      → last_item needs gave (last_item_of_payload needs gave m p) ≡ last_item_of_payload needs gave m p
  payload_again true gave m (payload.Ack e) is = rw is refl
  payload_again false gave m (payload.Ack e) is = refl
  payload_again needs true m (payload.Err e) is = refl
  payload_again needs false m (payload.Err e) is = refl
  payload_again needs true m (payload.Capped e) is = refl
  payload_again needs false m (payload.Capped e) is = refl
  payload_again needs true m (payload.Payload e) is = refl
  payload_again needs false m (payload.Payload e) is = rw is refl
  payload_again needs true m (payload.DumpExtAck e) is = refl
  payload_again needs false m (payload.DumpExtAck e) is = rw is refl
  payload_again needs true m payload.Empty is = refl
  payload_again needs false m payload.Empty is = rw is refl

  item_again : (needs gave : Bool) (x : Item K P)
      → last_item needs gave (last_item needs gave x) ≡ last_item needs gave x
  item_again needs gave (Err e) = refl
  item_again needs gave (Ok m) = payload_again needs gave m m.payload refl

  module _ (number_of : K → ℕ) (numbered : Bool) where
    payload_ends : (needs gave : Bool) (m : Nlmsghdr K P) (p : NlPayload K P) → m.payload ≡ p
        → ends_at number_of needs numbered gave (Ok m) ≡ true
        → ends_at number_of needs numbered gave (last_item_of_payload needs gave m p) ≡ true
    payload_ends true gave m (payload.Ack e) is over = over
    payload_ends false gave m (payload.Ack e) is over = refl
    payload_ends needs true m (payload.Err e) is over = refl
    payload_ends needs false m (payload.Err e) is over = refl
    payload_ends needs true m (payload.Capped e) is over = refl
    payload_ends needs false m (payload.Capped e) is over = refl
    payload_ends needs true m (payload.Payload e) is over = refl
    payload_ends needs false m (payload.Payload e) is over = over
    payload_ends needs true m (payload.DumpExtAck e) is over = refl
    payload_ends needs false m (payload.DumpExtAck e) is over = over
    payload_ends needs true m payload.Empty is over = refl
    payload_ends needs false m payload.Empty is over = over

    item_ends : (needs gave : Bool) (x : Item K P) → ends_at number_of needs numbered gave x ≡ true
        → ends_at number_of needs numbered gave (last_item needs gave x) ≡ true
    item_ends needs gave (Err e) over = refl
    item_ends needs gave (Ok m) over = payload_ends needs gave m m.payload refl over

-- ---- one more, whether the answer has ended or not

-- a list, cut round a place
cut_at : {A : Type 0} (xs : List A) (n : ℕ) → suc n ≤ length xs
    → (front : List A) × (x : A) × (rest : List A) × (xs ≡ (front ++ x ∷ []) ++ rest) × (length front ≡ n)
cut_at [] n h = absurd (omega (arith, h))
cut_at (x ∷ xs) zero h = ([], x, xs, refl, refl)
cut_at (y ∷ xs) (suc n) h =
    let c = cut_at xs n (omega (arith, h)) in
    (y ∷ c.0, c.1, c.2, ap (λ (ys : List _). y ∷ ys) c.3, ap suc c.4)

or_false : (b : Bool) → (b || false) ≡ b
or_false true = refl
or_false false = refl

module _ {K P : Type 0} (number_of : K → ℕ) (needs numbered : Bool) where
  -- the answers have ended
  abbrev pub stops : List (Item K P) → Bool
  stops items = nat_lt (last_place number_of needs numbered items) (length items)

  -- a single reply was given
  abbrev pub gave : List (Item K P) → Bool
  gave items = nat_lt (single_place number_of numbered items) (length items)

  over_by : (items : List (Item K P)) (marked : Bool) (last : Option (Item K P)) (x : Item K P) → last ≡ Some x
      → (if marked then stands.Interrupted
      else verdict_at_end number_of needs numbered (last_given number_of needs numbered items last)) ≢ stands.Pending
  over_by items true last x is h = cc
  over_by items false None x is h = cc
  over_by items false (Some y) x is h =
      last_ends (last_item needs (nat_lt (single_place number_of numbered items)
      (last_place number_of needs numbered items)) y) h

  -- an answer that has ended is not pending
  over_stands : (items : List (Item K P)) → stops items ≡ true → verdict number_of needs numbered items ≢ stands.Pending
  over_stands items over =
      let there = item_there items (last_place number_of needs numbered items)
      (within (length items) (last_place number_of needs numbered items) over) in
      over_by items (list_any (is_flagged 16) (given_of number_of needs numbered items))
      (slice_get items (last_place number_of needs numbered items)) there.0 there.1

  pub verdict_next : (items : List (Item K P)) (x : Item K P) → verdict number_of needs numbered (items ++ x ∷ [])
      ≡ verdict_with (verdict number_of needs numbered items) (ends_at number_of needs numbered (gave items) x)
      (item_of number_of needs numbered (gave items) x)
  verdict_next items x = elim (true_or_false (stops items)) [
    | inl over ↦ verdict_over number_of needs numbered items (x ∷ []) over
        ∙ stays (verdict number_of needs numbered items) (ends_at number_of needs numbered (gave items) x)
        (item_of number_of needs numbered (gave items) x) (over_stands items over)
    | inr goes ↦ verdict_more number_of needs numbered items x goes
  ]

  stops_on : (items : List (Item K P)) (x : Item K P) → stops items ≡ true → stops (items ++ x ∷ []) ≡ true
  stops_on items x over = lt_longer _ (length items) (length (items ++ x ∷ [])) (omega (arith, longer items x))
      (last_append number_of numbered needs items (x ∷ []) (length items) (omega arith) ∙ over)

  pub stops_next : (items : List (Item K P)) (x : Item K P) → stops (items ++ x ∷ [])
      ≡ (stops items || ends_at number_of needs numbered (gave items) x)
  stops_next items x = elim (true_or_false (stops items)) [
    | inl over ↦ rw over (stops_on items x over)
    | inr goes ↦ rw (goes, longer items x) (ends number_of needs numbered items x goes)
  ]

  pub gave_next : (items : List (Item K P)) (x : Item K P) → gave (items ++ x ∷ [])
      ≡ (gave items || is_single number_of numbered x)
  gave_next items x = rw (longer items x)
      (single_step number_of numbered (items ++ x ∷ []) (length items) x (last_at items x)
      ∙ ap (λ (b : Bool). b || is_single number_of numbered x)
      (single_append number_of numbered items (x ∷ []) (length items) (omega arith)))

  -- one of the given items passes
  pub any_next : (p : Item K P → Bool) (items : List (Item K P)) (x : Item K P)
      → list_any p (given_of number_of needs numbered (items ++ x ∷ []))
      ≡ (list_any p (given_of number_of needs numbered items) || (not (stops items)
      && p (item_of number_of needs numbered (gave items) x)))
  any_next p items x = elim (true_or_false (stops items)) [
    | inl over ↦ rw (over, given_stays number_of needs numbered items (x ∷ []) over)
        (sym (or_false (list_any p (given_of number_of needs numbered items))))
    | inr goes ↦ rw (goes, given_more number_of needs numbered items x goes)
        (list_any-append p (given_of number_of needs numbered items) (item_of number_of needs numbered (gave items) x ∷ [])
        ∙ ap (λ (b : Bool). list_any p (given_of number_of needs numbered items) || b)
        (or_false (p (item_of number_of needs numbered (gave items) x))))
  ]

  pub filtered_next : (items : List (Item K P)) (x : Item K P) → is_filtered number_of needs numbered (items ++ x ∷ [])
      ≡ (is_filtered number_of needs numbered items || (not (stops items)
      && is_flagged 32 (item_of number_of needs numbered (gave items) x)))
  filtered_next items x = any_next (is_flagged 32) items x

  -- ---- what was given, as a list of its own

  module _ (front : List (Item K P)) (x : Item K P) (goes : stops front ≡ false)
      (e : ends_at number_of needs numbered (gave front) x ≡ true) where
    abbrev given : Item K P
    given = last_item needs (gave front) x

    abbrev those : List (Item K P)
    those = front ++ given ∷ []

    given_those : given_of number_of needs numbered (front ++ x ∷ []) ≡ those
    given_those = given_here number_of needs numbered front x goes e

    same_end_item : item_of number_of needs numbered (gave front) given ≡ given
    same_end_item = rw (item_ends number_of numbered needs (gave front) x e) (item_again needs (gave front) x)

    alike_given : given_of number_of needs numbered those ≡ those
    alike_given = given_more number_of needs numbered front given goes
        ∙ rw (given_open number_of needs numbered front goes, same_end_item) refl

    alike_verdict : verdict number_of needs numbered those ≡ verdict number_of needs numbered (front ++ x ∷ [])
    alike_verdict =
        let v = verdict number_of needs numbered front in
        let first_item : item_of number_of needs numbered (gave front) x ≡ given = rw e refl in
        verdict_more number_of needs numbered front given goes
        ∙ (ap₂ (λ (b : Bool) (y : Item K P). verdict_with v b y)
        (item_ends number_of numbered needs (gave front) x e ∙ sym e) (same_end_item ∙ sym first_item)
        ∙ sym (verdict_more number_of needs numbered front x goes))

  module _ (front : List (Item K P)) (x : Item K P) (rest : List (Item K P))
      (end : last_place number_of needs numbered ((front ++ x ∷ []) ++ rest) ≡ length front) where
    abbrev those_read : List (Item K P)
    those_read = (front ++ x ∷ []) ++ rest

    read_on : nat_lt (last_place number_of needs numbered (front ++ x ∷ [])) (suc (length front)) ≡ true
    read_on = sym (last_append number_of numbered needs (front ++ x ∷ []) rest (suc (length front))
        (omega (arith, longer front x)))
        ∙ (ap (λ (n : ℕ). nat_lt n (suc (length front))) end ∙ lt_next (length front))

    front_goes : stops front ≡ false
    front_goes = sym (last_append number_of numbered needs front (x ∷ []) (length front) (omega arith))
        ∙ (sym (last_append number_of numbered needs (front ++ x ∷ []) rest (length front)
        (omega (arith, longer front x)))
        ∙ (ap (λ (n : ℕ). nat_lt n (length front)) end ∙ self_lt (length front)))

    ends_there : ends_at number_of needs numbered (gave front) x ≡ true
    ends_there = sym (ends number_of needs numbered front x front_goes) ∙ read_on

    over_there : stops (front ++ x ∷ []) ≡ true
    over_there = ap (λ (n : ℕ). nat_lt (last_place number_of needs numbered (front ++ x ∷ [])) n) (longer front x)
        ∙ read_on

    given_first : given_of number_of needs numbered those_read ≡ those front x front_goes ends_there
    given_first = given_stays number_of needs numbered (front ++ x ∷ []) rest over_there
        ∙ given_those front x front_goes ends_there

    cut_given : given_of number_of needs numbered (given_of number_of needs numbered those_read)
        ≡ given_of number_of needs numbered those_read
    cut_given = rw given_first (alike_given front x front_goes ends_there)

    cut_verdict : verdict number_of needs numbered (given_of number_of needs numbered those_read)
        ≡ verdict number_of needs numbered those_read
    cut_verdict = ap (λ (ys : List (Item K P)). verdict number_of needs numbered ys) given_first
        ∙ (alike_verdict front x front_goes ends_there
        ∙ sym (verdict_over number_of needs numbered (front ++ x ∷ []) rest over_there))

  -- what was given is given again, and stands as what was delivered
  abbrev pub AreAlike : List (Item K P) → Type 0
  AreAlike items =
      (given_of number_of needs numbered (given_of number_of needs numbered items) ≡ given_of number_of needs numbered items)
      × (verdict number_of needs numbered (given_of number_of needs numbered items) ≡ verdict number_of needs numbered items)

  pub given_alike : (items : List (Item K P)) → AreAlike items
  given_alike items = elim (true_or_false (stops items)) [
    | inl over ↦ (let c = cut_at items (last_place number_of needs numbered items)
        (within (length items) (last_place number_of needs numbered items) over) in
        let end : last_place number_of needs numbered ((c.0 ++ c.1 ∷ []) ++ c.2) ≡ length c.0 =
        ap (λ (ys : List (Item K P)). last_place number_of needs numbered ys) (sym c.3) ∙ sym c.4 in
        subst (λ (ys : List (Item K P)). AreAlike ys) (sym c.3)
        (cut_given c.0 c.1 c.2 end, cut_verdict c.0 c.1 c.2 end))
    | inr goes ↦ (
      ap (λ (ys : List (Item K P)). given_of number_of needs numbered ys) (given_open number_of needs numbered items goes),
      ap (λ (ys : List (Item K P)). verdict number_of needs numbered ys) (given_open number_of needs numbered items goes),
    )
  ]
