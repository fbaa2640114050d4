-- Items of a handle, one after the other, and where they end.
use Rattle.std.proofs.Common.{ℕ, suc, ◌≡◌, Bool, true, false, min, List, [], ◌∷◌, ◌++◌, length}
use Rattle.std.proofs.Common.{Option, Some, None, Ok, Err, refl, sym, ap, subst, ◌∙◌, arith}
use Rattle.std.specs.Prelude.{⊤, nat_lt, ◌==◌}
use Rattle.std.specs.List.{list_any, slice_get}
use Rattle.std.proofs.lemmas.Bool.Decides.{nat_tests}
use Rattle.neli_reader.specs.Framed.{Nlmsghdr}
use Rattle.neli_reader.specs.NlPayload.{NlPayload}
use Rattle.neli_reader.specs.NlPayload.TheVariants as payload
use Rattle.neli_runs.specs.Reply.{Reply}
use Rattle.neli_runs.specs.Reply.TheVariants as reply
use Rattle.neli_deliveries.specs.Readings.{Item}
use Rattle.neli_runs.specs.Rule.{answer, answer_at, ends_alone, first_place, is_answer}
use Rattle.neli_runs.specs.Rule.{is_single, last_item_of_payload, last_item, last_place, single_place}
use Rattle.neli_runs.specs.Outcomes.{WereAnswers}
use Rattle.neli_kernel_laws.specs.Turns.{IsInTurn, IsReplyOrEnd, is_err}

lt_suc : (m n : ℕ) → nat_lt (suc m) (suc n) ≡ nat_lt m n
lt_suc m n = grind (arith, nat_tests)

eq_suc : (m n : ℕ) → (suc m == suc n) ≡ (m == n)
eq_suc m n = grind (arith, nat_tests)

suc_zero : (m : ℕ) → (suc m == 0) ≡ false
suc_zero m = grind (arith, nat_tests)

lt_zero : (m : ℕ) → nat_lt m 0 ≡ false
lt_zero m = grind (arith, nat_tests)

suc_lt : (m : ℕ) → nat_lt 0 (suc m) ≡ true
suc_lt m = grind (arith, nat_tests)

min_suc : (m n : ℕ) → min (suc m) (suc n) ≡ suc (min m n)
min_suc m n = grind (arith, nat_tests)

min_zero : (m : ℕ) → min 0 m ≡ 0
min_zero m = grind (arith, nat_tests)

zero_min : (m : ℕ) → min m 0 ≡ 0
zero_min m = grind (arith, nat_tests)

module _ {K P : Type 0} (number_of : K → ℕ) (needs numbered : Bool) where
  abbrev last_of : List (Item K P) → ℕ
  last_of = last_place number_of needs numbered

  abbrev answer_of : List (Item K P) → ℕ → Reply K P
  answer_of = answer number_of needs numbered

  -- an item that does not end the answers stands before those of the others
  quiet-last : (x : Item K P) (xs : List (Item K P)) → ends_alone x ≡ false → is_single number_of numbered x ≡ false
      → last_of (x ∷ xs) ≡ suc (last_of xs)
  quiet-last x xs alone single = elim needs as (λ b. last_place number_of b numbered (x ∷ xs)
      ≡ suc (last_place number_of b numbered xs)) [
        | true ↦ rw (alone, single) (min_suc _ _)
        | false ↦ rw (alone, single) (min_suc _ _)
      ]

  quiet-single : (x : Item K P) (xs : List (Item K P)) → is_single number_of numbered x ≡ false
      → single_place number_of numbered (x ∷ xs) ≡ suc (single_place number_of numbered xs)
  quiet-single x xs single = rw single refl

  pub quiet-zero : (x : Item K P) (xs : List (Item K P)) → ends_alone x ≡ false → is_single number_of numbered x ≡ false
      → answer_of (x ∷ xs) 0 ≡ reply.Item x
  quiet-zero x xs alone single = rw (quiet-last x xs alone single, suc_lt (last_of xs)) refl

  quiet-suc-at : (x : Item K P) (xs : List (Item K P)) (i : ℕ) (item : Option (Item K P)) → ends_alone x ≡ false
      → is_single number_of numbered x ≡ false → answer_at number_of needs numbered (x ∷ xs) (suc i) item
      ≡ answer_at number_of needs numbered xs i item
  quiet-suc-at x xs i None alone single = rw (quiet-last x xs alone single, lt_suc (last_of xs) (length xs)) refl
  quiet-suc-at x xs i (Some item) alone single =
      rw (
        quiet-last x xs alone single,
        quiet-single x xs single,
        lt_suc i (last_of xs),
        eq_suc i (last_of xs),
        lt_suc (single_place number_of numbered xs) i,
      ) refl

  pub quiet-suc : (x : Item K P) (xs : List (Item K P)) (i : ℕ) → ends_alone x ≡ false
      → is_single number_of numbered x ≡ false
      → answer_of (x ∷ xs) (suc i) ≡ answer_of xs i
  quiet-suc x xs i alone single = quiet-suc-at x xs i (slice_get xs i) alone single

  -- if the answers end at the first item
  pub over-zero : (x : Item K P) (xs : List (Item K P)) → last_of (x ∷ xs) ≡ 0
      → answer_of (x ∷ xs) 0 ≡ reply.Item (last_item needs false x)
  over-zero x xs is = rw (is, lt_zero (single_place number_of numbered (x ∷ xs))) refl

  over-suc-at : (x : Item K P) (xs : List (Item K P)) (i : ℕ) (item : Option (Item K P)) → last_of (x ∷ xs) ≡ 0
      → answer_at number_of needs numbered (x ∷ xs) (suc i) item ≡ reply.End
  over-suc-at x xs i None is = rw (is, suc_lt (length xs)) refl
  over-suc-at x xs i (Some item) is = rw (is, lt_zero (suc i), suc_zero i) refl

  pub over-suc : (x : Item K P) (xs : List (Item K P)) (i : ℕ) → last_of (x ∷ xs) ≡ 0
      → answer_of (x ∷ xs) (suc i) ≡ reply.End
  over-suc x xs i is = over-suc-at x xs i (slice_get xs i) is

  pub alone-last : (x : Item K P) (xs : List (Item K P)) → ends_alone x ≡ true → last_of (x ∷ xs) ≡ 0
  alone-last x xs alone = rw alone (min_zero _)

  pub waits : (i : ℕ) → answer_of [] i ≡ reply.Waits
  waits i = elim needs as (λ b. answer {P = P} number_of b numbered [] i ≡ reply.Waits) [ true ↦ refl | false ↦ refl ]

-- a single reply ends them if no acknowledgement is needed
pub single-last : {K P : Type 0} (number_of : K → ℕ) (x : Item K P) (xs : List (Item K P))
    → is_single number_of true x ≡ true → last_place number_of false true (x ∷ xs) ≡ 0
single-last number_of x xs single = rw single (zero_min _)

-- ---- reads of a handle with these deliveries

module _ {U K P : Type 0} (IsRead : U → Item K P → Type 0) where
  -- the items are the readings of the first of these
  abbrev pub AreRead : List U → List (Item K P) → Type 0
  AreRead us [] = ⊤
  AreRead [] (item ∷ items) = ⊥
  AreRead (u ∷ us) (item ∷ items) = IsRead u item × AreRead us items

  -- the reply to the next read
  abbrev pub IsNext : (K → ℕ) → Bool → List U → List (Item K P) → Reply K P → Type 0
  IsNext number_of needs us given r =
      (readings : List (Item K P)) × AreRead us readings × WereAnswers number_of needs true readings given
      × (answer number_of needs true readings (length given) ≡ r)
      × (r ≡ reply.Waits → length readings ≡ length us)

module _ {U K P : Type 0} (number_of : K → ℕ) (needs : Bool) (IsRead : U → Item K P → Type 0) where
  -- every read returns the reply of its turn, whatever arrived later
  abbrev pub InTurn : List U → List U → Type 0
  InTurn us later = (given : List (Item K P)) (r : Reply K P) → IsNext IsRead number_of needs (us ++ later) given r
      → IsInTurn IsRead us given r

  -- a message of this kind, typed, does not end the answers
  abbrev pub IsQuiet : U → Type 0
  IsQuiet u = (m : Nlmsghdr K P) → IsRead u (Ok m) → (ends_alone {K = K} {P = P} (Ok m) ≡ false)
      × (is_single number_of true (Ok m) ≡ false)

  -- the reading of it ends them, and is returned as it is or as an error
  abbrev pub IsOver : U → Type 0
  IsOver u = (x : Item K P) (xs : List (Item K P)) → IsRead u x → (last_place number_of needs true (x ∷ xs) ≡ 0)
      × (last_item needs false x ≡ last_item true false x)

pub zero_not_suc : (n : ℕ) → 0 ≡ suc n → ⊥
zero_not_suc n e = cc

pub suc_is : (m n : ℕ) → suc m ≡ suc n → m ≡ n
suc_is m n e = cc

-- an item that does not end the answers is returned as it is
quiet-by : {K P : Type 0} (m : Nlmsghdr K P) (p : NlPayload K P) → is_answer p ≡ false → last_item_of_payload true false m p ≡ Ok m
quiet-by m (payload.Ack e) alone = refl
quiet-by m (payload.Err e) alone = cc
quiet-by m (payload.Capped e) alone = cc
quiet-by m (payload.DumpExtAck e) alone = refl
quiet-by m (payload.Payload p) alone = refl
quiet-by m payload.Empty alone = refl

quiet-last_item : {K P : Type 0} (m : Nlmsghdr K P) → is_answer m.payload ≡ false → Ok m ≡ last_item true false (Ok m)
quiet-last_item m alone = sym (quiet-by m m.payload alone)

pub item_is : {K P : Type 0} (x y : Item K P) → reply.Item x ≡ reply.Item y → x ≡ y
item_is x y e = cc

past-waits : {K P : Type 0} (number_of : K → ℕ) (needs : Bool) (i n : ℕ) (r : Reply K P)
    → answer number_of needs true [] i ≡ r → (r ≡ reply.Waits → 0 ≡ suc n) → ⊥
past-waits number_of needs i n r is none = let w : 0 ≡ suc n = none (sym is ∙ waits number_of needs true i) in cc

ended : {U K P : Type 0} (IsRead : U → Item K P → Type 0) (b : Bool) (r : Reply K P) → r ≡ reply.End
    → IsReplyOrEnd IsRead b None r
ended IsRead true r is = is
ended IsRead false r is = is

module _ {U K P : Type 0} (number_of : K → ℕ) (needs : Bool) (IsRead : U → Item K P → Type 0) where
  pub quiet-turn : (u : U) (us later : List U) → IsQuiet number_of needs IsRead u
      → InTurn number_of needs IsRead us later
      → InTurn number_of needs IsRead (u ∷ us) later
  quiet-turn u us later quiet rest given r ([], are, were, is, none) =
      absurd (past-waits number_of needs (length given) (length (us ++ later)) r is none)
  quiet-turn u us later quiet rest [] r (Ok m ∷ xs, are, were, is, none) =
      let q = quiet m are.0 in
      let here : r ≡ reply.Item (Ok m) = sym is ∙ quiet-zero number_of needs true (Ok m) xs q.0 q.1 in
      (Ok m, (Ok m, are.0, quiet-last_item m q.0), here)
  quiet-turn u us later quiet rest [] r (Err e ∷ xs, are, were, is, none) = (
    Err e,
    (Err e, are.0, refl),
    sym is ∙ over-zero number_of needs true (Err e) xs
        (alone-last number_of needs true (Err e) xs refl),
  )
  quiet-turn u us later quiet rest (g ∷ given) r (Ok m ∷ xs, are, were, is, none) =
      let q = quiet m are.0 in
      let same : Ok m ≡ g = item_is _ _ (sym (quiet-zero number_of needs true (Ok m) xs q.0 q.1) ∙ were 0 g refl) in
      let later = rest given r (
        xs,
        are.1,
        λ i item at. sym (quiet-suc number_of needs true (Ok m) xs i q.0 q.1)
            ∙ were (suc i) item at,
        sym (quiet-suc number_of needs true (Ok m) xs (length given) q.0 q.1) ∙ is,
        λ w. suc_is _ _ (none w),
      ) in
      subst (λ (y : Item K P). IsInTurn IsRead (u ∷ us) (y ∷ given) r) same later
  quiet-turn u us later quiet rest (g ∷ given) r (Err e ∷ xs, are, were, is, none) =
      let over = alone-last number_of needs true (Err e) xs refl in
      let same : Err e ≡ g = item_is _ _ (sym (over-zero number_of needs true (Err e) xs over) ∙ were 0 g refl) in
      subst (λ (y : Item K P). IsInTurn IsRead (u ∷ us) (y ∷ given) r) same (sym is
      ∙ over-suc number_of needs true (Err e) xs (length given) over)

  pub over-turn : (u : U) (later : List U) → IsOver number_of needs IsRead u
      → InTurn number_of needs IsRead (u ∷ []) later
  over-turn u later over given r ([], are, were, is, none) =
      absurd (past-waits number_of needs (length given) (length later) r is none)
  over-turn u later over [] r (x ∷ xs, are, were, is, none) =
      let o = over x xs are.0 in (
        last_item true false x,
        (x, are.0, refl),
        sym is ∙ over-zero number_of needs true x xs o.0
            ∙ ap (λ (y : Item K P). reply.Item y) o.1,
      )
  over-turn u later over (g ∷ given) r (x ∷ xs, are, were, is, none) =
      ended IsRead (list_any is_err (g ∷ given)) r (sym is
      ∙ over-suc number_of needs true x xs (length given) (over x xs are.0).0)

-- a single reply, and the item after it, if an acknowledgement is needed
module _ {K P : Type 0} (number_of : K → ℕ) (x : Item K P) (alone : ends_alone x ≡ false)
    (single : is_single number_of true x ≡ true) where
  pair-first : (xs : List (Item K P)) → answer number_of true true (x ∷ xs) 0 ≡ reply.Item x
  pair-first xs =
      let place : last_place number_of true true (x ∷ xs) ≡ suc (min (first_place ends_alone xs) 0) =
      rw (alone, single) (min_suc _ _) in
      rw (place, suc_lt (min (first_place ends_alone xs) 0)) refl

  pub pair-waits : (i : ℕ) → answer number_of true true (x ∷ []) (suc i) ≡ reply.Waits
  pair-waits i = rw (alone, single) refl

  module _ (y : Item K P) (ys : List (Item K P)) where
    pair-last-by : (b : Bool) → ends_alone y ≡ b → last_place number_of true true (x ∷ y ∷ ys) ≡ 1
    pair-last-by true last = rw (alone, single, last) refl
    pair-last-by false last = rw (alone, single, last) (min_suc _ _ ∙ ap (λ (n : ℕ). suc n) (zero_min _))

    pair-last : last_place number_of true true (x ∷ y ∷ ys) ≡ 1
    pair-last = pair-last-by (ends_alone y) refl

    pub pair-second : answer number_of true true (x ∷ y ∷ ys) 1 ≡ reply.Item (last_item true true y)
    pair-second = rw (pair-last, single) refl

    pair-past-at : (i : ℕ) (item : Option (Item K P))
        → answer_at number_of true true (x ∷ y ∷ ys) (suc (suc i)) item ≡ reply.End
    pair-past-at i None = rw (pair-last, lt_suc 0 (suc (length ys)), suc_lt (length ys)) refl
    pair-past-at i (Some item) =
        rw (pair-last, lt_suc (suc i) 0, lt_zero (suc i), eq_suc (suc i) 0, suc_zero i) refl

    pub pair-past : (i : ℕ) → answer number_of true true (x ∷ y ∷ ys) (suc (suc i)) ≡ reply.End
    pair-past i = pair-past-at i (slice_get ys i)

-- a single reply, and the acknowledgement after it
module _ {U K P : Type 0} (number_of : K → ℕ) (IsRead : U → Item K P → Type 0) (u a : U)
    (single : (m : Nlmsghdr K P) → IsRead u (Ok m) → (ends_alone {K = K} {P = P} (Ok m) ≡ false)
    × (is_single number_of true (Ok m) ≡ true))
    (last : (y : Item K P) → IsRead a y → (ends_alone y ≡ true)
    × (last_item true true y ≡ last_item true false y)) where
  pub pair-turn : (later : List U) → InTurn number_of true IsRead (u ∷ a ∷ []) later
  pair-turn later given r ([], are, were, is, none) =
      absurd (past-waits number_of true (length given) (length (a ∷ later)) r is none)
  pair-turn later [] r (Ok m ∷ xs, are, were, is, none) = (
    Ok m,
    (Ok m, are.0, quiet-last_item m (single m are.0).0),
    sym is
        ∙ pair-first number_of (Ok m) (single m are.0).0 (single m are.0).1 xs,
  )
  pair-turn later [] r (Err e ∷ xs, are, were, is, none) = (
    Err e,
    (Err e, are.0, refl),
    sym is ∙ over-zero number_of true true (Err e) xs
        (alone-last number_of true true (Err e) xs refl),
  )
  pair-turn later (g ∷ given) r (Ok m ∷ [], are, were, is, none) =
      absurd (zero_not_suc (length later) (suc_is 0 (suc (length later)) (none (sym is
      ∙ pair-waits number_of (Ok m) (single m are.0).0 (single m are.0).1 (length given)))))
  pair-turn later (g ∷ []) r (Ok m ∷ y ∷ ys, are, were, is, none) =
      let same : Ok m ≡ g = item_is _ _ (sym (pair-first number_of (Ok m) (single m are.0).0 (single m are.0).1
      (y ∷ ys)) ∙ were 0 g refl) in
      let here : IsInTurn IsRead (u ∷ a ∷ []) (Ok m ∷ []) r = (
        last_item true false y,
        (y, are.1.0, refl),
        sym is
            ∙ pair-second number_of (Ok m) (single m are.0).0 (single m are.0).1 y ys
            ∙ ap (λ (x : Item K P). reply.Item x) (last y are.1.0).1,
      ) in
      subst (λ (x : Item K P). IsInTurn IsRead (u ∷ a ∷ []) (x ∷ []) r) same here
  pair-turn later (g ∷ g' ∷ given) r (Ok m ∷ y ∷ ys, are, were, is, none) =
      ended IsRead (list_any is_err (g ∷ g' ∷ given)) r (sym is
      ∙ pair-past number_of (Ok m) (single m are.0).0 (single m are.0).1 y ys (length given))
  pair-turn later (g ∷ given) r (Err e ∷ xs, are, were, is, none) =
      let over = alone-last number_of true true (Err e) xs refl in
      let same : Err e ≡ g = item_is _ _ (sym (over-zero number_of true true (Err e) xs over) ∙ were 0 g refl) in
      subst (λ (y : Item K P). IsInTurn IsRead (u ∷ a ∷ []) (y ∷ given) r) same (sym is
      ∙ over-suc number_of true true (Err e) xs (length given) over)
