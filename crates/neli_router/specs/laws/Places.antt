-- The one place at which answers end, step by step.
use Rattle.std.proofs.Common.{ℕ, zero, suc, ◌≡◌, ◌≤◌, Bool, true, false, not, ◌||◌, min, List, [], ◌∷◌, ◌++◌, length}
use Rattle.std.proofs.Common.{Option, Some, None, refl, sym, ap, ◌∙◌, inl, inr, ◌⊎◌, arith}
use Rattle.std.specs.Prelude.{nat_lt, ◌==◌, if◌then◌else◌}
use Rattle.std.specs.List.{slice_get}
use Rattle.std.proofs.lemmas.Grind.{common_steps}
use Rattle.std.proofs.lemmas.Bool.Decides.{nat_tests}
use Rattle.neli_deliveries.specs.Readings.{Item}
use Rattle.neli_router.specs.declared.reply.Reply.TheVariants as reply
use Rattle.neli_router.specs.Rule.{answer, answer_at, ends_alone, ends_at, first_place, is_single, item_of, last_item}
use Rattle.neli_router.specs.Rule.{last_place, single_place}

pub lt_suc : (m n : ℕ) → nat_lt (suc m) (suc n) ≡ nat_lt m n
lt_suc m n = grind (arith, nat_tests)

pub lt_zero : (m : ℕ) → nat_lt m 0 ≡ false
lt_zero m = grind (arith, nat_tests)

lt_min : (m n i : ℕ) → nat_lt (min m n) i ≡ (nat_lt m i || nat_lt n i)
lt_min m n i = grind (arith, nat_tests)

or_false_left : (a b : Bool) → (a || b) ≡ false → a ≡ false
or_false_left true b e = cc
or_false_left false b e = refl

or_false_right : (a b : Bool) → (a || b) ≡ false → b ≡ false
or_false_right true b e = cc
or_false_right false b e = e

lt_from_suc : (e i : ℕ) → nat_lt e i ≡ false → nat_lt i e ≡ not (nat_lt e (suc i))
lt_from_suc e i h = grind (arith, nat_tests)

eq_from_suc : (e i : ℕ) → nat_lt e i ≡ false → (i == e) ≡ nat_lt e (suc i)
eq_from_suc e i h = grind (arith, nat_tests)

over_place : (i e : ℕ) → nat_lt e i ≡ true → (nat_lt i e ≡ false) × ((i == e) ≡ false)
over_place i e p = (grind (arith, nat_tests), grind (arith, nat_tests))

pub lt_longer : (e i n : ℕ) → i ≤ n → nat_lt e i ≡ true → nat_lt e n ≡ true
lt_longer e i n h p = grind (arith, nat_tests)

pub true_or_false : (b : Bool) → (b ≡ true) ⊎ (b ≡ false)
true_or_false true = inl refl
true_or_false false = inr refl

-- ---- lists

module _ {A : Type 0} where
  pub slice_front : (xs more : List A) (i : ℕ) (x : A) → slice_get xs i ≡ Some x → slice_get (xs ++ more) i ≡ Some x
  slice_front [] more i x e = cc
  slice_front (y ∷ xs) more zero x e = e
  slice_front (y ∷ xs) more (suc i) x e = slice_front xs more i x e

  pub within_front : (xs : List A) (i : ℕ) (x : A) → slice_get xs i ≡ Some x → suc i ≤ length xs
  within_front [] i x e = cc
  within_front (y ∷ xs) zero x e = omega arith
  within_front (y ∷ xs) (suc i) x e = let h : suc i ≤ length xs = within_front xs i x e in omega arith

  none_past : (xs : List A) (i : ℕ) → slice_get xs i ≡ None → length xs ≤ i
  none_past [] i e = omega arith
  none_past (x ∷ xs) zero e = cc
  none_past (x ∷ xs) (suc i) e = let h : length xs ≤ i = none_past xs i e in omega arith

  longer-front : (xs more : List A) → length xs ≤ length (xs ++ more)
  longer-front xs more = grind (arith, common_steps)

  -- ---- the first that passes

  pub first_append : (p : A → Bool) (xs more : List A) (i : ℕ) → i ≤ length xs
      → nat_lt (first_place p (xs ++ more)) i ≡ nat_lt (first_place p xs) i
  first_append p xs more zero h = lt_zero _ ∙ sym (lt_zero _)
  first_append p [] more (suc i) h = absurd (omega arith)
  first_append p (x ∷ xs) more (suc i) h =
      elim (p x) as (λ b. nat_lt (if b then 0 else suc (first_place p (xs ++ more))) (suc i) ≡ nat_lt (if b then 0
      else suc (first_place p xs)) (suc i))
      [ true ↦ refl | false ↦ lt_suc _ _ ∙ (first_append p xs more i (omega arith) ∙ sym (lt_suc _ _)) ]

  first_step : (p : A → Bool) (xs : List A) (i : ℕ) (x : A) → slice_get xs i ≡ Some x
      → nat_lt (first_place p xs) (suc i) ≡ (nat_lt (first_place p xs) i || p x)
  first_step p [] i x e = cc
  first_step p (y ∷ xs) zero x e =
      let same : y ≡ x = cc in
      rw (← same) (elim (p y) as (λ b. nat_lt (if b then 0 else suc (first_place p xs)) 1
      ≡ (nat_lt (if b then 0 else suc (first_place p xs)) 0 || b)) [
        | true ↦ refl
        | false ↦ grind (
          arith,
          nat_tests,
        )
      ])
  first_step p (y ∷ xs) (suc i) x e =
      elim (p y) as (λ b. nat_lt (if b then 0 else suc (first_place p xs)) (suc (suc i))
      ≡ (nat_lt (if b then 0 else suc (first_place p xs)) (suc i) || p x)) [
        | true ↦ grind (arith, nat_tests)
        | false ↦ lt_suc _ _
            ∙ (first_step p xs i x e ∙ ap (λ b. b || p x) (sym (lt_suc _ _)))
      ]

-- ---- the last place

module _ {K P : Type 0} (number_of : K → ℕ) (numbered : Bool) where
  pub single_append : (items more : List (Item K P)) (i : ℕ) → i ≤ length items
      → nat_lt (single_place number_of numbered (items ++ more)) i ≡ nat_lt (single_place number_of numbered items) i
  single_append items more i h = first_append (is_single number_of numbered) items more i h

  pub single_step : (items : List (Item K P)) (i : ℕ) (item : Item K P) → slice_get items i ≡ Some item
      → nat_lt (single_place number_of numbered items) (suc i)
      ≡ (nat_lt (single_place number_of numbered items) i || is_single number_of numbered item)
  single_step items i item e = first_step (is_single number_of numbered) items i item e

  pub last_append : (needs : Bool) (items more : List (Item K P)) (i : ℕ) → i ≤ length items
      → nat_lt (last_place number_of needs numbered (items ++ more)) i
      ≡ nat_lt (last_place number_of needs numbered items) i
  last_append needs items more zero h = lt_zero _ ∙ sym (lt_zero _)
  last_append true items more (suc i) h =
      let both : (nat_lt (first_place ends_alone (items ++ more)) (suc i) || nat_lt
      (suc (single_place number_of numbered (items ++ more))) (suc i))
      ≡ (nat_lt (first_place ends_alone items) (suc i) || nat_lt (suc (single_place number_of numbered items))
      (suc i)) =
      rw (
        first_append ends_alone items more (suc i) h,
        lt_suc (single_place number_of numbered (items ++ more)) i,
        lt_suc (single_place number_of numbered items) i,
        single_append items more i (omega arith),
      ) refl in
      lt_min _ _ _ ∙ (both ∙ sym (lt_min _ _ _))
  last_append false items more (suc i) h =
      let both : (nat_lt (first_place ends_alone (items ++ more)) (suc i) || nat_lt
      (single_place number_of numbered (items ++ more)) (suc i))
      ≡ (nat_lt (first_place ends_alone items) (suc i) || nat_lt (single_place number_of numbered items) (suc i)) =
      rw (first_append ends_alone items more (suc i) h, single_append items more (suc i) h) refl in
      lt_min _ _ _ ∙ (both ∙ sym (lt_min _ _ _))

  -- not ended before an item: whether they end at it
  pub last_step : (needs : Bool) (items : List (Item K P)) (i : ℕ) (item : Item K P) → slice_get items i ≡ Some item
      → nat_lt (last_place number_of needs numbered items) i ≡ false
      → nat_lt (last_place number_of needs numbered items) (suc i)
      ≡ ends_at number_of needs numbered (nat_lt (single_place number_of numbered items) i) item
  last_step true items i item e still =
      let parts : (nat_lt (first_place ends_alone items) i || nat_lt (suc (single_place number_of numbered items)) i)
      ≡ false = sym (lt_min _ _ _) ∙ still in
      let left : nat_lt (first_place ends_alone items) i ≡ false =
      or_false_left (nat_lt (first_place ends_alone items) i)
      (nat_lt (suc (single_place number_of numbered items)) i) parts in
      lt_min _ _ _ ∙ rw (
        first_step ends_alone items i item e,
        left,
        lt_suc (single_place number_of numbered items) i,
      ) refl
  last_step false items i item e still =
      let parts : (nat_lt (first_place ends_alone items) i || nat_lt (single_place number_of numbered items) i)
      ≡ false = sym (lt_min _ _ _) ∙ still in
      let left : nat_lt (first_place ends_alone items) i ≡ false =
      or_false_left (nat_lt (first_place ends_alone items) i)
      (nat_lt (single_place number_of numbered items) i) parts in
      let right : nat_lt (single_place number_of numbered items) i ≡ false =
      or_false_right (nat_lt (first_place ends_alone items) i)
      (nat_lt (single_place number_of numbered items) i) parts in
      lt_min _ _ _ ∙ rw (first_step ends_alone items i item e, left, single_step items i item e, right) refl

  -- ---- answers

  module _ (needs : Bool) where
    pub answer_gives : (items : List (Item K P)) (i : ℕ) (item : Item K P) → slice_get items i ≡ Some item
        → nat_lt (last_place number_of needs numbered items) i ≡ false
        → answer number_of needs numbered items i ≡ reply.Item
        (item_of number_of needs numbered (nat_lt (single_place number_of numbered items) i) item)
    answer_gives items i item e still =
        let last : nat_lt (last_place number_of needs numbered items) (suc i)
        ≡ ends_at number_of needs numbered (nat_lt (single_place number_of numbered items) i) item =
        last_step needs items i item e still in
        rw e (rw (
          lt_from_suc (last_place number_of needs numbered items) i still,
          eq_from_suc (last_place number_of needs numbered items) i still,
          last,
        )
        (elim (ends_at number_of needs numbered (nat_lt (single_place number_of numbered items) i) item) as
        (λ b. (if not b then reply.Item item else (if b
        then reply.Item (last_item needs (nat_lt (single_place number_of numbered items) i) item) else reply.End))
        ≡ reply.Item (if b then last_item needs (nat_lt (single_place number_of numbered items) i) item else item))
        [ true ↦ refl | false ↦ refl ]))

    not_item : (b : Bool) (x : Item K P) → (if b then reply.End else reply.Waits) ≡ reply.Item x → ⊥
    not_item true x e = cc
    not_item false x e = cc

    answer_front : (items more : List (Item K P)) (i : ℕ) (x : Item K P) (at : Option (Item K P))
        → slice_get items i ≡ at → answer_at number_of needs numbered items i at ≡ reply.Item x
        → answer number_of needs numbered (items ++ more) i ≡ reply.Item x
    answer_front items more i x None e g = absurd (not_item _ x g)
    answer_front items more i x (Some item) e g =
        let inside : suc i ≤ length items = within_front items i item e in
        let inside_i : i ≤ length items = omega arith in
        elim (true_or_false (nat_lt (last_place number_of needs numbered items) i)) [
          | inl over ↦ (let o = over_place i (last_place number_of needs numbered items) over in
              let bad = rw (o.0, o.1) at g in cc)
          | inr still ↦
              (let gave : reply.Item (item_of number_of needs numbered
              (nat_lt (single_place number_of numbered items) i) item)
              ≡ reply.Item x = sym (answer_gives items i item e still)
              ∙ (ap (answer_at number_of needs numbered items i) e ∙ g) in
              answer_gives (items ++ more) i item (slice_front items more i item e)
              (last_append needs items more i inside_i ∙ still) ∙ (rw (single_append items more i inside_i) gave))
        ]

    -- an item stays
    pub answer_grows : (items more : List (Item K P)) (i : ℕ) (x : Item K P)
        → answer number_of needs numbered items i ≡ reply.Item x
        → answer number_of needs numbered (items ++ more) i ≡ reply.Item x
    answer_grows items more i x g = answer_front items more i x (slice_get items i) refl g

    -- past the last place is the end, with or without an item there
    end_past : (items : List (Item K P)) (i : ℕ) (at : Option (Item K P))
        → nat_lt (last_place number_of needs numbered items) i ≡ true
        → nat_lt (last_place number_of needs numbered items) (length items) ≡ true
        → answer_at number_of needs numbered items i at ≡ reply.End
    end_past items i None over within = rw within refl
    end_past items i (Some item) over within = rw (
      (over_place i (last_place number_of needs numbered items) over).0,
      (over_place i (last_place number_of needs numbered items) over).1,
    ) refl

    end_front : (items more : List (Item K P)) (i : ℕ) (at : Option (Item K P)) → slice_get items i ≡ at
        → answer_at number_of needs numbered items i at ≡ reply.End
        → answer number_of needs numbered (items ++ more) i ≡ reply.End
    end_front items more i None e g = elim (true_or_false
        (nat_lt (last_place number_of needs numbered items) (length items))) [
          | inl over ↦
              (let later : nat_lt (last_place number_of needs numbered (items ++ more)) (length items)
              ≡ true = last_append needs items more (length items) (omega arith) ∙ over in
              end_past (items ++ more) i (slice_get (items ++ more) i)
              (lt_longer _ (length items) i (none_past items i e) later)
              (lt_longer _ (length items) (length (items ++ more)) (longer-front items more) later))
          | inr still ↦ (let bad = rw still at g in cc)
        ]
    end_front items more i (Some item) e g =
        let inside : suc i ≤ length items = within_front items i item e in
        let inside_i : i ≤ length items = omega arith in
        elim (true_or_false (nat_lt (last_place number_of needs numbered items) i)) [
          | inl over ↦
              (let later : nat_lt (last_place number_of needs numbered (items ++ more)) i
              ≡ true = last_append needs items more i inside_i ∙ over in
              let longer : length items ≤ length (items ++ more) = longer-front items more in
              end_past (items ++ more) i (slice_get (items ++ more) i) later
              (lt_longer _ i (length (items ++ more)) (omega arith) later))
          | inr still ↦
              (let gave : reply.Item (item_of number_of needs numbered
              (nat_lt (single_place number_of numbered items) i) item)
              ≡ reply.End = sym (answer_gives items i item e still)
              ∙ (ap (answer_at number_of needs numbered items i) e ∙ g) in
              absurd cc)
        ]

    -- so does the end
    pub end_stays : (items more : List (Item K P)) (i : ℕ) → answer number_of needs numbered items i ≡ reply.End
        → answer number_of needs numbered (items ++ more) i ≡ reply.End
    end_stays items more i g = end_front items more i (slice_get items i) refl g
