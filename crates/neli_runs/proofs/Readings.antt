-- Readings of deliveries, one more at a time.
use Rattle.std.proofs.Common.{ℕ, zero, suc, ◌≡◌, ◌≢◌, ◌≤◌, ◌<◌, Bool, true, false, ◌||◌, List, [], ◌∷◌, ◌++◌, length}
use Rattle.std.proofs.Common.{drop, Some, Result, refl, ap, ◌∙◌, inl, inr, ◌⊎◌, arith}
use Rattle.std.specs.Prelude.{nat_lt, if◌then◌else◌}
use Rattle.std.specs.List.{slice_get}
use Rattle.std.proofs.lemmas.Option.{slice_get_past}
use Rattle.std.proofs.lemmas.Grind.{common_steps}
use Rattle.neli_wire.specs.declared.errors.DeError.{DeError}
use Rattle.neli_deliveries.specs.declared.delivery.Delivery.{Delivery}
use Rattle.neli_deliveries.specs.Readings.{IsReading, Item}
use Rattle.neli_router.specs.declared.reply.Reply.TheVariants as reply
use Rattle.neli_router.specs.Rule.{answer, ends_at, is_single, item_of, last_place, single_place}
use Rattle.neli_runs.specs.Outcomes.{AreReadings, IsNextAnswer, WereAnswers}
use Rattle.neli_router.specs.laws.Places.{answer_gives, answer_grows, last_append, last_step, single_append, single_step}

-- ---- lists

module _ {A : Type 0} where
  pub slice_get_drop : (xs : List A) (i : ℕ) (x : A) (rest : List A) → drop i xs ≡ x ∷ rest → slice_get xs i ≡ Some x
  slice_get_drop [] zero x rest e = cc
  slice_get_drop [] (suc i) x rest e = cc
  slice_get_drop (y ∷ xs) zero x rest e = cc
  slice_get_drop (y ∷ xs) (suc i) x rest e = slice_get_drop xs i x rest e

  pub drop_rest : (xs : List A) (i : ℕ) (x : A) (rest : List A) → drop i xs ≡ x ∷ rest → drop (suc i) xs ≡ rest
  drop_rest [] zero x rest e = cc
  drop_rest [] (suc i) x rest e = cc
  drop_rest (y ∷ xs) zero x rest e = cc
  drop_rest (y ∷ xs) (suc i) x rest e = drop_rest xs i x rest e

  pub drop_within : (xs : List A) (i : ℕ) (x : A) (rest : List A) → drop i xs ≡ x ∷ rest → i < length xs
  drop_within [] zero x rest e = cc
  drop_within [] (suc i) x rest e = cc
  drop_within (y ∷ xs) zero x rest e = omega arith
  drop_within (y ∷ xs) (suc i) x rest e = let h : i < length xs = drop_within xs i x rest e in omega arith

  pub drop_none : (xs : List A) (i : ℕ) → drop i xs ≡ [] → i ≤ length xs → i ≡ length xs
  drop_none [] i e h = omega arith
  drop_none (x ∷ xs) zero e h = cc
  drop_none (x ∷ xs) (suc i) e h = ap suc (drop_none xs i e (omega arith))

  pub drop_append : (i : ℕ) (xs ys : List A) → i ≤ length xs → drop i (xs ++ ys) ≡ drop i xs ++ ys
  drop_append zero xs ys h = refl
  drop_append (suc i) [] ys h = absurd (omega arith)
  drop_append (suc i) (x ∷ xs) ys h = drop_append i xs ys (omega arith)

  pub push_at : (xs : List A) (y : A) → slice_get (xs ++ y ∷ []) (length xs) ≡ Some y
  push_at [] y = refl
  push_at (x ∷ xs) y = push_at xs y

  pub push_other : (xs : List A) (y : A) (k : ℕ) → k ≢ length xs → slice_get (xs ++ y ∷ []) k ≡ slice_get xs k
  push_other [] y zero o = absurd (o refl)
  push_other [] y (suc k) o = refl
  push_other (x ∷ xs) y zero o = refl
  push_other (x ∷ xs) y (suc k) o = push_other xs y k (λ e. o (ap suc e))

  pub length_push : (xs : List A) (y : A) → length (xs ++ y ∷ []) ≡ suc (length xs)
  length_push xs y = grind (arith, common_steps)

  -- the element at a place of a list with one more: of the list, or the one more
  pub pushed_get : (xs : List A) (y x : A) (i : ℕ) → slice_get (xs ++ y ∷ []) i ≡ Some x
      → (slice_get xs i ≡ Some x) ⊎ ((i ≡ length xs) × (x ≡ y))
  pushed_get [] y x zero e = inr (refl, cc)
  pushed_get [] y x (suc i) e = cc
  pushed_get (z ∷ xs) y x zero e = inl e
  pushed_get (z ∷ xs) y x (suc i) e = elim (pushed_get xs y x i e) [ inl a ↦ inl a | inr b ↦ inr (ap suc b.0, b.1) ]

-- ---- readings

module _ {K P V : Type 0} (type_of : ℕ → K) (view : P → V) (size : P → ℕ) (read : List ℕ → Result V DeError) where
  -- more deliveries are added
  pub readings_append : (ds more : List Delivery) (items : List (Item K P))
      → AreReadings type_of view size read ds items → AreReadings type_of view size read (ds ++ more) items
  readings_append ds more [] a = tt
  readings_append [] more (item ∷ items) a = absurd a
  readings_append (d ∷ ds) more (item ∷ items) a = (a.0, readings_append ds more items a.1)

  -- one more is read
  pub readings_push : (ds : List Delivery) (items : List (Item K P)) (d : Delivery) (rest : List Delivery)
      (item : Item K P) → AreReadings type_of view size read ds items → drop (length items) ds ≡ d ∷ rest
      → IsReading type_of view size read d item → AreReadings type_of view size read ds (items ++ item ∷ [])
  readings_push [] [] d rest item a e is = cc
  readings_push (x ∷ ds) [] d rest item a e is = let same : d ≡ x = cc in (rw (← same) is, tt)
  readings_push [] (y ∷ items) d rest item a e is = absurd a
  readings_push (x ∷ ds) (y ∷ items) d rest item a e is = (a.0, readings_push ds items d rest item a.1 e is)

module _ {K P : Type 0} (number_of : K → ℕ) (needs numbered : Bool) where
  -- the answer at the place of one more
  pub answer_push : (readings : List (Item K P)) (item : Item K P)
      → nat_lt (last_place number_of needs numbered readings) (length readings) ≡ false
      → answer number_of needs numbered (readings ++ item ∷ []) (length readings)
      ≡ reply.Item (item_of number_of needs numbered
      (nat_lt (single_place number_of numbered readings) (length readings)) item)
  answer_push readings item still =
      answer_gives number_of numbered needs (readings ++ item ∷ []) (length readings) item (push_at readings item)
      (last_append number_of numbered needs readings (item ∷ []) (length readings) (omega arith) ∙ still)
      ∙ ap (λ after. reply.Item (item_of number_of needs numbered after item))
      (single_append number_of numbered readings (item ∷ []) (length readings) (omega arith))

  -- whether a single reply is among them then
  pub single_push : (readings : List (Item K P)) (item : Item K P)
      → nat_lt (single_place number_of numbered (readings ++ item ∷ [])) (suc (length readings))
      ≡ (nat_lt (single_place number_of numbered readings) (length readings) || is_single number_of numbered item)
  single_push readings item =
      single_step number_of numbered (readings ++ item ∷ []) (length readings) item (push_at readings item)
      ∙ ap (λ b. b || is_single number_of numbered item)
      (single_append number_of numbered readings (item ∷ []) (length readings) (omega arith))

  -- whether they have ended then
  pub last_push : (readings : List (Item K P)) (item : Item K P)
      → nat_lt (last_place number_of needs numbered readings) (length readings) ≡ false
      → nat_lt (last_place number_of needs numbered (readings ++ item ∷ [])) (suc (length readings))
      ≡ ends_at number_of needs numbered (nat_lt (single_place number_of numbered readings) (length readings)) item
  last_push readings item still =
      last_step number_of numbered needs (readings ++ item ∷ []) (length readings) item (push_at readings item)
      (last_append number_of numbered needs readings (item ∷ []) (length readings) (omega arith) ∙ still)
      ∙ ap (λ after. ends_at number_of needs numbered after item)
      (single_append number_of numbered readings (item ∷ []) (length readings) (omega arith))

  -- the items returned so far stay answers
  pub were_grow : (readings more given : List (Item K P)) → WereAnswers number_of needs numbered readings given
      → WereAnswers number_of needs numbered (readings ++ more) given
  were_grow readings more given were = λ i item at. answer_grows number_of numbered needs readings more i item
      (were i item at)

  -- and one more is returned
  pub were_push : (readings given : List (Item K P)) (item : Item K P)
      → WereAnswers number_of needs numbered readings given
      → answer number_of needs numbered readings (length given) ≡ reply.Item item
      → WereAnswers number_of needs numbered readings (given ++ item ∷ [])
  were_push readings given item were is = λ i x at. elim (pushed_get given item x i at) [
    | inl before ↦ were i x before
    | inr now ↦ rw (now.0, now.1) is
  ]

-- ---- what a read returns

module _ {K P V : Type 0} (type_of : ℕ → K) (number_of : K → ℕ) (view : P → V) (size : P → ℕ) (read : List ℕ
    → Result V DeError) (needs numbered : Bool) (ds : List Delivery) (given readings : List (Item K P))
    (are : AreReadings type_of view size read ds readings) (were : WereAnswers number_of needs numbered readings given)
    (count : length given ≡ length readings) where
  -- past all that was read, the end or a wait
  answer_past : answer number_of needs numbered readings (length given)
      ≡ (if nat_lt (last_place number_of needs numbered readings) (length readings) then reply.End else reply.Waits)
  answer_past = rw (slice_get_past readings (length given) (omega (arith, count))) refl

  pub next_end : nat_lt (last_place number_of needs numbered readings) (length readings) ≡ true
      → IsNextAnswer type_of number_of view size read needs numbered ds given reply.End
  next_end over = (readings, are, were, answer_past ∙ rw over refl, λ e. cc)

  pub next_waits : nat_lt (last_place number_of needs numbered readings) (length readings) ≡ false
      → length readings ≡ length ds → IsNextAnswer type_of number_of view size read needs numbered ds given reply.Waits
  next_waits still all = (readings, are, were, answer_past ∙ rw still refl, λ e. all)

  pub next_item : (d : Delivery) (rest : List Delivery) (item : Item K P)
      → nat_lt (last_place number_of needs numbered readings) (length readings) ≡ false
      → drop (length readings) ds ≡ d ∷ rest → IsReading type_of view size read d item
      → IsNextAnswer type_of number_of view size read needs numbered ds given
      (reply.Item (item_of number_of needs numbered
      (nat_lt (single_place number_of numbered readings) (length readings)) item))
  next_item d rest item still at is = (
    readings ++ item ∷ [],
    readings_push type_of view size read ds readings d rest item are at is,
    were_grow number_of needs numbered readings (item ∷ []) given were,
    rw count (answer_push number_of needs numbered readings item still),
    λ e. cc,
  )
