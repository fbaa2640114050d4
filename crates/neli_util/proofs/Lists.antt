-- Lists of numbers: which numbers a filter, a range or a longer list has.
use Rattle.std.proofs.Common.{◌≡◌, ℕ, ◌+◌, ◌-◌, ◌<◌, ◌≤◌, ◌≢◌, Bool, true, false, not, ◌&&◌, ◌||◌, cond, eqb, ltb, leb}
use Rattle.std.proofs.Common.{List, [], ◌∷◌, ◌++◌, get_or, length, refl, sym, ap, ◌∙◌, arith, append_assoc, zero, suc}
use Rattle.std.proofs.Common.{inl, inr}
use Rattle.std.specs.List.{All, filter, range_with_len}
use Rattle.std.proofs.lemmas.Bool.{eqb-true, cases_lt, true≢false, lt-ltb, eq-eqb, and_from, not_from_false}
use Rattle.std.proofs.lemmas.List.FromFn.{length-range_with_len, get_or-range_with_len}
use Rattle.std.specs.List.Sorted.{IsStrictlyIncreasing}
use Rattle.std.proofs.lemmas.Bool.Decides.{nat_tests}
use Rattle.std.proofs.lemmas.List.{append-nil}
use Rattle.std.proofs.lemmas.List.Elements.{All-head, All-tail, All-cons, All-nil, All-weaker, filter-append}
use Rattle.std.proofs.lemmas.List.Folds.{list_any-append, list_any_at}
use Rattle.std.proofs.lemmas.Map.Views.{any-filter_same}
use Rattle.neli_util.specs.Groups.{has, firsts, lacking, with_added}

-- a filtered list has a number that passes, if the list has it
pub has-filter : (p : ℕ → Bool) (xs : List ℕ) (n : ℕ) → has (filter p xs) n ≡ (p n && has xs n)
has-filter p xs n = any-filter_same (λ x. eqb x n) p (p n) (λ k e. ap p (eqb-true k n e)) xs

-- a joined list has what either has
pub has-append : (xs ys : List ℕ) (n : ℕ) → has (xs ++ ys) n ≡ (has xs n || has ys n)
has-append xs ys n = list_any-append (λ x. eqb x n) xs ys

-- one filter after another passes what both do
pub filter-filter : (p q : ℕ → Bool) (xs : List ℕ) → filter q (filter p xs) ≡ filter (λ x. p x && q x) xs
filter-filter p q [] = refl
filter-filter p q (x ∷ xs) =
    let step : (b : Bool) → filter q (cond b (x ∷ filter p xs) (filter p xs))
    ≡ cond (b && q x) (x ∷ filter (λ y. p y && q y) xs) (filter (λ y. p y && q y) xs) =
    λ b. elim b as (λ v. filter q (cond v (x ∷ filter p xs) (filter p xs))
    ≡ cond (v && q x) (x ∷ filter (λ y. p y && q y) xs) (filter (λ y. p y && q y) xs)) [
      | true ↦ ap
          (λ ys. cond (q x) (x ∷ ys) ys) (filter-filter p q xs)
      | false ↦ filter-filter p q xs
    ] in
    step (p x)

-- two tests that agree on a list's elements keep the same ones
pub filter_agree_on : (p q : ℕ → Bool) (xs : List ℕ) → All (λ x. p x ≡ q x) xs → filter p xs ≡ filter q xs
filter_agree_on p q [] h = refl
filter_agree_on p q (x ∷ xs) h =
    let rest = filter_agree_on p q xs (All-tail (λ x. p x ≡ q x) x xs h) in
    ap (λ b. cond b (x ∷ filter p xs) (filter p xs)) (All-head (λ x. p x ≡ q x) x xs h)
    ∙ ap (λ ys. cond (q x) (x ∷ ys) ys) rest

-- a test that no element passes keeps none
pub filter_none : (p : ℕ → Bool) (xs : List ℕ) → All (λ x. p x ≡ false) xs → filter p xs ≡ []
filter_none p [] h = refl
filter_none p (x ∷ xs) h =
    ap (λ b. cond b (x ∷ filter p xs) (filter p xs)) (All-head (λ x. p x ≡ false) x xs h)
    ∙ filter_none p xs (All-tail (λ x. p x ≡ false) x xs h)

-- ---- ranges

-- a range in two parts
pub range-append : (m a n : ℕ) → range_with_len a (m + n) ≡ range_with_len a m ++ range_with_len (a + m) n
range-append zero a n = ap (range_with_len a) (omega arith) ∙ ap (λ k. range_with_len k n) (omega arith)
range-append (suc m) a n =
    let longer : suc m + n ≡ suc (m + n) = omega arith in
    let next : a + 1 + m ≡ a + suc m = omega arith in
    ap (range_with_len a) longer ∙ ap (λ xs. a ∷ xs) (range-append m (a + 1) n
    ∙ ap (λ k. range_with_len (a + 1) m ++ range_with_len k n) next)

-- the numbers of a range are from its start and below its end
pub range_within : (n a : ℕ) → All (λ k. (a ≤ k) × (k < a + n)) (range_with_len a n)
range_within zero a = All-nil (λ k. (a ≤ k) × (k < a + zero))
range_within (suc n) a =
    All-cons (λ k. (a ≤ k) × (k < a + suc n)) a (range_with_len (a + 1) n) (omega arith, omega arith)
    (All-weaker (λ k. (a + 1 ≤ k) × (k < a + 1 + n)) (λ k. (a ≤ k) × (k < a + suc n))
    (λ k h. (omega (arith, h.0), omega (arith, h.1))) (range_with_len (a + 1) n) (range_within n (a + 1)))

eqb_step : (a k n : ℕ) → (eqb a k || (leb (a + 1) k && ltb k (a + 1 + n))) ≡ (leb a k && ltb k (a + suc n))
eqb_step a k n = grind (arith, nat_tests)

range_of_none : (a k : ℕ) → false ≡ (leb a k && ltb k (a + 0))
range_of_none a k = grind (arith, nat_tests)

-- which numbers a range has
pub has-range : (n a k : ℕ) → has (range_with_len a n) k ≡ (leb a k && ltb k (a + n))
has-range zero a k = range_of_none a k
has-range (suc n) a k =
    let step : (eqb a k || (leb (a + 1) k && ltb k (a + 1 + n))) ≡ (leb a k && ltb k (a + suc n)) = eqb_step a k n in
    ap (λ b. eqb a k || b) (has-range n (a + 1) k) ∙ step

-- one more number of a range is kept or not
pub filter_range_more : (p : ℕ → Bool) (n : ℕ) → filter p (range_with_len 1 (n + 1))
    ≡ filter p (range_with_len 1 n) ++ cond (p (n + 1)) ((n + 1) ∷ []) []
filter_range_more p n =
    let next : 1 + n ≡ n + 1 = omega arith in
    ap (filter p) (range-append n 1 1) ∙ filter-append p (range_with_len 1 n) (range_with_len (1 + n) 1)
    ∙ ap (λ k. filter p (range_with_len 1 n) ++ cond (p k) (k ∷ []) []) next

-- a longer range has no more numbers that pass, if none passes past the shorter one
filter_range_longer : (p : ℕ → Bool) (m d : ℕ) → ((n : ℕ) → m < n → p n ≡ false)
    → filter p (range_with_len 1 (m + d)) ≡ filter p (range_with_len 1 m)
filter_range_longer p m d above =
    let none = filter_none p (range_with_len (1 + m) d)
    (All-weaker (λ k. (1 + m ≤ k) × (k < 1 + m + d)) (λ k. p k ≡ false) (λ k h. above k (omega (arith, h.0)))
    (range_with_len (1 + m) d) (range_within d (1 + m))) in
    ap (filter p) (range-append m 1 d) ∙ filter-append p (range_with_len 1 m) (range_with_len (1 + m) d)
    ∙ ap (λ xs. filter p (range_with_len 1 m) ++ xs) none ∙ append-nil (filter p (range_with_len 1 m))

-- two ranges have the same numbers that pass, if none passes past either
pub filter_ranges : (p : ℕ → Bool) (m n : ℕ) → ((k : ℕ) → m < k → p k ≡ false) → ((k : ℕ) → n < k → p k ≡ false)
    → filter p (range_with_len 1 m) ≡ filter p (range_with_len 1 n)
filter_ranges p m n past_m past_n =
    elim (cases_lt m n) [
      | inl h ↦ let e : m + (n - m) ≡ n = omega arith in
          sym (filter_range_longer p m (n - m) past_m) ∙ ap (λ k. filter p (range_with_len 1 k)) e
      | inr h ↦ let e : n + (m - n) ≡ m = omega arith in
          sym (ap (λ k. filter p (range_with_len 1 k)) e) ∙ filter_range_longer p n (m - n) past_n
    ]

-- a range rises
pub range_rises : (a n : ℕ) → IsStrictlyIncreasing (range_with_len a n)
range_rises a n k h =
    let long = length-range_with_len a n in
    omega (arith, get_or-range_with_len a n k 0 (omega arith), get_or-range_with_len a n (k + 1) 0 (omega arith))

-- ---- each number once

-- a number is the first or follows it
eqb_firsts : (m n : ℕ) (b : Bool) → (eqb m n || (not (eqb n m) && b)) ≡ (eqb m n || b)
eqb_firsts m n b = grind (arith, nat_tests)

-- a list's numbers, each once, are the same numbers
pub has-firsts : (ns : List ℕ) (n : ℕ) → has (firsts ns) n ≡ has ns n
has-firsts [] n = refl
has-firsts (m ∷ ns) n =
    ap (λ b. eqb m n || b) (has-filter (λ k. not (eqb k m)) (firsts ns) n
    ∙ ap (λ b. not (eqb n m) && b) (has-firsts ns n)) ∙ eqb_firsts m n (has ns n)

-- a last number that is kept or not
pub filter_last : (p : ℕ → Bool) (n : ℕ) (b : Bool) → filter p (cond b [] (n ∷ [])) ≡ cond (not b && p n) (n ∷ []) []
filter_last p n true = refl
filter_last p n false = refl

filter_last_if : (p : ℕ → Bool) (n : ℕ) (b : Bool) → filter p (cond b (n ∷ []) []) ≡ cond (b && p n) (n ∷ []) []
filter_last_if p n true = refl
filter_last_if p n false = refl

last_once : (m n : ℕ) (b : Bool) → cond (not b && not (eqb n m)) (n ∷ []) [] ≡ cond (eqb m n || b) [] (n ∷ [])
last_once m n b = grind (arith, nat_tests)

-- one more number stands last, unless it stood before
pub firsts-push : (ns : List ℕ) (n : ℕ) → firsts (ns ++ n ∷ []) ≡ firsts ns ++ cond (has ns n) [] (n ∷ [])
firsts-push [] n = refl
firsts-push (m ∷ ns) n =
    let other : ℕ → Bool = λ k. not (eqb k m) in
    ap (λ xs. m ∷ filter other xs) (firsts-push ns n) ∙ ap (λ xs. m ∷ xs)
    (filter-append other (firsts ns) (cond (has ns n) [] (n ∷ []))
    ∙ ap (λ xs. filter other (firsts ns) ++ xs) (filter_last other n (has ns n) ∙ last_once m n (has ns n)))

-- ---- lists with numbers added

-- the numbers that a list lacks
pub has-lacking : (added groups : List ℕ) (n : ℕ) → has (lacking added groups) n
    ≡ (not (has groups n) && (ltb 0 n && has added n))
has-lacking added groups n =
    has-filter (λ k. not (has groups k)) _ n ∙ ap (λ b. not (has groups n) && b) (has-filter (λ k. ltb 0 k) _ n
    ∙ ap (λ b. ltb 0 n && b) (has-firsts added n))

-- the numbers of a list after others were added
pub has-with_added : (added groups : List ℕ) (n : ℕ) → has (with_added added groups) n
    ≡ (has groups n || (not (has groups n) && (ltb 0 n && has added n)))
has-with_added added groups n = has-append groups _ n ∙ ap (λ b. has groups n || b) (has-lacking added groups n)

last_added : (h z a : Bool) (n : ℕ) → cond ((not a && z) && not h) (n ∷ []) []
    ≡ cond (z && not (h || (not h && (z && a)))) (n ∷ []) []
last_added true true true n = refl
last_added true true false n = refl
last_added true false true n = refl
last_added true false false n = refl
last_added false true true n = refl
last_added false true false n = refl
last_added false false true n = refl
last_added false false false n = refl

-- one more number is added unless it is 0 or present
pub with_added-push : (added groups : List ℕ) (n : ℕ) → with_added (added ++ n ∷ []) groups
    ≡ with_added added groups ++ cond (ltb 0 n && not (has (with_added added groups) n)) (n ∷ []) []
with_added-push added groups n =
    let lacks : ℕ → Bool = λ k. not (has groups k) in
    let above : ℕ → Bool = λ k. ltb 0 k in
    let last = cond (has added n) [] (n ∷ []) in
    let kept : filter lacks (filter above (firsts (added ++ n ∷ [])))
    ≡ filter lacks (filter above (firsts added)) ++ cond ((not (has added n) && above n) && lacks n) (n ∷ []) [] =
    ap (λ xs. filter lacks (filter above xs)) (firsts-push added n)
    ∙ ap (filter lacks) (filter-append above (firsts added) last
    ∙ ap (λ xs. filter above (firsts added) ++ xs) (filter_last above n (has added n)))
    ∙ filter-append lacks (filter above (firsts added)) _
    ∙ ap (λ xs. filter lacks (filter above (firsts added)) ++ xs)
    (filter_last_if lacks n (not (has added n) && above n)) in
    let same = last_added (has groups n) (above n) (has added n) n
    ∙ ap (λ b. cond (above n && not b) (n ∷ []) []) (sym (has-with_added added groups n)) in
    ap (λ xs. groups ++ xs) kept ∙ sym (append_assoc groups _ _) ∙ ap (λ xs. with_added added groups ++ xs) same

-- a number is added unless it is 0 or present
pub with_added-one : (n : ℕ) (groups : List ℕ) → with_added (n ∷ []) groups
    ≡ groups ++ cond (ltb 0 n && not (has groups n)) (n ∷ []) []
with_added-one n groups = ap (λ xs. groups ++ xs) (filter_last_if (λ k. not (has groups k)) n (ltb 0 n))

-- one number after others
pub with_added-then : (added groups : List ℕ) (n : ℕ) → with_added (added ++ n ∷ []) groups
    ≡ with_added (n ∷ []) (with_added added groups)
with_added-then added groups n = with_added-push added groups n ∙ sym (with_added-one n (with_added added groups))

-- a list that has a number after an addition had it or gained it
had_not : (h m : Bool) → (h || m) ≡ false → h ≡ false
had_not true m e = e
had_not false m e = refl

-- a list lacks an added number above 0 that it lacks even after others were added
pub lacking-some : (added some groups : List ℕ) (n : ℕ) → has added n ≡ true → 0 < n
    → has (with_added some groups) n ≡ false → lacking added groups ≢ []
lacking-some added some groups n named above lacks none =
    let out = had_not (has groups n) _ (sym (has-with_added some groups n) ∙ lacks) in
    let left = and_from (not (has groups n)) (ltb 0 n && has added n) (not_from_false (has groups n) out)
    (and_from (ltb 0 n) (has added n) (lt-ltb 0 n above) named) in
    true≢false (sym left ∙ sym (has-lacking added groups n) ∙ ap (λ xs. has xs n) none)

-- a list has the number at each of its indices
pub has-at : (xs : List ℕ) (i : ℕ) → i < length xs → has xs (get_or xs i 0) ≡ true
has-at xs i within = list_any_at (λ x. eqb x (get_or xs i 0)) xs i 0 within
    (eq-eqb (get_or xs i 0) (get_or xs i 0) refl)
