-- Bit arrays: the bits of words as numbers.
use Rattle.std.proofs.Common.{◌≡◌, ℕ, ◌+◌, ◌-◌, ◌*◌, ◌/◌, ◌%◌, ◌^◌, ◌<◌, ◌≤◌, ◌≢◌, Bool, false, ◌&&◌, ◌||◌, eqb, ltb}
use Rattle.std.proofs.Common.{leb, bit_or, w32, List, ◌++◌, length, take, set, replicate, get_or, refl, sym, ap, ◌∙◌}
use Rattle.std.proofs.Common.{arith, inl, inr}
use Rattle.std.specs.Int.{bit_at}
use Rattle.std.specs.List.{All, filter, range_with_len}
use Rattle.std.specs.List.Sorted.{IsStrictlyIncreasing}
use Rattle.std.proofs.lemmas.Bool.{lt-ltb, le-leb, lt-leb, cases_eq, cases_lt, eq-eqb, ne_eqb, and_from, and_left}
use Rattle.std.proofs.lemmas.Bool.{or_right}
use Rattle.std.proofs.lemmas.List.{get_or_append_left, get_or-append_right, get_or-take, get_or_past, get_or-replicate}
use Rattle.std.proofs.lemmas.List.{length-take, length-append, length-replicate, length-set, get_or-set_same}
use Rattle.std.proofs.lemmas.List.{get_or-set_other}
use Rattle.std.proofs.lemmas.List.Elements.{All-weaker, All-filter}
use Rattle.std.proofs.lemmas.List.Kept.{IsStrictlyIncreasing-filter}
use Rattle.std.proofs.lemmas.Nat.Bits.{bit_at-zero, bit_at_set_same, bit_at_set_other}
use Rattle.neli_util.proofs.Lists.{has-filter, has-range, filter-filter, filter_agree_on, filter_ranges, range_within}
use Rattle.neli_util.proofs.Lists.{range_rises}
use Rattle.neli_util.proofs.MaskLemmas.{and_false, and_true, or_false}
use Rattle.neli_util.specs.Groups.{has}
use Rattle.neli_util.specs.BitArrays.{BitArray, with_capacity, with_number, has_bit, array_of}

-- ---- words

-- this many words without a bit
abbrev pub zeros : ℕ → List ℕ
zeros k = let z : ℕ = 0 in replicate k z

get_or-zeros : (k i : ℕ) → get_or (zeros k) i 0 ≡ 0
get_or-zeros k i =
    elim (cases_lt i k) [
      | inl h ↦ get_or-replicate k i 0 0 h
      | inr h ↦ get_or_past (zeros k) i 0
          (omega (arith, length-replicate {A = ℕ} k 0))
    ]

length-resized : (ws : List ℕ) (count : ℕ) → length (take count ws ++ zeros (count - length ws)) ≡ count
length-resized ws count =
    omega (
      arith,
      length-append (take count ws) (zeros (count - length ws)),
      length-take count ws,
      length-replicate {A = ℕ} (count - length ws) 0,
    )

get_or-resized : (ws : List ℕ) (count i : ℕ) → i < count
    → get_or (take count ws ++ zeros (count - length ws)) i 0 ≡ get_or ws i 0
get_or-resized ws count i low =
    let front = length-take count ws in
    let after = zeros (count - length ws) in
    elim (cases_lt i (length ws)) [
      | inl h ↦ get_or_append_left (take count ws) after 0 i (omega arith) ∙ get_or-take count ws i 0 low
      | inr h ↦ get_or-append_right (take count ws) after (length (take count ws)) i 0 refl (omega arith)
          ∙ get_or-zeros (count - length ws) (i - length (take count ws)) ∙ sym (get_or_past ws i 0 h)
    ]

-- ---- bits

-- a bit past the words is not set
pub has_bit_past : (ws : List ℕ) (n : ℕ) → 32 * length ws < n → has_bit ws n ≡ false
has_bit_past ws n above =
    ap (λ w. eqb (bit_at w ((n - 1) % 32)) 1) (get_or_past ws ((n - 1) / 32) 0 (omega arith))
    ∙ ap (λ b. eqb b 1) (bit_at-zero ((n - 1) % 32))

-- the numbers of an array are those whose bit is set
pub has-numbers : (ws : List ℕ) (n : ℕ) → 0 < n → n ≤ 32 * length ws
    → has (filter (has_bit ws) (range_with_len 1 (32 * length ws))) n ≡ has_bit ws n
has-numbers ws n some within =
    let low : 1 ≤ n = some in
    has-filter (has_bit ws) (range_with_len 1 (32 * length ws)) n
    ∙ ap (λ b. has_bit ws n && b) (has-range (32 * length ws) 1 n
    ∙ and_from (leb 1 n) (ltb n (1 + 32 * length ws)) (le-leb 1 n low)
    (lt-ltb n (1 + 32 * length ws) (omega arith))) ∙ and_true (has_bit ws n)

-- 0 is no number of an array
pub has_no_zero : (ws : List ℕ) → has (filter (has_bit ws) (range_with_len 1 (32 * length ws))) 0 ≡ false
has_no_zero ws =
    has-filter (has_bit ws) (range_with_len 1 (32 * length ws)) 0
    ∙ ap (λ b. has_bit ws 0 && b) (has-range (32 * length ws) 1 0) ∙ and_false (has_bit ws 0)

-- ---- arrays

numbers_resized : (ws : List ℕ) (count : ℕ) → filter (has_bit (take count ws ++ zeros (count - length ws)))
    (range_with_len 1 (32 * count)) ≡ filter (λ n. leb n (32 * count))
    (filter (has_bit ws) (range_with_len 1 (32 * length ws)))
numbers_resized ws count =
    let c = 32 * count in
    let stays : ℕ → Bool = λ n. has_bit ws n && leb n c in
    let new = take count ws ++ replicate (count - length ws) 0 in
    let agree : All (λ n. has_bit new n ≡ stays n) (range_with_len 1 c) =
    All-weaker (λ k. (1 ≤ k) × (k < 1 + c)) (λ n. has_bit new n ≡ stays n)
    (λ n h. ap (λ w. eqb (bit_at w ((n - 1) % 32)) 1)
    (get_or-resized ws count ((n - 1) / 32) (omega (arith, h.0, h.1)))
    ∙ sym (ap (λ b. has_bit ws n && b) (le-leb n c (omega (arith, h.1))) ∙ and_true (has_bit ws n)))
    (range_with_len 1 c) (range_within c 1) in
    filter_agree_on (has_bit new) stays (range_with_len 1 c) agree
    ∙ filter_ranges stays c (32 * length ws) (λ k h. ap (λ b. has_bit ws k && b) (lt-leb k c h)
    ∙ and_false (has_bit ws k)) (λ k h. and_left (has_bit ws k) (leb k c) (has_bit_past ws k h))
    ∙ sym (filter-filter (has_bit ws) (λ n. leb n c) (range_with_len 1 (32 * length ws)))

same_array : (c d : ℕ) (ns ms : List ℕ) → c ≡ d → ns ≡ ms
    → (let a : BitArray = record { capacity = c; numbers = ns } in a)
    ≡ (let b : BitArray = record { capacity = d; numbers = ms } in b)
same_array c d ns ms e f = λ i. record { capacity = e i; numbers = f i }

-- the array of resized words
pub array_of-resized : (ws : List ℕ) (count : ℕ) → array_of (take count ws ++ zeros (count - length ws))
    ≡ with_capacity (32 * count) (array_of ws)
array_of-resized ws count =
    let new = take count ws ++ replicate (count - length ws) 0 in
    let long : 32 * length new ≡ 32 * count = ap (λ n. 32 * n) (length-resized ws count) in
    same_array (32 * length new) (32 * count) _ _ long (ap (λ n. filter (has_bit new) (range_with_len 1 n)) long
    ∙ numbers_resized ws count)

-- the bit of the number that is set, and all others
has_bit-set : (ws : List ℕ) (n k : ℕ) → 0 < n → n ≤ 32 * length ws → 0 < k
    → has_bit (set ws ((n - 1) / 32) (bit_or (get_or ws ((n - 1) / 32) 0) (1 * 2 ^ ((n - 1) % 32) % 2 ^ 32))) k
    ≡ (has_bit ws k || eqb k n)
has_bit-set ws n k some within low =
    let q = (n - 1) / 32 in
    let r = (n - 1) % 32 in
    let inside : r < 32 = omega arith in
    let there : q < length ws = omega arith in
    let w = get_or ws q 0 in
    let word = bit_or w (1 * 2 ^ r % 2 ^ 32) in
    elim (cases_eq k n) [
      | inl h ↦
          let here : bit_at (get_or (set ws q word) ((k - 1) / 32) 0) ((k - 1) % 32) ≡ 1 =
          ap (λ m. bit_at (get_or (set ws q word) ((m - 1) / 32) 0) ((m - 1) % 32)) h
          ∙ ap (λ v. bit_at v r) (get_or-set_same ws q word 0 there) ∙ bit_at_set_same w32 w r inside in
          eq-eqb (bit_at (get_or (set ws q word) ((k - 1) / 32) 0) ((k - 1) % 32)) 1 here
          ∙ sym (or_right (has_bit ws k) (eqb k n) (eq-eqb k n h))
      | inr h ↦
          let differs : (has_bit ws k || eqb k n) ≡ has_bit ws k = ap (λ b. has_bit ws k || b) (ne_eqb k n h)
          ∙ or_false (has_bit ws k) in
          elim (cases_eq ((k - 1) / 32) q) [
            | inl e ↦
                let other : (k - 1) % 32 ≢ r = λ f. h (omega (arith, e, f)) in
                ap (λ j. eqb (bit_at (get_or (set ws q word) j 0) ((k - 1) % 32)) 1) e
                ∙ ap (λ v. eqb (bit_at v ((k - 1) % 32)) 1) (get_or-set_same ws q word 0 there)
                ∙ ap (λ b. eqb b 1) (bit_at_set_other w32 w r inside ((k - 1) % 32) other)
                ∙ sym (ap (λ j. eqb (bit_at (get_or ws j 0) ((k - 1) % 32)) 1) e) ∙ sym differs
            | inr e ↦ ap (λ v. eqb (bit_at v ((k - 1) % 32)) 1) (get_or-set_other ws q ((k - 1) / 32) word 0 e)
                ∙ sym differs
          ]
    ]

-- the array of words after the bit of a number was set
pub array_of-set : (ws : List ℕ) (n : ℕ) → 0 < n → n ≤ 32 * length ws
    → array_of (set ws ((n - 1) / 32) (bit_or (get_or ws ((n - 1) / 32) 0) (1 * 2 ^ ((n - 1) % 32) % 2 ^ 32)))
    ≡ with_number n (array_of ws)
array_of-set ws n some within =
    let new = set ws ((n - 1) / 32) (bit_or (get_or ws ((n - 1) / 32) 0) (1 * 2 ^ ((n - 1) % 32) % 2 ^ 32)) in
    let c = 32 * length ws in
    let long : 32 * length new ≡ c = ap (λ n. 32 * n) (length-set ws ((n - 1) / 32)
    (bit_or (get_or ws ((n - 1) / 32) 0) (1 * 2 ^ ((n - 1) % 32) % 2 ^ 32))) in
    let numbers = filter (has_bit ws) (range_with_len 1 c) in
    let agree : All (λ k. has_bit new k ≡ (has numbers k || eqb k n)) (range_with_len 1 c) =
    All-weaker (λ k. (1 ≤ k) × (k < 1 + c)) (λ k. has_bit new k ≡ (has numbers k || eqb k n))
    (λ k h. has_bit-set ws n k some within h.0 ∙ sym
    (ap (λ b. b || eqb k n) (has-numbers ws k h.0 (omega (arith, h.1))))) (range_with_len 1 c) (range_within c 1) in
    same_array (32 * length new) c _ _ long (ap (λ m. filter (has_bit new) (range_with_len 1 m)) long
    ∙ filter_agree_on (has_bit new) (λ k. has numbers k || eqb k n) (range_with_len 1 c) agree)

-- setting 0 changes nothing
pub with_number-zero : (ws : List ℕ) → array_of ws ≡ with_number 0 (array_of ws)
with_number-zero ws =
    let c = 32 * length ws in
    let numbers = filter (has_bit ws) (range_with_len 1 c) in
    let agree : All (λ k. has_bit ws k ≡ (has numbers k || eqb k 0)) (range_with_len 1 c) =
    All-weaker (λ k. (1 ≤ k) × (k < 1 + c)) (λ k. has_bit ws k ≡ (has numbers k || eqb k 0))
    (λ k h. sym (ap (λ b. has numbers k || b) (ne_eqb k 0 (λ e. omega (arith, e, h.0))) ∙ or_false (has numbers k)
    ∙ has-numbers ws k h.0 (omega (arith, h.1)))) (range_with_len 1 c) (range_within c 1) in
    same_array c c _ _ refl (filter_agree_on (has_bit ws) (λ k. has numbers k || eqb k 0) (range_with_len 1 c) agree)

-- an array's numbers rise
pub numbers_rise : (ws : List ℕ) → IsStrictlyIncreasing (array_of ws).numbers
numbers_rise ws = IsStrictlyIncreasing-filter (has_bit ws) (range_with_len 1 (32 * length ws))
    (range_rises 1 (32 * length ws))

-- an array's numbers are from 1 to its capacity
pub numbers_within : (ws : List ℕ) → All (λ n. (0 < n) × (n ≤ 32 * length ws)) (array_of ws).numbers
numbers_within ws =
    All-filter (has_bit ws) (λ n. (0 < n) × (n ≤ 32 * length ws)) (range_with_len 1 (32 * length ws))
    (All-weaker (λ k. (1 ≤ k) × (k < 1 + 32 * length ws)) (λ n. (0 < n) × (n ≤ 32 * length ws))
    (λ k h. (h.0, omega (arith, h.1))) (range_with_len 1 (32 * length ws)) (range_within (32 * length ws) 1))
