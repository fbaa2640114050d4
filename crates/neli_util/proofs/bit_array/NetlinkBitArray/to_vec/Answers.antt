use Rattle.std.proofs.Common.{◌≡◌, ℕ, ◌+◌, ◌-◌, ◌*◌, ◌/◌, ◌%◌, ◌<◌, ◌≤◌, eqb, cond, List, [], ◌∷◌, ◌++◌, get_or, length}
use Rattle.std.proofs.Common.{sym, ap, ◌∙◌, subst, arith}
use Rattle.std.specs.Int.{bit_at}
use Rattle.std.specs.List.{All, filter, range_with_len}
use Rattle.std.specs.List.Sorted.{IsStrictlyIncreasing}
use Rattle.std.proofs.lemmas.Bool.{true≢false}
use Rattle.std.proofs.lemmas.List.{get_or_read, append-nil}
use Rattle.neli_util.proofs.Lists.{filter_range_more}
use Rattle.neli_util.proofs.BitLemmas.{has-numbers, numbers_rise, numbers_within}
use Rattle.neli_util.specs.BitArrays.{BitArray, has_bit}
use Rattle.neli_util.specs.Groups.{has}
use Rattle.neli_util.proofs.bit_array.NetlinkBitArray.to_vec.Goals as goal
use Rattle.neli_util.proofs.bit_array.NetlinkBitArray.to_vec.Goals.{then-word_has_bit+in_ok-push, else-word_has_bit}

-- whether a bit of a word is set, as a number of the array
number_of_bit : (ws : List ℕ) (bit w end capacity : ℕ) → 32 * length ws ≡ capacity → end ≡ capacity → bit < end
    → w ≡ get_or ws (bit / 32) w → has_bit ws (bit + 1) ≡ eqb (bit_at w (bit % 32)) 1
number_of_bit ws bit w end capacity words ends below at =
    let back : bit + 1 - 1 ≡ bit = omega arith in
    let read : w ≡ get_or ws (bit / 32) 0 = get_or_read ws (bit / 32) w (omega arith) at 0 in
    ap (λ k. eqb (bit_at (get_or ws (k / 32) 0) (k % 32)) 1) back ∙ ap (λ v. eqb (bit_at v (bit % 32)) 1) (sym read)

pub returns-in_err-push-clause-empty : goal.returns-in_err-push-clause-empty
returns-in_err-push-clause-empty c none =
    let ws : List ℕ = c.self.inside.words.items in
    let bit = c.loop-bit.bit in
    let capacity = ap (λ a. a.capacity) c.self.view_is in
    let end = c.len_bits-bit-end.ensures.value in
    let sets = number_of_bit ws bit _ _ _ capacity end c.loop-bit-test.true c.index.ensures
    ∙ sym c.word_has_bit.ensures ∙ c.if-word_has_bit.true in
    let has_it =
    has-numbers ws (bit + 1) (omega arith) (omega (arith, capacity, end, c.loop-bit-test.true)) ∙ sets in
    absurd (true≢false (sym has_it ∙ ap (λ xs. has xs (bit + 1)) (ap (λ a. a.numbers) c.self.view_is ∙ none)))

pub returns-in_err-push-clause-lowest_first : goal.returns-in_err-push-clause-lowest_first
returns-in_err-push-clause-lowest_first c =
    let P : BitArray → Type 0 = λ a. IsStrictlyIncreasing a.numbers in
    subst P c.self.view_is (numbers_rise c.self.inside.words.items)

pub returns-in_err-push-clause-within : goal.returns-in_err-push-clause-within
returns-in_err-push-clause-within c =
    let P : BitArray → Type 0 = λ a. All (λ n. (0 < n) × (n ≤ a.capacity)) a.numbers in
    subst P c.self.view_is (numbers_within c.self.inside.words.items)

pub loop-bit-preserved : goal.loop-bit-preserved
loop-bit-preserved c =
    let ws : List ℕ = c.self.inside.words.items in
    let bit = c.loop-bit.bit in
    let sets = number_of_bit ws bit _ _ _ (ap (λ a. a.capacity) c.self.view_is) c.len_bits-bit-end.ensures.value
    c.loop-bit-test.true c.index.ensures
    ∙ sym c.word_has_bit.ensures in
    let before = filter (has_bit ws) (range_with_len 1 bit) in
    let more = filter_range_more (has_bit ws) bit in
    elim c.if-word_has_bit.branch [
      | then-word_has_bit+in_ok-push w ↦
          ap (λ v. v.items) w.numbers-is ∙ w.in_ok-push.ensures.items
          ∙ ap (λ xs. xs ++ (bit + 1) ∷ []) c.loop-bit.invariant
          ∙ sym (more ∙ ap (λ b. before ++ cond b ((bit + 1) ∷ []) []) (sets ∙ w.if-word_has_bit.true))
      | else-word_has_bit w ↦
          ap (λ v. v.items) w.numbers-is ∙ c.loop-bit.invariant
          ∙ sym (more ∙ ap (λ b. before ++ cond b ((bit + 1) ∷ []) []) (sets ∙ w.if-word_has_bit.false)
          ∙ append-nil before)
    ]

pub returns-clause-lowest_first : goal.returns-clause-lowest_first
returns-clause-lowest_first c =
    let P : BitArray → Type 0 = λ a. IsStrictlyIncreasing a.numbers in
    subst P c.self.view_is (numbers_rise c.self.inside.words.items)

pub returns-clause-within : goal.returns-clause-within
returns-clause-within c =
    let P : BitArray → Type 0 = λ a. All (λ n. (0 < n) × (n ≤ a.capacity)) a.numbers in
    subst P c.self.view_is (numbers_within c.self.inside.words.items)
