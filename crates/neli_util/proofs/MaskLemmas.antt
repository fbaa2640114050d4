-- Masks: the bits of a mask as groups.
use Rattle.std.proofs.Common.{◌≡◌, ℕ, ◌+◌, ◌-◌, ◌*◌, ◌%◌, ◌^◌, ◌<◌, ◌≤◌, Bool, true, false, ◌&&◌, ◌||◌, cond, eqb, ltb}
use Rattle.std.proofs.Common.{leb, bit_or, w32, List, length, take, drop, get_or, [], ◌∷◌, ◌++◌, refl, sym, ap, ◌∙◌}
use Rattle.std.proofs.Common.{arith, inl, inr}
use Rattle.std.specs.Int.{bit_at}
use Rattle.std.specs.List.{filter, range_with_len}
use Rattle.std.proofs.lemmas.Bool.{true≢false, lt-ltb, ltb-true, le-leb, cases_eq, cases_lt, eq-eqb, ne_eqb, le-ltb}
use Rattle.std.proofs.lemmas.Bool.{and_from, and_parts, and_left, or_right, or_from}
use Rattle.std.proofs.lemmas.List.{take-append-drop, drop_more}
use Rattle.std.proofs.lemmas.List.Elements.{filter-append}
use Rattle.std.proofs.lemmas.Nat.Bits.{bit_at_above, bit_at_set_same, bit_at_set_other}
use Rattle.neli_util.proofs.Lists.{has-filter, has-range, has-append}
use Rattle.neli_util.specs.Groups.{has}
use Rattle.neli_util.specs.Masks.{mask_width, is_masked, groups_of, IsMaskOf, past_mask}

pub and_false : (b : Bool) → (b && false) ≡ false
and_false true = refl
and_false false = refl

pub and_true : (b : Bool) → (b && true) ≡ b
and_true true = refl
and_true false = refl

pub or_false : (b : Bool) → (b || false) ≡ b
or_false true = refl
or_false false = refl

-- a mask has bits for 32 groups
pub mask_width-is : mask_width ≡ 32
unfolding mask_width
mask_width-is = refl

-- a mask of 32 bits has no bit of a group above 32
pub is_masked_above : (mask n : ℕ) → mask < 2 ^ 32 → 32 < n → is_masked mask n ≡ false
is_masked_above mask n fits above =
    let no_bit : bit_at mask (n - 1) ≡ 0 = bit_at_above mask 32 (n - 1) fits (omega arith) in
    ap (λ b. ltb 0 n && eqb b 1) no_bit ∙ and_false (ltb 0 n)

-- a group that a mask has is above 0
pub is_masked-positive : (mask n : ℕ) → is_masked mask n ≡ true → 0 < n
is_masked-positive mask n e = ltb-true 0 n (and_parts (ltb 0 n) (eqb (bit_at mask (n - 1)) 1) e).0

-- a test that only numbers from 1 to w pass, within that range
pub and_within : (b : Bool) (n w : ℕ) → (b ≡ true → 0 < n) → (w < n → b ≡ false) → (b && (leb 1 n && ltb n (1 + w))) ≡ b
and_within false n w some above = refl
and_within true n w some above =
    elim (cases_lt w n) [
      | inl h ↦ absurd (true≢false (above h))
      | inr h ↦ let low : 1 ≤ n = omega (arith, some refl) in
          and_from (leb 1 n) (ltb n (1 + w)) (le-leb 1 n low) (lt-ltb n (1 + w) (omega arith))
    ]

-- a mask's groups are those whose bit it has
pub has-groups_of : (mask n : ℕ) → mask < 2 ^ 32 → has (groups_of mask) n ≡ is_masked mask n
has-groups_of mask n fits =
    has-filter (is_masked mask) (range_with_len 1 mask_width) n
    ∙ ap (λ b. is_masked mask n && b) (has-range mask_width 1 n)
    ∙ and_within (is_masked mask n) n mask_width (is_masked-positive mask n)
    (λ h. is_masked_above mask n fits (omega (arith, mask_width-is, h)))

-- a mask with the bit of one more group
pub is_masked-set : (mask g n : ℕ) → 0 < g → g ≤ 32 → is_masked (bit_or mask (1 * 2 ^ (g - 1) % 2 ^ 32)) n
    ≡ (is_masked mask n || eqb g n)
is_masked-set mask g n some within =
    let with_bit = bit_or mask (1 * 2 ^ (g - 1) % 2 ^ 32) in
    let inside : g - 1 < 32 = omega arith in
    elim (cases_eq n g) [
      | inl h ↦
          let set : bit_at with_bit (n - 1) ≡ 1 = ap (λ k. bit_at with_bit (k - 1)) h
          ∙ bit_at_set_same w32 mask (g - 1) inside in
          and_from (ltb 0 n) (eqb (bit_at with_bit (n - 1)) 1) (lt-ltb 0 n (omega (arith, h)))
          (eq-eqb (bit_at with_bit (n - 1)) 1 set)
          ∙ sym (or_right (is_masked mask n) (eqb g n) (eq-eqb g n (sym h)))
      | inr h ↦
          let differs : eqb g n ≡ false = ne_eqb g n (λ e. h (sym e)) in
          elim (cases_lt 0 n) [
            | inl l ↦ ap (λ b. ltb 0 n && eqb b 1) (bit_at_set_other w32 mask (g - 1) inside (n - 1)
                (λ e. h (omega (arith, e)))) ∙ sym (ap (λ b. is_masked mask n || b) differs
                ∙ or_false (is_masked mask n))
            | inr l ↦ and_left (ltb 0 n) (eqb (bit_at with_bit (n - 1)) 1) (le-ltb 0 n l)
                ∙ sym (or_from (is_masked mask n) (eqb g n)
                (and_left (ltb 0 n) (eqb (bit_at mask (n - 1)) 1) (le-ltb 0 n l)) differs)
          ]
    ]

-- the mask of a list with one more group
pub IsMaskOf-push : (groups : List ℕ) (mask g : ℕ) → IsMaskOf groups mask → 0 < g → g ≤ 32
    → IsMaskOf (groups ++ g ∷ []) (bit_or mask (1 * 2 ^ (g - 1) % 2 ^ 32))
IsMaskOf-push groups mask g is some within n =
    is_masked-set mask g n some within ∙ ap (λ b. b || eqb g n) (is n)
    ∙ sym (has-append groups (g ∷ []) n ∙ ap (λ b. has groups n || b) (or_false (eqb g n)))

-- the first group past the mask, and those after it
pub past_mask-at : (groups : List ℕ) (i : ℕ) → i < length groups → past_mask (take i groups) ≡ []
    → 32 < get_or groups i 0 → past_mask groups ≡ get_or groups i 0 ∷ past_mask (drop (i + 1) groups)
past_mask-at groups i within none above =
    let past : ℕ → Bool = λ n. ltb 32 n in
    let group = get_or groups i 0 in
    let rest = drop (i + 1) groups in
    ap past_mask (sym (take-append-drop i groups) ∙ ap (λ xs. take i groups ++ xs) (drop_more groups i 0 within))
    ∙ filter-append past (take i groups) (group ∷ rest) ∙ ap (λ xs. xs ++ filter past (group ∷ rest)) none
    ∙ ap (λ b. cond b (group ∷ filter past rest) (filter past rest)) (lt-ltb 32 group above)

-- one more group that has a bit
pub past_mask-push : (groups : List ℕ) (g : ℕ) → past_mask groups ≡ [] → g ≤ 32 → past_mask (groups ++ g ∷ []) ≡ []
past_mask-push groups g none within =
    let past : ℕ → Bool = λ n. ltb 32 n in
    filter-append past groups (g ∷ []) ∙ ap (λ xs. xs ++ filter past (g ∷ [])) none
    ∙ ap (λ b. cond b (g ∷ []) []) (le-ltb 32 g within)
