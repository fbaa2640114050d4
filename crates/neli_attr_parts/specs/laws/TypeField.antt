-- Laws of the type field of generic attributes.
use Rattle.std.proofs.Common.{◌≡◌, ℕ, zero, suc, ◌+◌, ◌*◌, ◌/◌, ◌%◌, ◌^◌, ◌<◌}
use Rattle.std.proofs.Common.{Bool, true, false, inl, inr, bit_and, bit_or, refl, ◌∙◌, arith}
use Rattle.std.specs.Prelude.{◌⊎◌, nat_eq, not}
use Rattle.std.proofs.lemmas.Nat.{and_le_r, and_mask, or_disjoint}
use Rattle.std.proofs.lemmas.Nat.Bits.{and_pow}
use Rattle.std.specs.Cmp.{IsEquivalence, IsPartialEquivalence, and_equiv, and_per}
use Rattle.std.specs.Cmp.{bool_eq_equiv, on_equiv, on_per, partial_equiv_from_equiv}
use Rattle.neli_attr_parts.specs.TypeField.{attr_type_eq, has, bit_where, field_of, type_of, number_of}

-- one bit of a number is 0 or whole
bit_case : (n k : ℕ) → (bit_and n (2 ^ k) ≡ 0) ⊎ (bit_and n (2 ^ k) ≡ 2 ^ k)
bit_case n k = by (n / 2 ^ k % 2) (omega arith) (and_pow n k)
  where
    by : (b : ℕ) → b < 2 → bit_and n (2 ^ k) ≡ b * 2 ^ k → (bit_and n (2 ^ k) ≡ 0) ⊎ (bit_and n (2 ^ k) ≡ 2 ^ k)
    by zero lt e = inl (e ∙ omega arith)
    by (suc b) lt e = let none : b ≡ 0 = omega arith in inr (e ∙ (rw none (omega arith)))

-- a bit that is 0 or whole is set where it is not 0
whole_bit : (x p : ℕ) → nat_eq p 0 ≡ false → (x ≡ 0) ⊎ (x ≡ p) → bit_where (not (nat_eq x 0)) p ≡ x
whole_bit x p some (inl e) = rw e refl
whole_bit x p some (inr e) = rw (e, some) refl

-- to set a bit that is not set is to add it
or_bit : (m x k : ℕ) → (x ≡ 0) ⊎ (x ≡ 2 ^ k) → m / 2 ^ k % 2 ≡ 0 → bit_or m x ≡ m + x
or_bit m x k (inl e) none = rw e (or_disjoint m 0 (omega (arith, and_le_r m 0)))
or_bit m x k (inr e) none =
    let apart : bit_and m (2 ^ k) ≡ 0 = and_pow m k ∙ (rw none (omega arith)) in
    rw e (or_disjoint m (2 ^ k) apart)

-- the three parts of a number of 16 bits make the number
pub field_of-parts : (n : ℕ) → n < 65536 → field_of (bit_and n 16383) (has n 32768) (has n 16384) ≡ n
field_of-parts n lt =
    let high = bit_case n 15 in
    let low = bit_case n 14 in
    let nested : bit_and n 32768 ≡ (n / 32768 % 2) * 32768 = and_pow n 15 in
    let order : bit_and n 16384 ≡ (n / 16384 % 2) * 16384 = and_pow n 14 in
    let number : bit_and n 16383 ≡ n % 16384 = and_mask n 14 in
    let one : bit_or (n % 16384) (bit_and n 32768) ≡ n % 16384 + bit_and n 32768 =
    or_bit (n % 16384) (bit_and n 32768) 15 high (omega arith) in
    let two : bit_or (n % 16384 + bit_and n 32768) (bit_and n 16384) ≡ n % 16384 + bit_and n 32768 + bit_and n 16384 =
    or_bit (n % 16384 + bit_and n 32768) (bit_and n 16384) 14 low (omega (arith, nested)) in
    rw (whole_bit (bit_and n 32768) 32768 refl high, whole_bit (bit_and n 16384) 16384 refl low, number, one, two)
    (omega (arith, nested, order))

-- a field that was read has the number that it was read from
pub number_of-type_of : {T : Type 0} (type_number : T → ℕ) (value_of : ℕ → T)
    → ((n : ℕ) → n < 256 ^ 2 → type_number (value_of n) ≡ n) → (n : ℕ) → n < 256 ^ 2
    → number_of type_number (type_of value_of n) ≡ n
number_of-type_of type_number value_of back n lt =
    rw (back (bit_and n 16383) (omega (arith, and_le_r n 16383))) (field_of-parts n lt)

-- ---- equality

pub attr_type_per : {T : Type 0} {same : T → T → Bool} → IsPartialEquivalence same
    → IsPartialEquivalence (attr_type_eq same)
attr_type_per laws = and_per (and_per (on_per (λ t. t.nla_nested) (partial_equiv_from_equiv bool_eq_equiv))
    (on_per (λ t. t.nla_network_order) (partial_equiv_from_equiv bool_eq_equiv))) (on_per (λ t. t.nla_type) laws)

pub attr_type_equiv : {T : Type 0} {same : T → T → Bool} → IsEquivalence same → IsEquivalence (attr_type_eq same)
attr_type_equiv laws = and_equiv (and_equiv (on_equiv (λ t. t.nla_nested) bool_eq_equiv)
    (on_equiv (λ t. t.nla_network_order) bool_eq_equiv)) (on_equiv (λ t. t.nla_type) laws)

-- a small number with two bits is their sum
pub field_of-sum : (n : ℕ) (nested network_order : Bool) → n < 16384
    → field_of n nested network_order ≡ n + bit_where nested 32768 + bit_where network_order 16384
field_of-sum n nested network_order lt =
    let one : bit_or n (bit_where nested 32768) ≡ n + bit_where nested 32768 =
    or_bit n (bit_where nested 32768) 15 (bit_or_none nested 32768) (omega arith) in
    let two : bit_or (n + bit_where nested 32768) (bit_where network_order 16384)
    ≡ n + bit_where nested 32768 + bit_where network_order 16384 =
    or_bit (n + bit_where nested 32768) (bit_where network_order 16384) 14 (bit_or_none network_order 16384)
    (free nested) in
    rw (one, two) refl
  where
    bit_or_none : (flag : Bool) (p : ℕ) → (bit_where flag p ≡ 0) ⊎ (bit_where flag p ≡ p)
    bit_or_none true p = inr refl
    bit_or_none false p = inl refl

    free : (flag : Bool) → (n + bit_where flag 32768) / 16384 % 2 ≡ 0
    free true = omega arith
    free false = omega arith
