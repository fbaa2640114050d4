-- Sequence numbers, and which of them are in use.
use Rattle.std.proofs.Common.{ℕ, zero, suc, ◌+◌, ◌-◌, ◌≤◌, ◌<◌, ◌%◌, ◌/◌, ◌*◌, ◌≡◌, inl, inr, Bool, true, false, List, [], ◌∷◌, length, refl, sym, ap, subst, ◌∙◌, arith}
use Rattle.std.proofs.Math.Nat.{add-mul-mod_self_left, mod-add-div, mod-eq_of_lt, mod-eq-sub-mod}
use Rattle.std.proofs.lemmas.Bool.{cases_lt, eqb-true, ne_eqb}
use Rattle.std.proofs.lemmas.Map.Steps.{length-le_from_keys}
use Rattle.std.specs.Cmp.{nat_eq_equiv}
use Rattle.std.specs.List.{IsDistinct, AllByRecursion, list_any}
use Rattle.std.specs.Map.{lookup}
use Rattle.std.specs.Option.{option_map}
use Rattle.std.specs.Prelude.{nat_eq, is_some, ◌||◌}
use Rattle.neli_session.specs.Sends.{number_after}
use Rattle.neli_session.proofs.Lines.{part-there}

-- within a round, a number is the sum, or that less the round
low : (start k : ℕ) → start + k < 4294967296 → number_after start k ≡ start + k
low start k e = mod-eq_of_lt e

high : (start k : ℕ) → start < 4294967296 → k < 4294967296 → 4294967296 ≤ start + k
    → number_after start k ≡ start + k - 4294967296
high start k s e f =
    let less : start + k - 4294967296 < 4294967296 = omega (arith, s, e, f) in
    mod-eq-sub-mod f ∙ mod-eq_of_lt less

-- two within a round differ
apart : (start j k : ℕ) → start < 4294967296 → k < 4294967296 → j < k → number_after start k ≡ number_after start j → ⊥
apart start j k s e f same = elim (cases_lt (start + k) 4294967296) [
  | inl small ↦
      let one = low start k small in
      let two = low start j (omega (arith, small, f)) in
      let sums : start + k ≡ start + j = sym one ∙ same ∙ two in
      omega (arith, sums, f)
  | inr great ↦ elim (cases_lt (start + j) 4294967296) [
    | inl small ↦
        let one = high start k s e great in
        let two = low start j small in
        let sums : start + k - 4294967296 ≡ start + j = sym one ∙ same ∙ two in
        omega (arith, sums, f, e, s, great)
    | inr large ↦
        let one = high start k s e great in
        let two = high start j s (omega (arith, f, e)) large in
        let sums : start + k - 4294967296 ≡ start + j - 4294967296 = sym one ∙ same ∙ two in
        omega (arith, sums, f, great, large)
  ]
]

-- those before the k-th
abbrev run : ℕ → ℕ → List ℕ
run start zero = []
run start (suc k) = number_after start k ∷ run start k

run-length : (start k : ℕ) → length (run start k) ≡ k
run-length start zero = refl
run-length start (suc k) = ap (λ (n : ℕ). suc n) (run-length start k)

not-before : (start k j : ℕ) → start < 4294967296 → k < 4294967296 → j ≤ k
    → AllByRecursion (λ y. nat_eq (number_after start k) y ≡ false) (run start j)
not-before start k zero s e f = tt
not-before start k (suc j) s e f = (
  ne_eqb (number_after start k) (number_after start j) (apart start j k s e (omega (arith, f))),
  not-before start k j s e (omega (arith, f)),
)

distinct : (start k : ℕ) → start < 4294967296 → k ≤ 4294967296 → IsDistinct nat_eq (run start k)
unfolding IsDistinct
distinct start zero s e = tt
distinct start (suc k) s e =
    (not-before start k k s (omega (arith, e)) (omega arith), distinct start k s (omega (arith, e)))

module _ {X : Type 0} (es : List (ℕ × X)) (start : ℕ) where
  in-use : (k : ℕ) → ((j : ℕ) → j < k → is_some (lookup (nat_eq (number_after start j)) es) ≡ true)
      → (q : ℕ) → list_any (nat_eq q) (run start k) ≡ true → is_some (lookup (nat_eq q) es) ≡ true
  in-use zero all q e = cc
  in-use (suc k) all q e =
      go (nat_eq q (number_after start k)) refl (in-use k (λ j f. all j (omega (arith, f))) q) e
    where
      go : (b : Bool) → nat_eq q (number_after start k) ≡ b
          → (list_any (nat_eq q) (run start k) ≡ true → is_some (lookup (nat_eq q) es) ≡ true)
          → (b || list_any (nat_eq q) (run start k)) ≡ true → is_some (lookup (nat_eq q) es) ≡ true
      go true same rest e =
          subst (λ (n : ℕ). is_some (lookup (nat_eq n) es) ≡ true) (sym (eqb-true q (number_after start k) same))
          (all k (omega arith))
      go false other rest e = rest e

  -- where more numbers than there are requests were in use, one after the other, each number is
  pub all-in-use : (k : ℕ) → start < 4294967296 → length es < k
      → ((j : ℕ) → j < k → is_some (lookup (nat_eq (number_after start j)) es) ≡ true)
      → (q : ℕ) → q < 4294967296 → is_some (lookup (nat_eq q) es) ≡ true
  all-in-use k s more all q fits = elim (cases_lt 4294967296 k) [
    | inl round ↦ elim (cases_lt q start) [
      | inl before ↦
          let there : number_after start (q + 4294967296 - start) ≡ start + (q + 4294967296 - start) - 4294967296 =
          high start (q + 4294967296 - start) s (omega (arith, before, fits)) (omega (arith, before, fits)) in
          let is : number_after start (q + 4294967296 - start) ≡ q = there ∙ omega (arith, before, fits, s) in
          subst (λ (n : ℕ). is_some (lookup (nat_eq n) es) ≡ true) is (all (q + 4294967296 - start) (omega (arith, before, fits, round)))
      | inr after ↦
          let there : number_after start (q - start) ≡ start + (q - start) = low start (q - start) (omega (arith, after, fits)) in
          let is : number_after start (q - start) ≡ q = there ∙ omega (arith, after, fits) in
          subst (λ (n : ℕ). is_some (lookup (nat_eq n) es) ≡ true) is (all (q - start) (omega (arith, after, fits, round)))
    ]
    | inr within ↦
        let few : length (run start k) ≤ length es = length-le_from_keys nat_eq_equiv (run start k) es (distinct start k s within)
        (λ p e. in-use k all p e) in
        let len = run-length start k in
        absurd (omega (arith, few, len, more))
  ]

-- the same by a part of what is there
pub parts-in-use : {X Y : Type 0} (f : X → Y) (es : List (ℕ × X)) (start k : ℕ) → start < 4294967296 → length es < k
    → ((j : ℕ) → j < k → is_some (option_map f (lookup (nat_eq (number_after start j)) es)) ≡ true)
    → (q : ℕ) → q < 4294967296 → is_some (option_map f (lookup (nat_eq q) es)) ≡ true
parts-in-use f es start k s more all q fits =
    part-there f (lookup (nat_eq q) es)
    ∙ all-in-use es start k s more (λ j e. sym (part-there f (lookup (nat_eq (number_after start j)) es)) ∙ all j e) q fits

-- the number after one of them
pub one-more : (start k : ℕ) → number_after (number_after start k) 1 ≡ number_after start (k + 1)
one-more start k =
    let parts = mod-add-div (start + k) 4294967296 in
    let sum : start + (k + 1) ≡ (number_after start k + 1) + 4294967296 * ((start + k) / 4294967296) = omega (arith, parts) in
    sym (ap (λ (n : ℕ). n % 4294967296) sum ∙ add-mul-mod_self_left (number_after start k + 1) 4294967296 ((start + k) / 4294967296))
