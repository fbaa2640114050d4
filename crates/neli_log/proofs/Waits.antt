-- The number of places that wait for a shared entry.
use Rattle.std.proofs.Common.{ℕ, suc, ◌≡◌, ◌+◌, ◌-◌, ◌≤◌, ◌<◌, Bool, true, cond, List, [], ◌∷◌, length}
use Rattle.std.proofs.Common.{get_or, Option}
use Rattle.std.proofs.Common.{Some, None, refl, sym, ap, ◌∙◌, inl, inr, arith}
use Rattle.std.specs.Prelude.{◌==◌, if◌then◌else◌, count_by, nat_eq}
use Rattle.std.specs.List.{slice_get, IsDistinct}
use Rattle.std.specs.Map.{lookup, values_of, keys_of}
use Rattle.std.specs.Cmp.{nat_eq_equiv}
use Rattle.std.proofs.lemmas.Bool.{cases_lt}
use Rattle.std.proofs.lemmas.Bool.Decides.{nat_tests}
use Rattle.std.proofs.lemmas.List.Sums.{sum_by-cons}
use Rattle.std.proofs.lemmas.Map.Entries.{lookup_from_place}
use Rattle.neli_log.specs.declared.entry.Entry.{Entry}
use Rattle.neli_log.specs.declared.entry.Route.TheVariants.{Numbers}
use Rattle.neli_log.specs.declared.place.Place.{Place}
use Rattle.neli_log.specs.declared.place.Shared.{Shared}
use Rattle.neli_log.specs.Routes.{leads}
use Rattle.neli_log.specs.Places.{CountsPassed, AreSound, AwaitsFirst, readers_at, waiting_count}
use Rattle.neli_log.proofs.Pops.{true_or_false}

pub eqb_refl : (n : ℕ) → (n == n) ≡ true
eqb_refl n = grind (arith, nat_tests)

pub eqb_same : (m n : ℕ) → (m == n) ≡ true → m ≡ n
eqb_same m n h = grind (arith, nat_tests)

count_cons : (t : Place → Bool) (x : Place) (xs : List Place)
    → count_by t (x ∷ xs) ≡ (if t x then 1 else 0) + count_by t xs
count_cons t x xs = sum_by-cons (λ y. cond (t y) 1 0) x xs

pub lookup_counts : (t : Place → Bool) (q : ℕ) (es : List (ℕ × Place)) (p : Place) → lookup (nat_eq q) es ≡ Some p
    → t p ≡ true → 0 < count_by t (values_of es)
lookup_counts t q [] p h y = cc
lookup_counts t q (e ∷ es) p h y = elim (true_or_false (nat_eq q e.0)) [
  | inl it ↦ (let s = rw it at h in let same : e.1 ≡ p = cc in let c = count_cons t e.1 (values_of es) in
      let d : t e.1 ≡ true = ap t same ∙ y in let f = rw d at c in omega (arith, f))
  | inr it ↦ (let s = rw it at h in let c = count_cons t e.1 (values_of es) in let more = lookup_counts t q es p s y in
      omega (arith, c, more))
]

pub counted_entry : (t : Place → Bool) (es : List (ℕ × Place)) → 0 < count_by t (values_of es)
    → (i : ℕ) × (k : ℕ) × (p : Place) × (slice_get es i ≡ Some (k, p)) × (t p ≡ true)
counted_entry t [] h = absurd (omega arith)
counted_entry t (e ∷ es) h = elim (true_or_false (t e.1)) [
  | inl it ↦ (0, e.0, e.1, refl, it)
  | inr it ↦ (let c = count_cons t e.1 (values_of es) in let f = rw it at c in
      let more = counted_entry t es (omega (arith, f, h)) in (suc more.0, more.1, more.2, more.3, more.4))
]

pub front_standing : (xs : List Shared) (c : ℕ) (x : Shared) → 0 < length xs → x ≡ get_or xs 0 x
    → readers_at xs c 0 ≡ x.readers
front_standing [] c x l h = absurd (omega arith)
front_standing (y ∷ ys) c x l h = ap (λ z. z.readers) (sym h)

module _ {T : Type 0} (entries : List (ℕ × Place)) (place : Option ℕ → Option Place) (place_is : (q : ℕ)
    → place (Some q) ≡ lookup (nat_eq q) entries)
    (base shared_base caught_up : ℕ) (e : Entry T) (es all : List (Entry T)) (links : List (Option ℕ))
    (shared : List Shared) (all_is : all ≡ e ∷ es) (e_is : e.route ≡ Numbers)
    (h : AreSound place (values_of entries) base shared_base caught_up all links shared) where
  head_waiting : readers_at shared caught_up 0 ≡ waiting_count shared_base (values_of entries)
  head_waiting = h.standing_are 0 ∙ ap (λ n. waiting_count n (values_of entries))
      (let s : shared_base + 0 ≡ shared_base = omega arith in s)

  at_head : (p : Place) → CountsPassed shared_base base all p → p.shared_passed ≡ shared_base → p.from ≤ base
  at_head p seen is = elim (cases_lt base p.from) [
    | inl lt ↦ (let s : p.from - base ≡ suc (p.from - (base + 1)) = omega arith in
        let f = rw (all_is, s, e_is) at seen in absurd (omega arith))
    | inr le ↦ le
  ]

  pub awaited : IsDistinct nat_eq (keys_of entries) → 0 < readers_at shared caught_up 0 → AwaitsFirst place base Numbers
  awaited unique some =
      let there = counted_entry (λ p. p.shared_passed == shared_base) entries (rw head_waiting at some) in
      let found_it : lookup (nat_eq there.1) entries ≡ Some there.2 =
      lookup_from_place nat_eq_equiv entries there.0 there.1 there.2 unique there.3 in
      let is : place (Some there.1) ≡ Some there.2 = place_is there.1 ∙ found_it in (
        Some there.1,
        there.2,
        is,
        at_head there.2 (h.passed there.1 there.2 is)
            (eqb_same there.2.shared_passed shared_base there.4),
        refl,
      )

  pub unawaited : readers_at shared caught_up 0 ≡ 0 → (w : Option ℕ) (p : Place) → place w ≡ Some p
      → leads w Numbers ≡ true → base < p.from
  unawaited none None p is t = cc
  unawaited none (Some q) p is t = elim (cases_lt base p.from) [
    | inl lt ↦ lt
    | inr le ↦
        let s : p.from - base ≡ 0 = omega arith in
        let seen = rw s at (h.passed q p is) in
        let same : p.shared_passed ≡ shared_base = omega (arith, seen) in
        let counted = lookup_counts (λ x. x.shared_passed == shared_base) q entries p (sym (place_is q) ∙ is)
        (rw same (eqb_refl shared_base)) in
        let zero_of = sym head_waiting ∙ none in
        absurd (omega (arith, counted, zero_of))
  ]
