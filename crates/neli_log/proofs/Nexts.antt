-- The first entry that a place waits for.
use Rattle.std.proofs.Common.{ℕ, zero, suc, ◌≡◌, ◌+◌, ◌-◌, ◌≤◌, ◌<◌, Bool, true, false, List, [], ◌∷◌}
use Rattle.std.proofs.Common.{length, drop}
use Rattle.std.proofs.Common.{take, map, Option, Some, None, refl, sym, ap, ◌∙◌, inl, inr, arith}
use Rattle.std.specs.List.{slice_get}
use Rattle.std.specs.Option.{option_map}
use Rattle.std.proofs.lemmas.Bool.Decides.{nat_tests}
use Rattle.neli_log.specs.declared.entry.Entry.{Entry}
use Rattle.neli_log.specs.declared.entry.Route.{Route}
use Rattle.neli_log.specs.declared.entry.Route.TheVariants.{Multicast, Number, Numbers}
use Rattle.neli_log.specs.declared.place.Chain.{Chain}
use Rattle.neli_log.specs.declared.place.Place.{Place}
use Rattle.neli_log.specs.declared.place.Shared.{Shared}
use Rattle.neli_log.specs.Routes.{leads, leads_only, is_shared, items_for, first_position, shared_positions}
use Rattle.neli_log.specs.Routes.{shared_count, lesser_of}
use Rattle.neli_log.specs.Places.{IsChain, CountsPassed, rest, start}
use Rattle.neli_log.proofs.Pops.{true_or_false, found_from}
use Rattle.std.specs.Prelude.{IfSome, nat_le}
use Rattle.neli_log.specs.Places.{head_of}

to_own : (w : Option ℕ) (r : Route) → leads_only w r ≡ true → leads w r ≡ true
to_own None Multicast h = refl
to_own None (Number n) h = cc
to_own None Numbers h = cc
to_own (Some q) Multicast h = cc
to_own (Some q) (Number n) h = h
to_own (Some q) Numbers h = cc

to_shared : (q : ℕ) (r : Route) → is_shared r ≡ true → leads (Some q) r ≡ true
to_shared q Multicast h = cc
to_shared q (Number n) h = cc
to_shared q Numbers h = refl

pub to_neither : (w : Option ℕ) (r : Route) → leads_only w r ≡ false → is_shared r ≡ false → leads w r ≡ false
to_neither None Multicast h s = h
to_neither None (Number n) h s = refl
to_neither None Numbers h s = refl
to_neither (Some q) Multicast h s = refl
to_neither (Some q) (Number n) h s = h
to_neither (Some q) Numbers h s = cc

pub own_unshared : (w : Option ℕ) (r : Route) → is_shared r ≡ true → leads_only w r ≡ false
own_unshared w Multicast h = cc
own_unshared w (Number n) h = cc
own_unshared None Numbers h = refl
own_unshared (Some q) Numbers h = refl

own_none : (r : Route) → leads None r ≡ leads_only None r
own_none Multicast = refl
own_none (Number n) = refl
own_none Numbers = refl

pub not_shared : (q : ℕ) (r : Route) → leads (Some q) r ≡ false → is_shared r ≡ false
not_shared q Multicast h = refl
not_shared q (Number n) h = refl
not_shared q Numbers h = cc

earlier_first : (n : ℕ) (x : Option ℕ) → ((m : ℕ) → x ≡ Some m → n ≤ m) → lesser_of (Some n) x ≡ Some n
earlier_first n None h = refl
earlier_first n (Some m) h = let le = h m refl in let t : nat_le n m ≡ true = grind (arith, nat_tests) in rw t refl

earlier_second : (n : ℕ) (x : Option ℕ) → ((m : ℕ) → x ≡ Some m → suc n ≤ m) → lesser_of x (Some n) ≡ Some n
earlier_second n None h = refl
earlier_second n (Some m) h = let le = h m refl in let t : nat_le m n ≡ false = grind (arith, nat_tests) in rw t refl

-- an entry for multicast goes to no other list
pub found_own : {T : Type 0} (n : ℕ) (es : List (Entry T))
    → first_position (leads_only None) n es ≡ first_position (leads None) n es
found_own n [] = refl
found_own n (e ∷ es) = rw (own_none e.route, found_own (suc n) es) refl

pub found_earlier : {T : Type 0} (q n : ℕ) (es : List (Entry T))
    → first_position (leads (Some q)) n es ≡ lesser_of (first_position (leads_only (Some q)) n es)
    (first_position is_shared n es)
found_earlier q n [] = refl
found_earlier q n (e ∷ es) = elim (true_or_false (is_shared e.route)) [
  | inl it ↦ rw (to_shared q e.route it, own_unshared (Some q) e.route it, it)
      (sym (earlier_second n (first_position (leads_only (Some q)) (suc n) es)
      (found_from (leads_only (Some q)) (suc n) es)))
  | inr it ↦ elim (true_or_false (leads_only (Some q) e.route)) [
    | inl mine ↦ rw (to_own (Some q) e.route mine, mine, it)
        (sym (earlier_first n (first_position is_shared (suc n) es)
        (λ m f. let g = found_from is_shared (suc n) es m f in omega arith)))
    | inr other ↦ rw (to_neither (Some q) e.route other it, other, it) (found_earlier q (suc n) es)
  ]
]

positions_head : {T : Type 0} (n : ℕ) (es : List (Entry T))
    → slice_get (shared_positions n es) 0 ≡ first_position is_shared n es
positions_head n [] = refl
positions_head n (e ∷ es) = elim (true_or_false (is_shared e.route)) [
  | inl it ↦ rw it refl
  | inr it ↦ rw it
      (positions_head (suc n) es)
]

pub spot_found : {T : Type 0} (n k : ℕ) (es : List (Entry T))
    → slice_get (shared_positions n es) (shared_count (take k es)) ≡ first_position is_shared (n + k) (drop k es)
spot_found n zero es = let s : n + 0 ≡ n = omega arith in rw s (positions_head n es)
spot_found n (suc k) [] = refl
spot_found n (suc k) (e ∷ es) =
    let s : n + suc k ≡ suc n + k = omega arith in
    elim (true_or_false (is_shared e.route)) [
      | inl it ↦ rw (it, s) (spot_found (suc n) k es)
      | inr it ↦ rw (it, s)
          (spot_found (suc n) k es)
    ]

pub own_start : {T : Type 0} (w : Option ℕ) (base : ℕ) (es : List (Entry T)) (k : ℕ) (o : Option Chain)
    → IsChain w base es k o → first_position (leads_only w) (base + k) (drop k es) ≡ start o
own_start w base es k None h = h
own_start w base es k (Some c) h = h.0

pub spot_of : {T : Type 0} (shared_base base : ℕ) (es : List (Entry T)) (shared : List Shared) (p : Place)
    → map (λ s. s.at) shared ≡ shared_positions base es → CountsPassed shared_base base es p
    → slice_get (map (λ s. s.at) shared) (p.shared_passed - shared_base)
    ≡ first_position is_shared (base + (p.from - base)) (drop (p.from - base) es)
spot_of shared_base base es shared p sp seen =
    let s : p.shared_passed - shared_base ≡ shared_count (take (p.from - base) es) = omega (arith, seen) in
    rw (sp, s) (spot_found base (p.from - base) es)

-- the first that passes stands at index i
pub record IsFirst {T : Type 0} (p : Route → Bool) (l : List (Entry T)) (i : ℕ) (e : Entry T) : Type 0 where
  pub at : slice_get l i ≡ Some e
  pub passes : p e.route ≡ true
  pub before : (j : ℕ) (x : Entry T) → j < i → slice_get l j ≡ Some x → p x.route ≡ false

pub found_some : {T : Type 0} (p : Route → Bool) (n : ℕ) (l : List (Entry T)) (m : ℕ) → first_position p n l ≡ Some m
    → (i : ℕ) × (e : Entry T) × (m ≡ n + i) × IsFirst p l i e
found_some p n [] m h = cc
found_some p n (e ∷ es) m h = elim (true_or_false (p e.route)) [
  | inl it ↦ (let f = rw it at h in let same : n ≡ m = cc in
      (0, e, omega arith, record { at = refl; passes = it; before = λ j x lt at. absurd (omega arith) }))
  | inr it ↦ (let f = rw it at h in let r = found_some p (suc n) es m f in let s = r.2 in (
    suc r.0,
    r.1,
    omega arith,
    record {
      at = r.3.at;
      passes = r.3.passes;
      before = before_more p e es r.0 it r.3.before;
    },
  ))
]
  where
    before_more : {T : Type 0} (p : Route → Bool) (e : Entry T) (es : List (Entry T)) (i : ℕ) → p e.route ≡ false
        → ((j : ℕ) (x : Entry T) → j < i → slice_get es j ≡ Some x → p x.route ≡ false) → (j : ℕ) (x : Entry T)
        → j < suc i → slice_get (e ∷ es) j ≡ Some x → p x.route ≡ false
    before_more p e es i off h zero x lt at = let same : e ≡ x = cc in ap (λ y. p y.route) (sym same) ∙ off
    before_more p e es i off h (suc j) x lt at = h j x (omega arith) at

pub found_none : {T : Type 0} (p : Route → Bool) (n : ℕ) (l : List (Entry T)) → first_position p n l ≡ None
    → (j : ℕ) (x : Entry T) → slice_get l j ≡ Some x → p x.route ≡ false
found_none p n [] h j x at = cc
found_none p n (e ∷ es) h zero x at = elim (true_or_false (p e.route)) [
  | inl it ↦ (let f = rw it at h in cc)
  | inr it ↦ (let same : e ≡ x = cc in ap (λ y. p y.route) (sym same) ∙ it)
]
found_none p n (e ∷ es) h (suc j) x at = elim (true_or_false (p e.route)) [
  | inl it ↦ (let f = rw it at h in cc)
  | inr it ↦ found_none p (suc n) es (rw it at h) j x at
]

pub skip_found : {T : Type 0} (p : Route → Bool) (i n : ℕ) (l : List (Entry T))
    → ((j : ℕ) (x : Entry T) → j < i → slice_get l j ≡ Some x → p x.route ≡ false)
    → first_position p n l ≡ first_position p (n + i) (drop i l)
skip_found p zero n l h = let s : n + 0 ≡ n = omega arith in rw s refl
skip_found p (suc i) n [] h = refl
skip_found p (suc i) n (e ∷ es) h =
    let no : p e.route ≡ false = h 0 e (omega arith) refl in
    let s : n + suc i ≡ suc n + i = omega arith in
    rw (no, s) (skip_found p i (suc n) es (λ j x lt at. h (suc j) x (omega arith) at))

pub found_is : {T : Type 0} (p : Route → Bool) (i n : ℕ) (l : List (Entry T)) (e : Entry T) → IsFirst p l i e
    → first_position p n l ≡ Some (n + i)
found_is p zero n [] e h = let f = h.at in cc
found_is p (suc i) n [] e h = let f = h.at in cc
found_is p zero n (x ∷ es) e h = let f = h.at in let same : x ≡ e = cc in
    let it : p x.route ≡ true = ap (λ y. p y.route) same ∙ h.passes in let s : n + 0 ≡ n = omega arith in
    rw (it, s) refl
found_is p (suc i) n (x ∷ es) e h =
    let no : p x.route ≡ false = h.before 0 x (omega arith) refl in
    let s : n + suc i ≡ suc n + i = omega arith in
    rw (no, s) (found_is p i (suc n) es e (record {
      at = h.at;
      passes = h.passes;
      before = λ j y lt at. h.before (suc j) y (omega arith) at;
    }))

pub items_first : {T : Type 0} (w : Option ℕ) (i : ℕ) (l : List (Entry T)) (e : Entry T) → IsFirst (leads w) l i e
    → items_for w l ≡ e.item ∷ items_for w (drop (suc i) l)
items_first w zero [] e h = let f = h.at in cc
items_first w (suc i) [] e h = let f = h.at in cc
items_first w zero (x ∷ es) e h = let f = h.at in let same : x ≡ e = cc in
    let it : leads w x.route ≡ true = ap (λ y. leads w y.route) same ∙ h.passes in
    rw it (ap (λ y. y.item ∷ items_for w es) same)
items_first w (suc i) (x ∷ es) e h =
    let no : leads w x.route ≡ false = h.before 0 x (omega arith) refl in
    rw no (items_first w i es e (record {
      at = h.at;
      passes = h.passes;
      before = λ j y lt at. h.before (suc j) y (omega arith) at;
    }))

pub items_none : {T : Type 0} (w : Option ℕ) (n : ℕ) (l : List (Entry T)) → first_position (leads w) n l ≡ None
    → items_for w l ≡ []
items_none w n [] h = refl
items_none w n (e ∷ es) h = elim (true_or_false (leads w e.route)) [
  | inl it ↦ (let f = rw it at h in cc)
  | inr it ↦ rw it (items_none w (suc n) es (rw it at h))
]

pub slice_get_drop : {A : Type 0} (k i : ℕ) (l : List A) → slice_get (drop k l) i ≡ slice_get l (k + i)
slice_get_drop zero i l = let s : 0 + i ≡ i = omega arith in rw s refl
slice_get_drop (suc k) i [] = refl
slice_get_drop (suc k) i (x ∷ l) = let s : suc k + i ≡ suc (k + i) = omega arith in rw s (slice_get_drop k i l)

pub slice_get_end : {A : Type 0} (es : List A) (i : ℕ) (e : A) → slice_get es i ≡ Some e → i < length es
slice_get_end [] i e h = cc
slice_get_end (x ∷ es) zero e h = omega arith
slice_get_end (x ∷ es) (suc i) e h = let f = slice_get_end es i e h in omega arith

-- a position found from a place on, stated about all entries
pub record IsNext {T : Type 0} (w : Option ℕ) (base : ℕ) (es : List (Entry T)) (p : Place) (m : ℕ) (i : ℕ)
    (e : Entry T) : Type 0 where
  pub position : m ≡ base + (p.from - base) + i
  pub here : IsFirst (leads w) (drop (p.from - base) es) i e
  pub at : slice_get es (m - base) ≡ Some e
  pub within : m - base < length es
  pub from_base : base ≤ m

pub next_is : {T : Type 0} (w : Option ℕ) (base : ℕ) (es : List (Entry T)) (p : Place) (m : ℕ)
    → first_position (leads w) (base + (p.from - base)) (rest base es p) ≡ Some m
    → (i : ℕ) × (e : Entry T) × IsNext w base es p m i e
next_is w base es p m h =
    let f = found_some (leads w) (base + (p.from - base)) (rest base es p) m h in
    let s : m - base ≡ (p.from - base) + f.0 = (let g = f.2 in omega arith) in
    let at : slice_get es (m - base) ≡ Some f.1 = rw (s, ← slice_get_drop (p.from - base) f.0 es) f.3.at in (
      f.0,
      f.1,
      record {
        position = f.2;
        here = f.3;
        at = at;
        within = slice_get_end es (m - base) f.1 at;
        from_base = (let g = f.2 in omega arith);
      },
    )

-- it is the position of an entry
pub next_within : {T : Type 0} (w : Option ℕ) (base : ℕ) (es : List (Entry T)) (p : Place) (next : Option ℕ)
    → next ≡ first_position (leads w) (base + (p.from - base)) (rest base es p)
    → IfSome next (λ m. (base ≤ m) × (m - base < length es))
next_within w base es p None is = tt
next_within w base es p (Some m) is = let n = next_is w base es p m (sym is) in (n.2.from_base, n.2.within)

pub first_delivery : {T : Type 0} (w : Option ℕ) (base : ℕ) (es : List (Entry T)) (p : Place) (o : Option Place) (m : ℕ)
    (x : Entry T) → o ≡ Some p → first_position (leads w) (base + (p.from - base)) (rest base es p) ≡ Some m
    → slice_get es (m - base) ≡ Some x
    → ◌≡◌ {A = Option T} (Some x.item) (head_of (option_map (λ p. items_for w (rest base es p)) o))
first_delivery w base es p o m x is h at =
    let n = next_is w base es p m h in
    let same : n.1 ≡ x = (let f = n.2.at in cc) in
    rw (is, items_first w n.0 (rest base es p) n.1 n.2.here) (ap (λ y. Some y.item) (sym same))

pub no_delivery : {T : Type 0} (w : Option ℕ) (base : ℕ) (es : List (Entry T)) (p : Place) (o : Option Place)
    → o ≡ Some p → first_position (leads w) (base + (p.from - base)) (rest base es p) ≡ None
    → ◌≡◌ {A = Option T} None (head_of (option_map (λ p. items_for w (rest base es p)) o))
no_delivery w base es p o is h = rw (is, items_none w _ (rest base es p) h) refl

pub something_waits : {T : Type 0} (w : Option ℕ) (base : ℕ) (es : List (Entry T)) (p : Place) (o : Option Place)
    (m : ℕ) → o ≡ Some p → first_position (leads w) (base + (p.from - base)) (rest base es p) ≡ Some m
    → head_of (option_map (λ p. items_for w (rest base es p)) o) ≡ None → ⊥
something_waits w base es p o m is h none =
    let n = next_is w base es p m h in
    let f = first_delivery w base es p o m n.1 is h n.2.at in cc
