-- A place is added, moved or removed.
use Rattle.std.proofs.Common.{ℕ, zero, suc, ◌≡◌, ◌≢◌, ◌+◌, ◌-◌, ◌≤◌, ◌<◌, false, cond, List, [], ◌∷◌}
use Rattle.std.proofs.Common.{length, drop}
use Rattle.std.proofs.Common.{take, map, get_or, Option, Some, None, refl, sym, ap, ◌∙◌, inl, inr, ◌⊎◌, arith}
use Rattle.std.specs.Prelude.{◌==◌, if◌then◌else◌, nat_eq, position}
use Rattle.std.specs.Map.{keys_of}
use Rattle.std.specs.Option.{option_map}
use Rattle.std.proofs.Math.ListN.{set}
use Rattle.std.proofs.lemmas.Bool.{cases_eq}
use Rattle.std.proofs.lemmas.Bool.Decides.{nat_tests}
use Rattle.std.proofs.lemmas.List.{length-map}
use Rattle.neli_log.specs.declared.entry.Entry.{Entry}
use Rattle.neli_log.specs.declared.place.Place.{Place}
use Rattle.neli_log.specs.declared.place.Shared.{Shared}
use Rattle.neli_log.specs.Routes.{is_shared, shared_positions, shared_count}
use Rattle.neli_log.specs.Places.{IsPlace, CountsPassed, AreSound, BeginsAwaited, readers_at, waiting_count}
use Rattle.neli_log.proofs.Pops.{true_or_false}
use Rattle.neli_log.proofs.Waits.{eqb_refl, eqb_same, lookup_counts}
use Rattle.neli_log.proofs.Nexts.{slice_get_end}
use Rattle.std.specs.HashMap.{HashMap, get, values}
use Rattle.indexmap.specs.IndexMap.{insert_entry, swap_remove_entry}
use Rattle.std.proofs.lemmas.Map.Entries.{length-values_of}
use Rattle.neli_log.proofs.Numbers.{sum_inserted, sum_removed}
use Rattle.std.proofs.lemmas.List.Sums.{count_by-le-length}

pub standing_end : (ss : List Shared) (c : ℕ) → readers_at ss c (length ss) ≡ c
standing_end [] c = refl
standing_end (s ∷ ss) c = standing_end ss c

pub standing_read : (ss : List Shared) (c i : ℕ) (x : Shared) → i < length ss → x ≡ get_or ss i x
    → readers_at ss c i ≡ x.readers
standing_read [] c i x l h = absurd (omega arith)
standing_read (s ∷ ss) c zero x l h = ap (λ y. y.readers) (sym h)
standing_read (s ∷ ss) c (suc i) x l h = standing_read ss c i x (omega arith) h

standing_set_here : (ss : List Shared) (c i : ℕ) (x : Shared) → i < length ss
    → readers_at (set ss i x) c i ≡ x.readers
standing_set_here [] c i x h = absurd (omega arith)
standing_set_here (s ∷ ss) c zero x h = refl
standing_set_here (s ∷ ss) c (suc i) x h = standing_set_here ss c i x (omega arith)

standing_set_other : (ss : List Shared) (c i n : ℕ) (x : Shared) → n ≢ i
    → readers_at (set ss i x) c n ≡ readers_at ss c n
standing_set_other [] c i n x h = refl
standing_set_other (s ∷ ss) c zero zero x h = absurd (h refl)
standing_set_other (s ∷ ss) c zero (suc n) x h = refl
standing_set_other (s ∷ ss) c (suc i) zero x h = refl
standing_set_other (s ∷ ss) c (suc i) (suc n) x h = standing_set_other ss c i n x (λ e. h (ap suc e))

standing_caught_other : (ss : List Shared) (c c' n : ℕ) → n ≢ length ss → readers_at ss c' n ≡ readers_at ss c n
standing_caught_other [] c c' zero h = absurd (h refl)
standing_caught_other [] c c' (suc n) h = refl
standing_caught_other (s ∷ ss) c c' zero h = refl
standing_caught_other (s ∷ ss) c c' (suc n) h = standing_caught_other ss c c' n (λ e. h (ap suc e))

pub eqb_other : (m n : ℕ) → m ≢ n → (m == n) ≡ false
eqb_other m n h = grind (arith, nat_tests)

-- one fewer at index i
pub lower_at : (ss : List Shared) (c i : ℕ) (x y : Shared) (n : ℕ) → i < length ss → x ≡ get_or ss i x
    → y.readers ≡ x.readers - 1 → 0 < readers_at ss c i
    → readers_at (set ss i y) c n + (if n == i then 1 else 0) ≡ readers_at ss c n
lower_at ss c i x y n l h e some = elim (cases_eq n i) [
  | inl same ↦ (let a = standing_set_here ss c i y l in let b = standing_read ss c i x l h in
      rw (same, eqb_refl i, a, e, b) (omega arith))
  | inr other ↦ rw (eqb_other n i other, standing_set_other ss c i n y other) (omega arith)
]

pub lower_end : (ss : List Shared) (c i n : ℕ) → i ≤ length ss → length ss ≤ i → 0 < readers_at ss c i
    → readers_at ss (c - 1) n + (if n == i then 1 else 0) ≡ readers_at ss c n
lower_end ss c i n l g some =
    let at : i ≡ length ss = omega arith in
    let up : 0 < c = rw (at, standing_end) at some in
    rw at (elim (cases_eq n (length ss)) [
      | inl same ↦ rw (same, eqb_refl (length ss), standing_end ss (c - 1), standing_end ss c) (omega arith)
      | inr other ↦ rw (eqb_other n (length ss) other, standing_caught_other ss c (c - 1) n other) (omega arith)
    ])

-- one more at index i
pub raise_at : (ss : List Shared) (c i : ℕ) (x y : Shared) (n : ℕ) → i < length ss → x ≡ get_or ss i x
    → y.readers ≡ x.readers + 1
    → readers_at (set ss i y) c n ≡ readers_at ss c n + (if n == i then 1 else 0)
raise_at ss c i x y n l h e = elim (cases_eq n i) [
  | inl same ↦ (let a = standing_set_here ss c i y l in let b = standing_read ss c i x l h in
      rw (same, eqb_refl i, a, e, b) refl)
  | inr other ↦ rw (eqb_other n i other, standing_set_other ss c i n y other) (omega arith)
]

pub raise_end : (ss : List Shared) (c i n : ℕ) → i ≤ length ss → length ss ≤ i
    → readers_at ss (c + 1) n ≡ readers_at ss c n + (if n == i then 1 else 0)
raise_end ss c i n l g =
    let at : i ≡ length ss = omega arith in
    rw at (elim (cases_eq n (length ss)) [
      | inl same ↦ rw (same, eqb_refl (length ss), standing_end ss (c + 1), standing_end ss c) refl
      | inr other ↦ rw (eqb_other n (length ss) other, standing_caught_other ss c (c + 1) n other) (omega arith)
    ])

pub positions_set : (ss : List Shared) (i : ℕ) (x y : Shared) → i < length ss → x ≡ get_or ss i x → y.at ≡ x.at
    → map (λ s. s.at) (set ss i y) ≡ map (λ s. s.at) ss
positions_set [] i x y l h e = absurd (omega arith)
positions_set (s ∷ ss) zero x y l h e = let f : y.at ≡ s.at = e ∙ ap (λ z. z.at) h in ap (λ a. a ∷ map (λ z. z.at) ss) f
positions_set (s ∷ ss) (suc i) x y l h e = ap (λ t. s.at ∷ t) (positions_set ss i x y (omega arith) h e)

-- each place is an earlier one, or this one
abbrev pub Changed : (Option ℕ → Option Place) → (Option ℕ → Option Place) → Option ℕ → Place → Type 0
Changed place place' w x = (v : Option ℕ) (p : Place) → place' v ≡ Some p → (place v ≡ Some p) ⊎ ((v ≡ w) × (p ≡ x))

pub changed_number : (place place' : Option ℕ → Option Place) (n : ℕ) (x : Place) → place' None ≡ place None
    → ((q : ℕ) → place' (Some q) ≡ cond (nat_eq n q) (Some x) (place (Some q))) → Changed place place' (Some n) x
changed_number place place' n x none some None p is = inl (sym none ∙ is)
changed_number place place' n x none some (Some q) p is = elim (true_or_false (nat_eq n q)) [
  | inl it ↦ (let f = rw it at (sym (some q) ∙ is) in let same : x ≡ p = cc in
      inr (ap Some (sym (eqb_same n q it)), sym same))
  | inr it ↦ (let f = rw it at (sym (some q) ∙ is) in inl f)
]

pub sound_put : {T : Type 0} (place place' : Option ℕ → Option Place) (numbers numbers' : List Place)
    (base shared_base c c' : ℕ) (es : List (Entry T)) (links : List (Option ℕ)) (shared shared' : List Shared)
    (w : Option ℕ) (x : Place)
    → Changed place place' w x → IsPlace w base es links x → ((q : ℕ) → w ≡ Some q → CountsPassed shared_base base es x)
    → map (λ s. s.at) shared' ≡ map (λ s. s.at) shared
    → ((n : ℕ) → readers_at shared' c' n ≡ waiting_count (shared_base + n) numbers')
    → AreSound place numbers base shared_base c es links shared
    → AreSound place' numbers' base shared_base c' es links shared'
sound_put place place' numbers numbers' base shared_base c c' es links shared shared' w x changed good seen same stand
    h = record {
      fits = h.fits;
      shared_fits = (let l : length shared' ≡ length shared = sym (length-map shared' (λ s. s.at))
          ∙ (ap length same ∙ length-map shared (λ s. s.at)) in let f = h.shared_fits in omega arith);
      as_long = h.as_long;
      places = λ v p is. elim (changed v p is) [ inl old ↦ h.places v p old | inr new ↦ rw (new.0, new.1) good ];
      passed = λ q p is. elim (changed (Some q) p is) [
        | inl old ↦ h.passed q p old
        | inr new ↦
            (rw new.1 (seen q (sym new.0)))
      ];
      positions_are = same ∙ h.positions_are;
      standing_are = stand;
    }

pub sound_less : {T : Type 0} (place place' : Option ℕ
    → Option Place) (numbers numbers' : List Place) (base shared_base c c' : ℕ) (es : List (Entry T))
    (links : List (Option ℕ)) (shared shared' : List Shared)
    → ((v : Option ℕ) (p : Place) → place' v ≡ Some p → place v ≡ Some p)
    → map (λ s. s.at) shared' ≡ map (λ s. s.at) shared
    → ((n : ℕ) → readers_at shared' c' n ≡ waiting_count (shared_base + n) numbers')
    → AreSound place numbers base shared_base c es links shared
    → AreSound place' numbers' base shared_base c' es links shared'
sound_less place place' numbers numbers' base shared_base c c' es links shared shared' changed same stand h = record {
  fits = h.fits;
  shared_fits = (let l : length shared' ≡ length shared = sym (length-map shared' (λ s. s.at))
      ∙ (ap length same ∙ length-map shared (λ s. s.at)) in let f = h.shared_fits in omega arith);
  as_long = h.as_long;
  places = λ v p is. h.places v p (changed v p is);
  passed = λ q p is. h.passed q p (changed (Some q) p is);
  positions_are = same ∙ h.positions_are;
  standing_are = stand;
}

pub removed : (place place' : Option ℕ → Option Place) (n : ℕ) → place' None ≡ place None
    → ((q : ℕ) → place' (Some q) ≡ cond (nat_eq n q) None (place (Some q))) → (v : Option ℕ) (p : Place)
    → place' v ≡ Some p → place v ≡ Some p
removed place place' n none some None p is = sym none ∙ is
removed place place' n none some (Some q) p is = elim (true_or_false (nat_eq n q)) [
  | inl it ↦ (let f = rw it at (sym (some q) ∙ is) in cc)
  | inr it ↦ (let f = rw it at (sym (some q) ∙ is) in f)
]

-- a new place after the last entry
pub drop_end : {T : Type 0} (es : List (Entry T)) (n : ℕ) → length es ≤ n → drop n es ≡ []
drop_end [] zero h = refl
drop_end [] (suc n) h = refl
drop_end (e ∷ es) zero h = absurd (omega arith)
drop_end (e ∷ es) (suc n) h = drop_end es n (omega arith)

take_end : {T : Type 0} (es : List (Entry T)) (n : ℕ) → length es ≤ n → take n es ≡ es
take_end [] zero h = refl
take_end [] (suc n) h = refl
take_end (e ∷ es) zero h = absurd (omega arith)
take_end (e ∷ es) (suc n) h = ap (λ l. e ∷ l) (take_end es n (omega arith))

pub positions_count : {T : Type 0} (n : ℕ) (es : List (Entry T)) → length (shared_positions n es) ≡ shared_count es
positions_count n [] = refl
positions_count n (e ∷ es) = elim (true_or_false (is_shared e.route)) [
  | inl it ↦ rw it (ap suc (positions_count (suc n) es))
  | inr it ↦ rw it (positions_count (suc n) es)
]

-- each shared entry has a position
pub shared_length : {T : Type 0} (base : ℕ) (es : List (Entry T)) (shared : List Shared)
    → map (λ s. s.at) shared ≡ shared_positions base es → length shared ≡ shared_count es
shared_length base es shared are = sym (length-map shared (λ s. s.at)) ∙ (ap length are ∙ positions_count base es)

pub fresh_place : {T : Type 0} (w : Option ℕ) (base : ℕ) (es : List (Entry T)) (links : List (Option ℕ)) (x : Place)
    → x.from ≡ base + length es → x.chain ≡ None → IsPlace w base es links x
fresh_place w base es links x from none =
    let k : length es ≤ x.from - base = omega arith in
    record {
      within = (omega arith);
      chain = rw (none, drop_end es (x.from - base) k) refl;
      linked = λ i e ge at is. (let f = slice_get_end es i e at in absurd (omega arith));
    }

pub fresh_seen : {T : Type 0} (shared_base base : ℕ) (es : List (Entry T)) (shared : List Shared) (x : Place)
    → x.from ≡ base + length es → x.shared_passed ≡ shared_base + length shared
    → map (λ s. s.at) shared ≡ shared_positions base es → CountsPassed shared_base base es x
fresh_seen shared_base base es shared x from seen sp =
    let k : length es ≤ x.from - base = omega arith in
    let l : length shared ≡ shared_count es = shared_length base es shared sp in
    rw (take_end es (x.from - base) k) (seen ∙ ap (λ n. shared_base + n) l)

abbrev one_at : ℕ → Place → ℕ
one_at k p = cond (p.shared_passed == k) 1 0

pub waiting_put : {S : Type 0} (m n : HashMap ℕ Place S) (q k : ℕ) (x : Place)
    → get nat_eq m q ≡ None → n.entries ≡ insert_entry nat_eq m.entries q x
    → waiting_count k (values n) ≡ waiting_count k (values m) + (if x.shared_passed == k then 1 else 0)
waiting_put m n q k x none puts = sum_inserted (one_at k) m n q x none puts

pub waiting_removed : {S : Type 0} (m n : HashMap ℕ Place S) (q k i : ℕ) (y : Place)
    → position (nat_eq q) (keys_of m.entries) ≡ Some i → n.entries ≡ swap_remove_entry (nat_eq q) m.entries → get nat_eq m q ≡ Some y
    → waiting_count k (values n) + (if y.shared_passed == k then 1 else 0) ≡ waiting_count k (values m)
waiting_removed m n q k i y at less is = sum_removed (one_at k) m n q i y at less is

pub few_waiting : (k : ℕ) (ps : List Place) → waiting_count k ps ≤ length ps
few_waiting k ps = count_by-le-length (λ p. p.shared_passed == k) ps

pub count_split : {T : Type 0} (k : ℕ) (es : List (Entry T)) → shared_count (take k es) ≤ shared_count es
count_split zero es = omega arith
count_split (suc k) [] = omega arith
count_split (suc k) (e ∷ es) = elim (true_or_false (is_shared e.route)) [
  | inl it ↦ rw it (let f = count_split k es in omega arith)
  | inr it ↦ rw it (count_split k es)
]

-- the facts about a place's serial number
pub seen_bounds : {T : Type 0} (shared_base base : ℕ) (es : List (Entry T)) (shared : List Shared) (p : Place)
    → map (λ s. s.at) shared ≡ shared_positions base es → CountsPassed shared_base base es p
    → (shared_base ≤ p.shared_passed) × (p.shared_passed - shared_base ≤ length shared)
seen_bounds shared_base base es shared p sp h =
    let l : length shared ≡ shared_count es = shared_length base es shared sp in
    let le = count_split (p.from - base) es in
    (omega (arith, h), omega (arith, h, l, le))

module _ {S T : Type 0} (m : HashMap ℕ Place S) (place : Option ℕ → Option Place) (place_is : (q : ℕ)
    → place (Some q) ≡ get nat_eq m q)
    (base shared_base c : ℕ) (es : List (Entry T)) (links : List (Option ℕ)) (shared : List Shared)
    (h : AreSound place (values m) base shared_base c es links shared) where
  pub place_bounds : (q : ℕ) (p : Place) → get nat_eq m q ≡ Some p
      → (shared_base ≤ p.shared_passed) × (p.shared_passed - shared_base ≤ length shared)
  place_bounds q p is = seen_bounds shared_base base es shared p h.positions_are (h.passed q p (place_is q ∙ is))

  pub place_standing : (q : ℕ) (p : Place) → get nat_eq m q ≡ Some p
      → 0 < readers_at shared c (p.shared_passed - shared_base)
  place_standing q p is =
      let b = place_bounds q p is in
      let n : shared_base + (p.shared_passed - shared_base) ≡ p.shared_passed = omega (arith, b.0) in
      let f = lookup_counts (λ x. x.shared_passed == p.shared_passed) q m.entries p is (eqb_refl p.shared_passed) in
      let g = h.standing_are (p.shared_passed - shared_base) in
      rw (g, n) f

  -- its place is gone
  pub sound_closed : (n : HashMap ℕ Place S) (place' : Option ℕ
      → Option Place) (q c' i : ℕ) (p : Place) (shared' : List Shared) → get nat_eq m q ≡ Some p
      → position (nat_eq q) (keys_of m.entries) ≡ Some i
      → n.entries ≡ swap_remove_entry (nat_eq q) m.entries
      → place' None ≡ place None → ((r : ℕ) → place' (Some r) ≡ cond (nat_eq q r) None (place (Some r)))
      → ((k : ℕ) → readers_at shared' c' k + (if k == (p.shared_passed - shared_base) then 1 else 0)
      ≡ readers_at shared c k)
      → map (λ s. s.at) shared' ≡ map (λ s. s.at) shared
      → AreSound place' (values n) base shared_base c' es links shared'
  sound_closed n place' q c' i p shared' is index gone none some less same =
      let b = place_bounds q p is in
      sound_less place place' (values m) (values n) base shared_base c c' es links shared shared'
      (removed place place' q none some) same
      (λ k.
      let a = waiting_removed m n q (shared_base + k) i p index gone is in
      let d = less k in
      let g = h.standing_are k in
      elim (cases_eq k (p.shared_passed - shared_base)) [
        | inl at ↦ (let s : p.shared_passed ≡ shared_base + k = omega (arith, b.0) in
            let a1 = rw (s, eqb_refl (shared_base + k)) at a in let d1 = rw (← at, eqb_refl k) at d in
            omega (arith, a1, d1, g))
        | inr away ↦ (let s : (p.shared_passed == (shared_base + k))
            ≡ false = eqb_other p.shared_passed (shared_base + k) (λ e. away (omega (arith, e))) in
            let a1 = rw s at a in
            let d1 = rw (eqb_other k (p.shared_passed - shared_base) away) at d in omega (arith, a1, d1, g))
      ]) h

pub unchanged : (place place' : Option ℕ → Option Place) → place' None ≡ place None
    → ((q : ℕ) → place' (Some q) ≡ place (Some q)) → (v : Option ℕ) (p : Place) → place' v ≡ Some p → place v ≡ Some p
unchanged place place' none some None p is = sym none ∙ is
unchanged place place' none some (Some q) p is = sym (some q) ∙ is

pub kept_trimmed : {T : Type 0} (place place' : Option ℕ → Option Place) (base : ℕ) (es : List (Entry T))
    → ((v : Option ℕ) (p : Place) → place v ≡ Some p → place' v ≡ Some p) → BeginsAwaited place base es
    → BeginsAwaited place' base es
kept_trimmed place place' base [] keeps h = tt
kept_trimmed place place' base (e ∷ es) keeps h = (h.0, h.1, keeps h.0 h.1 h.2, h.3, h.4)

pub put_keeps : (place place' : Option ℕ → Option Place) (n : ℕ) (x : Place) → place (Some n) ≡ None
    → place' None ≡ place None → ((q : ℕ) → place' (Some q) ≡ cond (nat_eq n q) (Some x) (place (Some q)))
    → (v : Option ℕ) (p : Place) → place v ≡ Some p → place' v ≡ Some p
put_keeps place place' n x closed none some None p is = none ∙ is
put_keeps place place' n x closed none some (Some q) p is = elim (true_or_false (nat_eq n q)) [
  | inl it ↦ (let same : n ≡ q = eqb_same n q it in let f : place (Some q) ≡ None = rw (← same) closed in cc)
  | inr it ↦ (let f = rw it at (some q) in f ∙ is)
]

pub mapped_none : {A B : Type 0} (f : A → B) (o : Option A) → option_map f o ≡ None → o ≡ None
mapped_none f None h = refl
mapped_none f (Some x) h = cc

module _ {S T : Type 0} (m n : HashMap ℕ Place S) (place place' : Option ℕ
    → Option Place) (base shared_base c : ℕ) (es : List (Entry T)) (links : List (Option ℕ)) (shared : List Shared)
    (h : AreSound place (values m) base shared_base c es links shared) where
  pub sound_unchanged : n.entries ≡ m.entries → place' None ≡ place None → ((q : ℕ) → place' (Some q) ≡ place (Some q))
      → AreSound place' (values n) base shared_base c es links shared
  sound_unchanged same none some = sound_less place place' (values m)
      (values n) base shared_base c c es links shared shared (unchanged place place' none some) refl
      (λ k. rw same (h.standing_are k)) h

  pub few_caught : c ≤ length m.entries
  few_caught =
      let a = h.standing_are (length shared) in
      let b = standing_end shared c in
      let f = few_waiting (shared_base + length shared) (values m) in
      omega (arith, a, b, f, length-values_of m.entries)

  -- a place after the last entry is added
  pub sound_opened : (q : ℕ) (x : Place) → place (Some q) ≡ None → get nat_eq m q ≡ None
      → n.entries ≡ insert_entry nat_eq m.entries q x
      → place' None ≡ place None → ((r : ℕ) → place' (Some r) ≡ cond (nat_eq q r) (Some x) (place (Some r)))
      → x.from ≡ base + length es → x.chain ≡ None → x.shared_passed ≡ shared_base + length shared
      → AreSound place' (values n) base shared_base (c + 1) es links shared
  sound_opened q x closed unheld puts none some from own_none seen =
      sound_put place place' (values m) (values n) base shared_base c (c + 1) es links shared shared (Some q) x
      (changed_number place place' q x none some) (fresh_place (Some q) base es links x from own_none)
      (λ r _. fresh_seen shared_base base es shared x from seen h.positions_are) refl
      (λ k.
      let a = waiting_put m n q (shared_base + k) x unheld puts in
      let d = raise_end shared c (length shared) k (omega arith) (omega arith) in
      let g = h.standing_are k in
      elim (cases_eq k (length shared)) [
        | inl at ↦ (let s : x.shared_passed ≡ shared_base + k = seen ∙ ap (λ i. shared_base + i) (sym at) in
            let a1 = rw (s, eqb_refl (shared_base + k)) at a in let d1 = rw (← at, eqb_refl k) at d in
            omega (arith, a1, d1, g))
        | inr away ↦ (let s : (x.shared_passed == (shared_base + k))
            ≡ false = eqb_other x.shared_passed (shared_base + k) (λ e. away (omega (arith, e, seen))) in
            let a1 = rw s at a in
            let d1 = rw (eqb_other k (length shared) away) at d in omega (arith, a1, d1, g))
      ]) h
