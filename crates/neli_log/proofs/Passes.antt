-- A place moves past the first entry that it waits for.
use Rattle.std.proofs.Common.{ℕ, zero, suc, ◌≡◌, ◌≢◌, ◌+◌, ◌-◌, ◌≤◌, ◌<◌, Bool, true, false, cond, List}
use Rattle.std.proofs.Common.{[], ◌∷◌, drop}
use Rattle.std.proofs.Common.{take, map, Option, Some, None, refl, sym, ap, ◌∙◌, inl, inr, arith}
use Rattle.std.specs.Prelude.{◌==◌, if◌then◌else◌, nat_eq}
use Rattle.std.specs.List.{slice_get}
use Rattle.std.specs.Option.{option_map}
use Rattle.std.proofs.lemmas.Bool.{cases_lt, cases_eq}
use Rattle.std.proofs.lemmas.List.{drop-drop}
use Rattle.neli_log.specs.declared.entry.Entry.{Entry}
use Rattle.neli_log.specs.declared.entry.Route.{Route}
use Rattle.neli_log.specs.declared.entry.Route.TheVariants.{Multicast, Number, Numbers}
use Rattle.neli_log.specs.declared.place.Chain.{Chain}
use Rattle.neli_log.specs.declared.place.Place.{Place}
use Rattle.neli_log.specs.declared.place.Shared.{Shared}
use Rattle.neli_log.specs.Routes.{leads, leads_only, is_shared, items_for, first_position, shared_count}
use Rattle.neli_log.specs.Places.{IsChain, IsLinked, IsPlace, CountsPassed, AreSound, rest, without_first}
use Rattle.neli_log.specs.Places.{readers_at, waiting_count}
use Rattle.neli_log.proofs.Pops.{true_or_false, not_own}
use Rattle.neli_log.proofs.Waits.{eqb_refl}
use Rattle.std.specs.Map.{lookup, set_value, values_of}
use Rattle.std.specs.HashMap.{HashMap, get, values}
use Rattle.std.proofs.lemmas.Map.Entries.{sum_by-set_value}
use Rattle.neli_log.proofs.Changes.{changed_number, count_split, sound_put, eqb_other}
use Rattle.neli_log.proofs.Nexts.{IsFirst, IsNext, next_is, found_some, found_none, found_is, skip_found}
use Rattle.neli_log.proofs.Nexts.{items_first, slice_get_drop, to_neither, own_unshared, not_shared}

takes : {T : Type 0} (b : ℕ) (es : List (Entry T)) → es ≡ [] → 0 ≡ 0 + shared_count (take b es)
takes zero es h = omega arith
takes (suc b) [] h = omega arith
takes (suc b) (e ∷ es) h = cc

count_add : {T : Type 0} (a b : ℕ) (es : List (Entry T))
    → shared_count (take (a + b) es) ≡ shared_count (take a es) + shared_count (take b (drop a es))
count_add zero b es = let s : 0 + b ≡ b = omega arith in rw s (omega arith)
count_add (suc a) b [] = let s : suc a + b ≡ suc (a + b) = omega arith in rw s (takes b [] refl)
count_add (suc a) b (e ∷ es) =
    let s : suc a + b ≡ suc (a + b) = omega arith in
    let r = count_add a b es in
    elim (true_or_false (is_shared e.route)) [ inl it ↦ rw (s, it) (omega (arith, r)) | inr it ↦ rw (s, it) r ]

count_none : {T : Type 0} (b : ℕ) (es : List (Entry T))
    → ((j : ℕ) (x : Entry T) → j < b → slice_get es j ≡ Some x → is_shared x.route ≡ false)
    → shared_count (take b es) ≡ 0
count_none zero es h = refl
count_none (suc b) [] h = refl
count_none (suc b) (e ∷ es) h =
    let off : is_shared e.route ≡ false = h 0 e (omega arith) refl in
    rw off (count_none b es (λ j x lt at. h (suc j) x (omega arith) at))

count_one : {T : Type 0} (b : ℕ) (es : List (Entry T)) (e : Entry T) → slice_get es b ≡ Some e
    → is_shared e.route ≡ true → ((j : ℕ) (x : Entry T) → j < b → slice_get es j ≡ Some x → is_shared x.route ≡ false)
    → shared_count (take (suc b) es) ≡ 1
count_one b [] e at it h = cc
count_one zero (x ∷ es) e at it h = let same : x ≡ e = cc in
    let f : is_shared x.route ≡ true = ap (λ y. is_shared y.route) same ∙ it in rw f refl
count_one (suc b) (x ∷ es) e at it h =
    let off : is_shared x.route ≡ false = h 0 x (omega arith) refl in
    rw off (count_one b es e at it (λ j y lt there. h (suc j) y (omega arith) there))

upto : {T : Type 0} (p : Route → Bool) (i : ℕ) (l : List (Entry T)) (e : Entry T) → slice_get l i ≡ Some e
    → p e.route ≡ false → ((j : ℕ) (x : Entry T) → j < i → slice_get l j ≡ Some x → p x.route ≡ false)
    → (j : ℕ) (x : Entry T) → j < suc i → slice_get l j ≡ Some x → p x.route ≡ false
upto p i l e at off before j x lt there = elim (cases_lt j i) [
  | inl less ↦ before j x less there
  | inr ge ↦ (let s : j ≡ i = omega arith in let t = rw s at there in let same : e ≡ x = cc in
      ap (λ y. p y.route) (sym same) ∙ off)
]

module _ {T : Type 0} (w : Option ℕ) (base : ℕ) (es : List (Entry T)) (links : List (Option ℕ)) (p : Place) (m i : ℕ)
    (e : Entry T) (n : IsNext w base es p m i e) where
  k : ℕ
  k = p.from - base

  pub behind : m + 1 - base ≡ (p.from - base) + suc i
  behind = let f = n.position in omega arith

  there : slice_get es ((p.from - base) + i) ≡ Some e
  there = let s : m - base ≡ (p.from - base) + i = (let f = n.position in omega arith) in rw (← s) n.at

  pub passed_items : items_for w (drop (p.from - base) es) ≡ e.item ∷ items_for w (drop (m + 1 - base) es)
  passed_items = rw (behind, ← drop-drop (suc i) (p.from - base) es)
      (items_first w i (drop (p.from - base) es) e n.here)

  found_own_same : leads_only w e.route ≡ false → first_position (leads_only w) (base + (m + 1 - base))
      (drop (m + 1 - base) es) ≡ first_position (leads_only w) (base + (p.from - base)) (drop (p.from - base) es)
  found_own_same off =
      let s : base + ((p.from - base) + suc i) ≡ base + (p.from - base) + suc i = omega arith in
      rw (behind, s, ← drop-drop (suc i) (p.from - base) es)
      (sym (skip_found (leads_only w) (suc i) (base + (p.from - base)) (drop (p.from - base) es)
      (upto (leads_only w) i (drop (p.from - base) es) e n.here.at off
      (λ j x lt at. not_own w x.route (n.here.before j x lt at)))))

  pub linked_on : IsLinked w base es links (p.from - base) → IsLinked w base es links (m + 1 - base)
  linked_on h j x ge at is = h j x (let f = n.position in omega arith) at is

  own_here : leads_only w e.route ≡ true → IsFirst (leads_only w) (drop (p.from - base) es) i e
  own_here mine = record {
    at = n.here.at;
    passes = mine;
    before = λ j x lt at. not_own w x.route (n.here.before j x lt at);
  }

  pub chain_shared : (o : Option Chain) → leads_only w e.route ≡ false → IsChain w base es (p.from - base) o
      → IsChain w base es (m + 1 - base) o
  chain_shared None off h = found_own_same off ∙ h
  chain_shared (Some c) off h = (found_own_same off ∙ h.0, h.1, h.2, h.3, h.4)

  bound : (last f : ℕ) → base ≤ last → first_position (leads_only w) (base + (m + 1 - base)) (drop (m + 1 - base) es)
      ≡ Some f → first_position (leads_only w) (suc last) (drop (suc (last - base)) es) ≡ None → f ≤ last
  bound last f ge h none =
      let r = found_some (leads_only w) (base + (m + 1 - base)) (drop (m + 1 - base) es) f h in
      elim (cases_lt last f) [
        | inl lt ↦
            let j : ℕ = f - base - suc (last - base) in
            let g = r.2 in
            let s : suc (last - base) + (f - base - suc (last - base)) ≡ (m + 1 - base) + r.0 = omega arith in
            let at : slice_get (drop (suc (last - base)) es) (f - base - suc (last - base)) ≡ Some r.1 =
            rw (
              slice_get_drop (suc (last - base)) (f - base - suc (last - base)) es,
              s,
              ← slice_get_drop (m + 1 - base) r.0 es,
            ) r.3.at in
            let off = found_none (leads_only w) (suc last) (drop (suc (last - base)) es) none
            (f - base - suc (last - base)) r.1 at in
            let on = r.3.passes in
            cc
        | inr le ↦ le
      ]

  link_here : leads_only w e.route ≡ true → IsLinked w base es links (p.from - base) → (l : Option ℕ)
      → slice_get links (m - base) ≡ Some l → l ≡ first_position (leads_only w) (base + (m + 1 - base))
      (drop (m + 1 - base) es)
  link_here mine h l at =
      let f = n.position in
      let a = h (m - base) e (omega arith) n.at mine in
      let s : suc (base + (m - base)) ≡ base + (m + 1 - base) = (let g = n.from_base in omega arith) in
      let t : suc (m - base) ≡ m + 1 - base = (let g = n.from_base in omega arith) in
      let b = rw (s, t) at a in
      cc

  pub chain_own : (o : Option Chain) (l : Option ℕ) → leads_only w e.route ≡ true → IsChain w base es (p.from - base) o
      → l ≡ first_position (leads_only w) (base + (m + 1 - base)) (drop (m + 1 - base) es)
      → IsChain w base es (m + 1 - base) (without_first o l)
  chain_own None l mine h is = (let f = found_is (leads_only w) i (base + (p.from - base)) (drop (p.from - base) es) e
      (own_here mine) in let g : ◌≡◌ {A = Option ℕ} None (Some (base + (p.from - base) + i)) = sym h ∙ f in cc)
  chain_own (Some c) None mine h is = sym is
  chain_own (Some c) (Some f) mine h is =
      let a = found_is (leads_only w) i (base + (p.from - base)) (drop (p.from - base) es) e (own_here mine) in
      let first : c.first ≡ base + (p.from - base) + i = (let b = h.0 in cc) in
      let ge : base ≤ c.last = (let le = h.1 in omega arith) in
      (sym is, bound c.last f ge (sym is) h.4, h.2, h.3, h.4)

  pub place_own : (x : Place) (l : Option ℕ) → leads_only w e.route ≡ true → slice_get links (m - base) ≡ Some l
      → x.from ≡ m + 1 → x.chain ≡ without_first p.chain l → IsPlace w base es links p → IsPlace w base es links x
  place_own x l mine at from owned h = record {
    within = (let a = n.within in let b = n.from_base in omega arith);
    chain = rw (from, owned) (chain_own p.chain l mine h.chain (link_here mine h.linked l at));
    linked = rw from (linked_on h.linked);
  }

  pub place_shared : (x : Place) → is_shared e.route ≡ true → x.from ≡ m + 1 → x.chain ≡ p.chain
      → IsPlace w base es links p → IsPlace w base es links x
  place_shared x it from owned h = record {
    within = (let a = n.within in let b = n.from_base in omega arith);
    chain = rw (from, owned) (chain_shared p.chain (own_unshared w e.route it) h.chain);
    linked = rw from (linked_on h.linked);
  }

  before_unshared : (q : ℕ) → w ≡ Some q → (j : ℕ) (x : Entry T) → j < i
      → slice_get (drop (p.from - base) es) j ≡ Some x → is_shared x.route ≡ false
  before_unshared q is j x lt at = not_shared q x.route (rw is at (n.here.before j x lt at))

  pub seen_own : (q shared_base : ℕ) (x : Place) → w ≡ Some q → is_shared e.route ≡ false → x.from ≡ m + 1
      → x.shared_passed ≡ p.shared_passed → CountsPassed shared_base base es p → CountsPassed shared_base base es x
  seen_own q shared_base x is off from same h =
      let a = count_add (p.from - base) (suc i) es in
      let b = count_none (suc i) (drop (p.from - base) es)
      (upto is_shared i (drop (p.from - base) es) e n.here.at off (before_unshared q is)) in
      rw (from, behind) (omega (arith, a, b, h, same))

  pub counted_shared : (q : ℕ) → w ≡ Some q → is_shared e.route ≡ true
      → shared_count (take (m + 1 - base) es) ≡ shared_count (take (p.from - base) es) + 1
  counted_shared q is it =
      let a = count_add (p.from - base) (suc i) es in
      let b = count_one i (drop (p.from - base) es) e n.here.at it (before_unshared q is) in
      rw behind (omega (arith, a, b))

  -- a place before a shared entry has not passed all of them
  pub passed_less : (q shared_base : ℕ) → w ≡ Some q → is_shared e.route ≡ true → CountsPassed shared_base base es p
      → p.shared_passed < shared_base + shared_count es
  passed_less q shared_base is it seen =
      let a = counted_shared q is it in
      let le = count_split (m + 1 - base) es in
      omega (arith, a, le, seen)

  pub seen_shared : (q shared_base : ℕ) (x : Place) → w ≡ Some q → is_shared e.route ≡ true → x.from ≡ m + 1
      → x.shared_passed ≡ p.shared_passed + 1 → CountsPassed shared_base base es p → CountsPassed shared_base base es x
  seen_shared q shared_base x is it from same h = let a = counted_shared q is it in rw from (omega (arith, a, h, same))

-- the change of the waiting items
pub passed_pending : {T : Type 0} (w : Option ℕ) (base : ℕ) (es : List (Entry T)) (p x : Place) (o o' : Option Place)
    (m : ℕ) (d : T) (ds : List T) → o ≡ Some p → o' ≡ Some x → x.from ≡ m + 1
    → first_position (leads w) (base + (p.from - base)) (rest base es p) ≡ Some m
    → option_map (λ p. items_for w (rest base es p)) o ≡ Some (d ∷ ds)
    → option_map (λ p. items_for w (rest base es p)) o' ≡ Some ds
passed_pending w base es p x o o' m d ds is is' from h old =
    let n = next_is w base es p m h in
    let a = rw (is, passed_items w base es [] p m n.0 n.1 n.2) at old in
    let same : items_for w (drop (m + 1 - base) es) ≡ ds = cc in
    rw (is', from) (ap Some same)

-- no item waited
pub nothing_pending : {T : Type 0} (w : Option ℕ) (base : ℕ) (es : List (Entry T)) (p : Place) (o : Option Place)
    (d : T) (ds : List T) → o ≡ Some p → items_for w (rest base es p) ≡ []
    → option_map (λ p. items_for w (rest base es p)) o ≡ Some (d ∷ ds) → ⊥
nothing_pending w base es p o d ds is none old = let a = rw (is, none) at old in cc

pub unshared_own : (w : Option ℕ) (r : Route) → leads_only w r ≡ true → is_shared r ≡ false
unshared_own w r h = elim (true_or_false (is_shared r)) [ inl it ↦ (let f = own_unshared w r it in cc) | inr it ↦ it ]

pub own_by_to : (w : Option ℕ) (r : Route) → leads w r ≡ true → is_shared r ≡ false → leads_only w r ≡ true
own_by_to w r t s = elim (true_or_false (leads_only w r)) [ inl it ↦ it | inr it ↦ (let f = to_neither w r it s in cc) ]

pub own_by_multicast : (r : Route) → leads None r ≡ true → leads_only None r ≡ true
own_by_multicast Multicast t = refl
own_by_multicast (Number n) t = cc
own_by_multicast Numbers t = cc

-- every entry at that position is the one that was found
pub same_entry : {A : Type 0} (es : List A) (i : ℕ) (e x : A) → slice_get es i ≡ Some e → slice_get es i ≡ Some x
    → e ≡ x
same_entry es i e x a b = cc

pub shift : (base n i s : ℕ) → s ≡ base + i → (s == (base + n)) ≡ (n == i)
shift base n i s is = elim (cases_eq n i) [
  | inl same ↦ (let f : s ≡ base + n = is ∙ ap (λ j. base + j) (sym same) in
      rw (f, same, eqb_refl i, eqb_refl (base + i)) refl)
  | inr other ↦ (let f : s ≢ base + n = (λ e. other (omega (arith, e, is))) in
      eqb_other s (base + n) f ∙ sym (eqb_other n i other))
]

abbrev one_at : ℕ → Place → ℕ
one_at k p = cond (p.shared_passed == k) 1 0

pub waiting_set : (entries : List (ℕ × Place)) (q k : ℕ) (x y : Place) → lookup (nat_eq q) entries ≡ Some y
    → waiting_count k (values_of (set_value (nat_eq q) entries x)) + (if y.shared_passed == k then 1 else 0)
    ≡ waiting_count k (values_of entries) + (if x.shared_passed == k then 1 else 0)
waiting_set entries q k x y is = sum_by-set_value (one_at k) (nat_eq q) entries y x is

cancel : (a b t u : ℕ) → a + t ≡ b + u → u ≡ t → a ≡ b
cancel a b t u h e = omega arith

pub waiting_same : (entries : List (ℕ × Place)) (q k : ℕ) (x y : Place) → lookup (nat_eq q) entries ≡ Some y
    → x.shared_passed ≡ y.shared_passed → waiting_count k (values_of (set_value (nat_eq q) entries x))
    ≡ waiting_count k (values_of entries)
waiting_same entries q k x y is same = cancel _ _ _ _ (waiting_set entries q k x y is)
    (ap (λ (n : ℕ). if n == k then 1 else 0) same)

module _ {S T : Type 0} (a b : HashMap ℕ Place S) (place place' : Option ℕ
    → Option Place) (base shared_base c : ℕ) (es : List (Entry T)) (links : List (Option ℕ)) (shared : List Shared)
    (h : AreSound place (values a) base shared_base c es links shared) (q : ℕ) (y x : Place)
    (is : get nat_eq a q ≡ Some y) (set_to : b.entries ≡ set_value (nat_eq q) a.entries x)
    (none : place' None ≡ place None) (some : (r : ℕ) → place' (Some r) ≡ (if nat_eq q r then Some x
    else place (Some r)))
    (good : IsPlace (Some q) base es links x) (counted : CountsPassed shared_base base es x) where
  pub sound_passed : x.shared_passed ≡ y.shared_passed → AreSound place' (values b) base shared_base c es links shared
  sound_passed same =
      sound_put place place' (values a) (values b) base shared_base c c es links shared shared (Some q) x
      (changed_number place place' q x none some) good (λ r _. counted) refl
      (λ k. let s = ap values_of set_to in rw s (h.standing_are k
      ∙ sym (waiting_same a.entries q (shared_base + k) x y is same))) h

  pub sound_moved : (shared1 shared2 : List Shared) (c1 c2 i : ℕ) → y.shared_passed ≡ shared_base + i
      → x.shared_passed ≡ shared_base + (i + 1)
      → ((n : ℕ) → readers_at shared1 c1 n + (if n == i then 1 else 0) ≡ readers_at shared c n)
      → ((n : ℕ) → readers_at shared2 c2 n ≡ readers_at shared1 c1 n + (if n == (i + 1) then 1 else 0))
      → map (λ s. s.at) shared1 ≡ map (λ s. s.at) shared → map (λ s. s.at) shared2 ≡ map (λ s. s.at) shared1
      → AreSound place' (values b) base shared_base c2 es links shared2
  sound_moved shared1 shared2 c1 c2 i y_is x_is less more same1 same2 =
      sound_put place place' (values a) (values b) base shared_base c c2 es links shared shared2 (Some q) x
      (changed_number place place' q x none some) good (λ r _. counted) (same2 ∙ same1)
      (λ k.
      let f = rw (shift shared_base k i y.shared_passed y_is, shift shared_base k (i + 1) x.shared_passed x_is) at
      (waiting_set a.entries q (shared_base + k) x y is) in
      let g = h.standing_are k in let l = less k in let m = more k in
      let s = ap values_of set_to in rw s (omega (arith, f, g, l, m))) h
