-- An entry is added.
use Rattle.std.proofs.Common.{ℕ, zero, suc, ◌≡◌, ◌≢◌, ◌+◌, ◌-◌, ◌≤◌, ◌<◌, ◌^◌, Bool, true, false, cond}
use Rattle.std.proofs.Common.{List, [], ◌∷◌}
use Rattle.std.proofs.Common.{◌++◌, length, drop, map, Option, Some, None, refl, sym, ap, ◌∙◌, inl, inr}
use Rattle.std.proofs.Common.{◌⊎◌, arith}
use Rattle.std.specs.Prelude.{nat_eq}
use Rattle.std.specs.List.{slice_get}
use Rattle.std.specs.Option.{option_map}
use Rattle.std.proofs.Math.ListN.{set}
use Rattle.std.proofs.lemmas.Bool.{cases_lt, cases_eq, cases_order}
use Rattle.std.proofs.lemmas.List.{length-set}
use Rattle.neli_log.specs.declared.entry.Entry.{Entry}
use Rattle.neli_log.specs.declared.entry.Route.{Route}
use Rattle.neli_log.specs.declared.entry.Route.TheVariants.{Multicast, Number, Numbers}
use Rattle.neli_log.specs.declared.place.Chain.{Chain}
use Rattle.neli_log.specs.declared.place.Place.{Place}
use Rattle.neli_log.specs.declared.place.Shared.{Shared}
use Rattle.neli_log.specs.Routes.{leads, leads_only, is_shared, items_for, first_position, shared_positions}
use Rattle.neli_log.specs.Places.{IsChain, IsLinked, IsPlace, CountsPassed, AreSound, BeginsAwaited, rest}
use Rattle.neli_log.specs.Places.{readers_at, waiting_count}
use Rattle.neli_log.proofs.Pops.{true_or_false, found_from}
use Rattle.neli_log.proofs.Waits.{eqb_refl, eqb_same}
use Rattle.std.specs.Map.{lookup}
use Rattle.std.proofs.Common.{length-append, length-drop}
use Rattle.neli_log.proofs.Changes.{drop_end}
use Rattle.neli_log.proofs.Nexts.{found_none, slice_get_drop, slice_get_end, own_unshared}
use Rattle.std.proofs.lemmas.List.{drop-append-le, take-append-le}
use Rattle.neli_log.specs.Places.{extended, with_last, links_with}

pub found_push_other : {T : Type 0} (p : Route → Bool) (n : ℕ) (l : List (Entry T)) (e : Entry T) → p e.route ≡ false
    → first_position p n (l ++ e ∷ []) ≡ first_position p n l
found_push_other p n [] e h = rw h refl
found_push_other p n (x ∷ l) e h = elim (true_or_false (p x.route)) [
  | inl it ↦ rw it refl
  | inr it ↦ rw it
      (found_push_other p (suc n) l e h)
]

pub found_push_here : {T : Type 0} (p : Route → Bool) (n : ℕ) (l : List (Entry T)) (e : Entry T) → p e.route ≡ true
    → first_position p n l ≡ None → first_position p n (l ++ e ∷ []) ≡ Some (n + length l)
found_push_here p n [] e h none = let s : n + 0 ≡ n = omega arith in rw (h, s) refl
found_push_here p n (x ∷ l) e h none = elim (true_or_false (p x.route)) [
  | inl it ↦ (let f = rw it at none in cc)
  | inr it ↦ (let s : n + suc (length l) ≡ suc n + length l = omega arith in
      rw (it, s) (found_push_here p (suc n) l e h (rw it at none)))
]

pub found_push_some : {T : Type 0} (p : Route → Bool) (n : ℕ) (l r : List (Entry T)) (m : ℕ)
    → first_position p n l ≡ Some m → first_position p n (l ++ r) ≡ Some m
found_push_some p n [] r m h = cc
found_push_some p n (x ∷ l) r m h = elim (true_or_false (p x.route)) [
  | inl it ↦ (let f = rw it at h in
      rw it f)
  | inr it ↦ rw it (found_push_some p (suc n) l r m (rw it at h))
]

pub found_push_there : {T : Type 0} (p : Route → Bool) (n : ℕ) (l r : List (Entry T)) (t : ℕ) (y : Entry T)
    → slice_get l t ≡ Some y → p y.route ≡ true → first_position p n (l ++ r) ≡ first_position p n l
found_push_there p n [] r t y at h = cc
found_push_there p n (x ∷ l) r zero y at h = let same : x ≡ y = cc in
    let it : p x.route ≡ true = ap (λ z. p z.route) same ∙ h in rw it refl
found_push_there p n (x ∷ l) r (suc t) y at h = elim (true_or_false (p x.route)) [
  | inl it ↦ rw it refl
  | inr it ↦ rw it
      (found_push_there p (suc n) l r t y at h)
]

pub get_push : {A : Type 0} (l : List A) (x : A) (i : ℕ) → i < length l → slice_get (l ++ x ∷ []) i ≡ slice_get l i
get_push [] x i h = absurd (omega arith)
get_push (y ∷ l) x zero h = refl
get_push (y ∷ l) x (suc i) h = get_push l x i (omega arith)

pub get_last : {A : Type 0} (l : List A) (x : A) → slice_get (l ++ x ∷ []) (length l) ≡ Some x
get_last [] x = refl
get_last (y ∷ l) x = get_last l x

pub get_set_here : {A : Type 0} (l : List A) (i : ℕ) (x : A) → i < length l → slice_get (set l i x) i ≡ Some x
get_set_here [] i x h = absurd (omega arith)
get_set_here (y ∷ l) zero x h = refl
get_set_here (y ∷ l) (suc i) x h = get_set_here l i x (omega arith)

pub get_set_other : {A : Type 0} (l : List A) (i j : ℕ) (x : A) → j ≢ i → slice_get (set l i x) j ≡ slice_get l j
get_set_other [] i j x h = refl
get_set_other (y ∷ l) zero zero x h = absurd (h refl)
get_set_other (y ∷ l) zero (suc j) x h = refl
get_set_other (y ∷ l) (suc i) zero x h = refl
get_set_other (y ∷ l) (suc i) (suc j) x h = get_set_other l i j x (λ e. h (ap suc e))

long_push : {T : Type 0} (es : List (Entry T)) (e : Entry T) → length (es ++ e ∷ []) ≡ length es + 1
long_push [] e = omega arith
long_push (x ∷ es) e = let f = long_push es e in omega arith

-- an entry for another list
pub own_one : (w v : Option ℕ) (r : Route) → leads_only w r ≡ true → leads_only v r ≡ true → v ≡ w
own_one None None r a b = refl
own_one None (Some q) Multicast a b = cc
own_one None (Some q) (Number n) a b = cc
own_one None (Some q) Numbers a b = cc
own_one (Some p) None Multicast a b = cc
own_one (Some p) None (Number n) a b = cc
own_one (Some p) None Numbers a b = cc
own_one (Some p) (Some q) Multicast a b = cc
own_one (Some p) (Some q) (Number n) a b = ap Some (let f = eqb_same n p a in let g = eqb_same n q b in cc)
own_one (Some p) (Some q) Numbers a b = cc

module _ {T : Type 0} (base : ℕ) (es : List (Entry T)) (links : List (Option ℕ)) (e : Entry T)
    (as_long : length links ≡ length es) where
  -- a place that the entry does not concern
  module _ (w : Option ℕ) (off : leads_only w e.route ≡ false) (links' : List (Option ℕ))
      (same_long : length links' ≡ length links)
      (relinks : (i : ℕ) (x : Entry T) → slice_get es i ≡ Some x → leads_only w x.route ≡ true
      → slice_get links' i ≡ slice_get links i) where
    chain_other : (k : ℕ) (o : Option Chain) → k ≤ length es → base ≤ base → ((c : Chain) → o ≡ Some c → base ≤ c.last)
        → IsChain w base es k o → IsChain w base (es ++ e ∷ []) k o
    chain_other k None le _ ge h = rw (drop-append-le k es (e ∷ []) le)
        (found_push_other (leads_only w) (base + k) (drop k es) e off ∙ h)
    chain_other k (Some c) le _ ge h =
        let lt = h.2 in
        let low = ge c refl in
        let le' : suc (c.last - base) ≤ length es = omega arith in
        let long = long_push es e in (
          rw (drop-append-le k es (e ∷ []) le) (found_push_other (leads_only w) (base + k) (drop k es) e off ∙ h.0),
          h.1,
          omega (arith, long),
          (λ x at. h.3 x (rw (get_push es e (c.last - base) (omega arith)) at at)),
          rw (drop-append-le (suc (c.last - base)) es (e ∷ []) le')
              (found_push_other (leads_only w) (suc c.last) (drop (suc (c.last - base)) es) e off ∙ h.4),
        )

    linked_other : (k : ℕ) → IsLinked w base es links k → IsLinked w base (es ++ e ∷ []) (links' ++ None ∷ []) k
    linked_other k h i x le at is = elim (cases_lt i (length es)) [
      | inl lt ↦
          let old = rw (get_push es e i lt) at at in
          let a = h i x le old is in
          let le' : suc i ≤ length es = omega arith in
          rw (
            get_push links' None i (omega arith),
            relinks i x old is,
            a,
            drop-append-le (suc i) es (e ∷ []) le',
            found_push_other (leads_only w) (suc (base + i)) (drop (suc i) es) e off,
          ) refl
      | inr ge ↦
          let lt' = slice_get_end (es ++ e ∷ []) i x at in
          let long = long_push es e in
          let s : i ≡ length es = omega (arith, long) in
          let last = rw (s, get_last es e) at at in
          let same : e ≡ x = cc in
          let no_more : leads_only w x.route ≡ false = ap (λ y. leads_only w y.route) (sym same) ∙ off in
          cc
    ]

    pub place_other : (p : Place) → IsPlace w base es links p → IsPlace w base (es ++ e ∷ []) (links' ++ None ∷ []) p
    place_other p h =
        let long = long_push es e in
        let le : p.from - base ≤ length es = (let a = h.within in omega arith) in
        record {
          within = (let a = h.within in omega (arith, long));
          chain = chain_other (p.from - base) p.chain le (omega arith) (λ c is. low p c is h.chain) h.chain;
          linked = linked_other (p.from - base) h.linked;
        }
      where
        low_of : (k : ℕ) (c : Chain) → IsChain w base es k (Some c) → base ≤ c.last
        low_of k c h = let a = found_from (leads_only w) (base + k) (drop k es) c.first h.0 in let b = h.1 in
            omega arith

        low : (p : Place) (c : Chain) → p.chain ≡ Some c → IsChain w base es (p.from - base) p.chain → base ≤ c.last
        low p c is h = low_of (p.from - base) c (rw is at h)

  -- the place of the list to which it goes
  module _ (w : Option ℕ) (mine : leads_only w e.route ≡ true) (k : ℕ) (le : k ≤ length es) where
    long : length (es ++ e ∷ []) ≡ length es + 1
    long = long_push es e

    pub chain_mine : (o : Option Chain) → IsChain w base es k o
        → IsChain w base (es ++ e ∷ []) k (Some (with_last o (base + length es)))
    chain_mine None h =
        let n : base + k + length (drop k es) ≡ base + length es = (let a = length-drop k es in omega (arith, a)) in
        let i : base + length es - base ≡ length es = omega arith in (
          rw (drop-append-le k es (e ∷ []) le, ← n) (found_push_here (leads_only w) (base + k) (drop k es) e mine h),
          omega arith,
          omega (arith, long),
          (λ x at. let a = rw (i, get_last es e) at at in let same : e ≡ x = cc in
              ap (λ y. leads_only w y.route) (sym same) ∙ mine),
          rw (drop_end (es ++ e ∷ []) (suc (base + length es - base)) (omega (arith, long))) refl,
        )
    chain_mine (Some c) h =
        let i : base + length es - base ≡ length es = omega arith in
        let low = found_from (leads_only w) (base + k) (drop k es) c.first h.0 in
        let a1 = h.1 in let a2 = h.2 in (
          rw (drop-append-le k es (e ∷ []) le) (found_push_some (leads_only w) (base + k) (drop k es)
              (e ∷ []) c.first h.0),
          omega arith,
          omega (arith, long),
          (λ x at. let a = rw (i, get_last es e) at at in let same : e ≡ x = cc in
              ap (λ y. leads_only w y.route) (sym same) ∙ mine),
          rw (drop_end (es ++ e ∷ []) (suc (base + length es - base)) (omega (arith, long))) refl,
        )

    last_link : (links' : List (Option ℕ)) (i : ℕ) → length links' ≡ length es → i ≡ length es
        → slice_get (links' ++ None ∷ []) i ≡ Some (first_position (leads_only w) (suc (base + i))
        (drop (suc i) (es ++ e ∷ [])))
    last_link links' i l is =
        let g : i ≡ length links' = omega arith in
        let f = get_last links' None in
        rw (drop_end (es ++ e ∷ []) (suc i) (omega (arith, long)), g) f

    -- the chain from k on, while there is none
    none_mine : (i : ℕ) (x : Entry T) → first_position (leads_only w) (base + k) (drop k es) ≡ None → k ≤ i
        → slice_get es i ≡ Some x → leads_only w x.route ≡ true → ⊥
    none_mine i x none ge at is =
        let s : k + (i - k) ≡ i = omega arith in
        let f : slice_get (drop k es) (i - k) ≡ Some x = rw (slice_get_drop k (i - k) es, s) at in
        let off = found_none (leads_only w) (base + k) (drop k es) none (i - k) x f in
        cc

    pub linked_mine : (o : Option Chain) → IsChain w base es k o → IsLinked w base es links k
        → IsLinked w base (es ++ e ∷ []) (links_with base o (base + length es) links ++ None ∷ []) k
    linked_mine None h linked i x ge at is = elim (cases_lt i (length es)) [
      | inl lt ↦ absurd (none_mine i x h ge (rw (get_push es e i lt) at at) is)
      | inr past ↦ (let end = slice_get_end (es ++ e ∷ []) i x at in last_link links i as_long (omega (arith, long)))
    ]
    linked_mine (Some c) h linked i x ge at is =
        let low = found_from (leads_only w) (base + k) (drop k es) c.first h.0 in
        let a1 = h.1 in let a2 = h.2 in
        let l' : length (set links (c.last - base) (Some (base + length es))) ≡ length es =
        length-set links (c.last - base) (Some (base + length es)) ∙ as_long in
        elim (cases_lt i (length es)) [
          | inl lt ↦
              let old = rw (get_push es e i lt) at at in
              let here : i < length (set links (c.last - base) (Some (base + length es))) = omega (arith, l') in
              let le' : suc i ≤ length es = omega arith in
              rw (
                get_push (set links (c.last - base) (Some (base + length es))) None i here,
                drop-append-le (suc i) es (e ∷ []) le',
              )
              (elim (cases_order i (c.last - base)) [
                | inl same ↦
                    let d : suc c.last ≡ suc (base + i) = omega arith in
                    let none = rw (← same, d) at h.4 in
                    let n : suc (base + i) + length (drop (suc i) es) ≡ base + length es =
                    (let a = length-drop (suc i) es in omega (arith, a)) in
                    rw (
                      ← same,
                      get_set_here links i (Some (base + length es)) (omega arith),
                      found_push_here (leads_only w) (suc (base + i)) (drop (suc i) es) e mine none,
                      n,
                    ) refl
                | inr other ↦ elim other [
                  | inl before ↦
                      let ne : i ≢ c.last - base = omega arith in
                      let s : suc i + (c.last - base - suc i) ≡ c.last - base = omega arith in
                      let y = last_entry c h in
                      let t : slice_get (drop (suc i) es) (c.last - base - suc i) ≡ Some y.0 =
                      rw (slice_get_drop (suc i) (c.last - base - suc i) es, s) y.1 in
                      rw (
                        get_set_other links (c.last - base) i (Some (base + length es)) ne,
                        found_push_there (leads_only w) (suc (base + i)) (drop (suc i) es) (e ∷ [])
                            (c.last - base - suc i) y.0 t (h.3 y.0 y.1),
                      ) (linked i x ge old is)
                  | inr after ↦
                      let s : suc (c.last - base) + (i - suc (c.last - base)) ≡ i = omega arith in
                      let t : slice_get (drop (suc (c.last - base)) es) (i - suc (c.last - base)) ≡ Some x =
                      rw (slice_get_drop (suc (c.last - base)) (i - suc (c.last - base)) es, s) old in
                      let off = found_none (leads_only w) (suc c.last) (drop (suc (c.last - base)) es) h.4
                      (i - suc (c.last - base)) x t in
                      cc
                ]
              ])
          | inr past ↦ (let end = slice_get_end (es ++ e ∷ []) i x at in
              last_link (set links (c.last - base) (Some (base + length es))) i l' (omega (arith, long)))
        ]
      where
        at_index : (l : List (Entry T)) (j : ℕ) → j < length l → (y : Entry T) × (slice_get l j ≡ Some y)
        at_index [] j h = absurd (omega arith)
        at_index (y ∷ l) zero h = (y, refl)
        at_index (y ∷ l) (suc j) h = at_index l j (omega arith)

        last_entry : (c : Chain) → IsChain w base es k (Some c)
            → (y : Entry T) × (slice_get es (c.last - base) ≡ Some y)
        last_entry c h = (let low = found_from (leads_only w) (base + k) (drop k es) c.first h.0 in let a1 = h.1 in
            let a2 = h.2 in at_index es (c.last - base) (omega arith))

  pub place_mine : (w : Option ℕ) (p x : Place) → leads_only w e.route ≡ true → x.from ≡ p.from
      → x.chain ≡ Some (with_last p.chain (base + length es)) → IsPlace w base es links p
      → IsPlace w base (es ++ e ∷ []) (links_with base p.chain (base + length es) links ++ None ∷ []) x
  place_mine w p x mine from owned h =
      let long = long_push es e in
      let le : p.from - base ≤ length es = (let a = h.within in omega arith) in
      record {
        within = (let a = h.within in omega (arith, long, from));
        chain = rw (from, owned) (chain_mine w mine (p.from - base) le p.chain h.chain);
        linked = rw from (linked_mine w mine (p.from - base) le p.chain h.chain h.linked);
      }

-- ---- the whole log

abbrev pub Altered : (Option ℕ → Option Place) → (Option ℕ → Option Place) → Option ℕ → Place → Type 0
Altered place place' w x = (v : Option ℕ) (p : Place) → place' v ≡ Some p
    → ((v ≢ w) × (place v ≡ Some p)) ⊎ ((v ≡ w) × (p ≡ x))

abbrev pub SameFrom : (Option ℕ → Option Place) → (Option ℕ → Option Place) → Type 0
SameFrom place place' = (v : Option ℕ) → option_map (λ p. p.from) (place' v) ≡ option_map (λ p. p.from) (place v)

no_some : (q : ℕ) → ◌≡◌ {A = Option ℕ} None (Some q) → ⊥
no_some q h = cc

pub altered_multicast : (place place' : Option ℕ → Option Place) (x : Place) → place' None ≡ Some x
    → ((q : ℕ) → place' (Some q) ≡ place (Some q)) → Altered place place' None x
altered_multicast place place' x none some None p is = (let f : x ≡ p = cc in inr (refl, sym f))
altered_multicast place place' x none some (Some q) p is = inl ((λ e. no_some q (sym e)), sym (some q) ∙ is)

pub altered_number : (place place' : Option ℕ → Option Place) (n : ℕ) (x : Place) → place' None ≡ place None
    → ((q : ℕ) → place' (Some q) ≡ cond (nat_eq n q) (Some x) (place (Some q))) → Altered place place' (Some n) x
altered_number place place' n x none some None p is = inl (no_some n, sym none ∙ is)
altered_number place place' n x none some (Some q) p is = elim (true_or_false (nat_eq n q)) [
  | inl it ↦ (let f = rw it at (sym (some q) ∙ is) in let same : x ≡ p = cc in
      inr (ap Some (sym (eqb_same n q it)), sym same))
  | inr it ↦ (let f = rw it at (sym (some q) ∙ is) in inl ((λ e. differs n q it e), f))
]
  where
    differs : (n q : ℕ) → nat_eq n q ≡ false → ◌≡◌ {A = Option ℕ} (Some q) (Some n) → ⊥
    differs n q off e = let same : n ≡ q = cc in let f = rw same at off in let g = eqb_refl q in cc

pub from_multicast : (place place' : Option ℕ → Option Place) (p x : Place) → place None ≡ Some p → place' None ≡ Some x
    → x.from ≡ p.from → ((q : ℕ) → place' (Some q) ≡ place (Some q)) → SameFrom place place'
from_multicast place place' p x is none from some None = rw (none, is, from) refl
from_multicast place place' p x is none from some (Some q) = rw (some q) refl

pub from_number : (place place' : Option ℕ → Option Place) (n : ℕ) (p x : Place) → place (Some n) ≡ Some p
    → x.from ≡ p.from → place' None ≡ place None → ((q : ℕ)
    → place' (Some q) ≡ cond (nat_eq n q) (Some x) (place (Some q))) → SameFrom place place'
from_number place place' n p x is from none some None = rw none refl
from_number place place' n p x is from none some (Some q) = elim (true_or_false (nat_eq n q)) [
  | inl it ↦ (let same : n ≡ q = eqb_same n q it in let is' : place (Some q) ≡ Some p = rw same at is in
      rw (some q, it, is', from) refl)
  | inr it ↦ rw (some q, it) refl
]

pub items_append : {T : Type 0} (w : Option ℕ) (l r : List (Entry T))
    → items_for w (l ++ r) ≡ items_for w l ++ items_for w r
items_append w [] r = refl
items_append w (e ∷ l) r = elim (true_or_false (leads w e.route)) [
  | inl it ↦ rw it (ap (λ ds. e.item ∷ ds) (items_append w l r))
  | inr it ↦ rw it (items_append w l r)
]

pub pending_add : {T : Type 0} (w : Option ℕ) (base : ℕ) (es : List (Entry T)) (e : Entry T) (o o' : Option Place)
    → option_map (λ p. p.from) o' ≡ option_map (λ p. p.from) o → ((p : Place) → o ≡ Some p → p.from ≤ base + length es)
    → option_map (λ p. items_for w (rest base (es ++ e ∷ []) p)) o'
    ≡ option_map (λ ds. ds ++ items_for w (e ∷ [])) (option_map (λ p. items_for w (rest base es p)) o)
pending_add w base es e None None from within = refl
pending_add w base es e None (Some x) from within = cc
pending_add w base es e (Some p) None from within = cc
pending_add w base es e (Some p) (Some x) from within =
    let same : x.from ≡ p.from = cc in
    let a = within p refl in
    let le : p.from - base ≤ length es = omega arith in
    rw (same, drop-append-le (p.from - base) es (e ∷ []) le)
    (ap Some (items_append w (drop (p.from - base) es) (e ∷ [])))

some_from : (o o' : Option Place) (p : Place) → option_map (λ p. p.from) o' ≡ option_map (λ p. p.from) o → o ≡ Some p
    → (x : Place) × (o' ≡ Some x) × (x.from ≡ p.from)
some_from None o' p from is = cc
some_from (Some y) None p from is = cc
some_from (Some y) (Some x) p from is = (
  x,
  refl,
  (let same : y ≡ p = cc in let f : x.from ≡ y.from = cc in
      f ∙ ap (λ z. z.from) same),
)

pub trimmed_add : {T : Type 0} (place place' : Option ℕ
    → Option Place) (base : ℕ) (es : List (Entry T)) (e : Entry T) (w : Option ℕ) (p : Place) → SameFrom place place'
    → place w ≡ Some p → p.from ≤ base + length es → leads w e.route ≡ true
    → BeginsAwaited place base es → BeginsAwaited place' base (es ++ e ∷ [])
trimmed_add place place' base [] e w p same is le t h = let x = some_from (place w) (place' w) p (same w) is in
    (w, x.0, x.1, (let a = x.2 in omega arith), t)
trimmed_add place place' base (y ∷ es) e w p same is le t h = let x =
    some_from (place h.0) (place' h.0) h.1 (same h.0) h.2 in
    (h.0, x.0, x.1, (let a = x.2 in let b = h.3 in omega arith), h.4)

positions_push : {T : Type 0} (n : ℕ) (es : List (Entry T)) (e : Entry T) → is_shared e.route ≡ false
    → shared_positions n (es ++ e ∷ []) ≡ shared_positions n es
positions_push n [] e h = rw h refl
positions_push n (x ∷ es) e h = elim (true_or_false (is_shared x.route)) [
  | inl it ↦ rw it
      (ap (λ l. n ∷ l) (positions_push (suc n) es e h))
  | inr it ↦ rw it (positions_push (suc n) es e h)
]

positions_push_shared : {T : Type 0} (n : ℕ) (es : List (Entry T)) (e : Entry T) → is_shared e.route ≡ true
    → shared_positions n (es ++ e ∷ []) ≡ shared_positions n es ++ (n + length es) ∷ []
positions_push_shared n [] e h = let s : n + 0 ≡ n = omega arith in rw (h, s) refl
positions_push_shared n (x ∷ es) e h =
    let s : n + suc (length es) ≡ suc n + length es = omega arith in
    elim (true_or_false (is_shared x.route)) [
      | inl it ↦ rw (it, s)
          (ap (λ l. n ∷ l) (positions_push_shared (suc n) es e h))
      | inr it ↦ rw (it, s)
          (positions_push_shared (suc n) es e h)
    ]

positions_map_push : (ss : List Shared) (x : Shared) → map (λ s. s.at) (ss ++ x ∷ []) ≡ map (λ s. s.at) ss ++ x.at ∷ []
positions_map_push [] x = refl
positions_map_push (s ∷ ss) x = ap (λ l. s.at ∷ l) (positions_map_push ss x)

standing_push : (ss : List Shared) (x : Shared) (c n : ℕ) → x.readers ≡ c
    → readers_at (ss ++ x ∷ []) 0 n ≡ readers_at ss c n
standing_push [] x c zero h = h
standing_push [] x c (suc zero) h = refl
standing_push [] x c (suc (suc n)) h = refl
standing_push (s ∷ ss) x c zero h = refl
standing_push (s ∷ ss) x c (suc n) h = standing_push ss x c n h

seen_add : {T : Type 0} (shared_base base : ℕ) (es : List (Entry T)) (e : Entry T) (p : Place)
    → p.from ≤ base + length es → CountsPassed shared_base base es p → CountsPassed shared_base base (es ++ e ∷ []) p
seen_add shared_base base es e p le h =
    let k : p.from - base ≤ length es = omega arith in
    rw (take-append-le (p.from - base) es (e ∷ []) k) h

seen_from : {T : Type 0} (shared_base base : ℕ) (es : List (Entry T)) (p x : Place) → x.from ≡ p.from
    → x.shared_passed ≡ p.shared_passed
    → CountsPassed shared_base base es p → CountsPassed shared_base base es x
seen_from shared_base base es p x from seen h = rw (from, seen) h

module _ {T : Type 0} (place place' : Option ℕ → Option Place) (numbers numbers' : List Place) (base shared_base c : ℕ)
    (es : List (Entry T)) (links : List (Option ℕ)) (shared : List Shared) (e : Entry T)
    (h : AreSound place numbers base shared_base c es links shared) (room : base + length es + 1 < 2 ^ 64) where
  -- the number of links
  relinked_long : (o : Option Chain) (m : ℕ) → length (links_with base o m links) ≡ length links
  relinked_long None m = refl
  relinked_long (Some o) m = length-set links (o.last - base) (Some m)

  relinked_same : (w v : Option ℕ) (p : Place) (m : ℕ) → v ≢ w → IsChain w base es (p.from - base) p.chain
      → (i : ℕ) (x : Entry T) → slice_get es i ≡ Some x → leads_only v x.route ≡ true
      → slice_get (links_with base p.chain m links) i ≡ slice_get links i
  relinked_same w v p m other owned i x at is = by p.chain owned
    where
      by : (o : Option Chain) → IsChain w base es (p.from - base) o
          → slice_get (links_with base o m links) i ≡ slice_get links i
      by None g = refl
      by (Some o) g = elim (cases_eq i (o.last - base)) [
        | inl same ↦ absurd (other (own_one w v x.route (g.3 x (rw same at at)) is))
        | inr ne ↦ get_set_other links (o.last - base) i (Some m) ne
      ]

  pub sound_add_own : (w : Option ℕ) (p x : Place) → Altered place place' w x → place w ≡ Some p
      → leads_only w e.route ≡ true → is_shared e.route ≡ false → x.from ≡ p.from
      → x.chain ≡ Some (with_last p.chain (base + length es)) → x.shared_passed ≡ p.shared_passed
      → ((k : ℕ) → waiting_count k numbers' ≡ waiting_count k numbers)
      → AreSound place' numbers' base shared_base c (es ++ e ∷ [])
      (links_with base p.chain (base + length es) links ++ None ∷ []) shared
  sound_add_own w p x altered is mine off from owned seen same =
      let long = long_push es e in
      record {
        fits = (omega (arith, long, room));
        shared_fits = (let f = h.shared_fits in omega (arith, long));
        as_long = (let f = length-append (links_with base p.chain (base + length es) links) (None ∷ []) in
            let g = relinked_long p.chain (base + length es) in let k = h.as_long in omega (arith, f, g, k, long));
        places = λ v y at. elim (altered v y at) [
          | inl old ↦ place_other base es links e h.as_long v
              (elim (true_or_false (leads_only v e.route)) [
                | inl it ↦ absurd
                    (old.0 (own_one w v e.route mine it))
                | inr it ↦ it
              ]) (links_with base p.chain (base + length es) links)
              (relinked_long p.chain (base + length es))
              (relinked_same w v p (base + length es) old.0 (h.places w p is).chain) y (h.places v y old.1)
          | inr new ↦ rw (new.0, new.1) (place_mine base es links e h.as_long w p x mine from owned (h.places w p is))
        ];
        passed = λ q y at. elim (altered (Some q) y at) [
          | inl old ↦ seen_add shared_base base es e y (h.places (Some q) y old.1).within (h.passed q y old.1)
          | inr new ↦ (let is' : place (Some q) ≡ Some p = rw new.0 is in
              rw new.1 (seen_from shared_base base (es ++ e ∷ []) p x from seen
              (seen_add shared_base base es e p (h.places (Some q) p is').within (h.passed q p is'))))
        ];
        positions_are = h.positions_are ∙ sym (positions_push base es e off);
        standing_are = λ k. h.standing_are k ∙ sym (same (shared_base + k));
      }

  pub sound_add_shared : (s : Shared) → is_shared e.route ≡ true → s.at ≡ base + length es → s.readers ≡ c
      → AreSound place numbers base shared_base 0 (es ++ e ∷ []) (links ++ None ∷ []) (shared ++ s ∷ [])
  sound_add_shared s it at standing_is =
      let long = long_push es e in
      record {
        fits = (omega (arith, long, room));
        shared_fits = (let f = h.shared_fits in let g = length-append shared (s ∷ []) in omega (arith, long, f, g));
        as_long = (let f = length-append links (None ∷ []) in let k = h.as_long in omega (arith, f, k, long));
        places = λ v y is. place_other base es links e h.as_long v (own_unshared v e.route it) links refl
            (λ i x a b. refl) y (h.places v y is);
        passed = λ q y is. seen_add shared_base base es e y (h.places (Some q) y is).within (h.passed q y is);
        positions_are = positions_map_push shared s ∙ (rw (h.positions_are, at)
            (sym (positions_push_shared base es e it)));
        standing_are = λ k. standing_push shared s c k standing_is ∙ h.standing_are k;
      }

pub last_bounds : {T : Type 0} (w : Option ℕ) (base : ℕ) (es : List (Entry T)) (k : ℕ) (o : Option Chain) (c : Chain)
    → o ≡ Some c → IsChain w base es k o → (base ≤ c.last) × (c.last < base + length es)
last_bounds w base es k o c is h = go (rw is at h)
  where
    go : IsChain w base es k (Some c) → (base ≤ c.last) × (c.last < base + length es)
    go g = let low = found_from (leads_only w) (base + k) (drop k es) c.first g.0 in let b = g.1 in let d = g.2 in
        (omega arith, d)

pub first_open : (entries : List (ℕ × Place)) → 0 < length entries
    → (q : ℕ) × (p : Place) × (lookup (nat_eq q) entries ≡ Some p)
first_open [] h = absurd (omega arith)
first_open (e ∷ es) h = (e.0, e.1, rw (eqb_refl e.0) refl)

-- the same, for the lists that a call leaves
pub pending_added : {T : Type 0} (w : Option ℕ) (base : ℕ) (es es' : List (Entry T)) (e : Entry T) (o o' : Option Place)
    → es' ≡ es ++ e ∷ [] → option_map (λ p. p.from) o' ≡ option_map (λ p. p.from) o
    → ((p : Place) → o ≡ Some p → p.from ≤ base + length es)
    → option_map (λ p. items_for w (rest base es' p)) o'
    ≡ option_map (λ ds. ds ++ items_for w (e ∷ [])) (option_map (λ p. items_for w (rest base es p)) o)
pending_added w base es es' e o o' is from within = rw is (pending_add w base es e o o' from within)

pub trimmed_added : {T : Type 0} (place place' : Option ℕ
    → Option Place) (base : ℕ) (es es' : List (Entry T)) (e : Entry T) (w : Option ℕ) (p : Place) → es' ≡ es ++ e ∷ []
    → SameFrom place place' → place w ≡ Some p → p.from ≤ base + length es → leads w e.route ≡ true
    → BeginsAwaited place base es → BeginsAwaited place' base es'
trimmed_added place place' base es es' e w p eq same is le t h =
    rw eq (trimmed_add place place' base es e w p same is le t h)

pub sound_added : {T : Type 0} (place : Option ℕ → Option Place) (numbers : List Place) (base shared_base c : ℕ)
    (es es' : List (Entry T)) (links links' : List (Option ℕ)) (shared shared' : List Shared) → es' ≡ es
    → links' ≡ links → shared' ≡ shared
    → AreSound place numbers base shared_base c es links shared
    → AreSound place numbers base shared_base c es' links' shared'
sound_added place numbers base shared_base c es es' links links' shared shared' a b d h = rw (a, b, d) h

-- an entry for one list stands after the others, and that list's place is put back with it in its chain
pub sound_extended : {T : Type 0} (place place' : Option ℕ → Option Place) (numbers numbers' : List Place)
    (base shared_base c : ℕ) (es es' : List (Entry T)) (links linked links' : List (Option ℕ)) (shared : List Shared)
    (e : Entry T) (w : Option ℕ) (p x : Place) (m : ℕ) → m ≡ base + length es → x ≡ extended p m
    → linked ≡ links_with base p.chain m links → es' ≡ es ++ e ∷ [] → links' ≡ linked ++ None ∷ []
    → AreSound place numbers base shared_base c es links shared → base + length es + 1 < 2 ^ 64
    → Altered place place' w x → place w ≡ Some p → leads_only w e.route ≡ true → is_shared e.route ≡ false
    → ((k : ℕ) → waiting_count k numbers' ≡ waiting_count k numbers)
    → AreSound place' numbers' base shared_base c es' links' shared
sound_extended place place' numbers numbers' base shared_base c es es' links linked links' shared e w p x m
    last is next added unlinked h room altered mine leads_there unshared same =
    rw (added, unlinked, next, last)
    (sound_add_own place place' numbers numbers' base shared_base c es links shared e h room w p x altered mine
    leads_there unshared (ap (λ y. y.from) is) (ap (λ y. y.chain) is ∙ ap (λ k. Some (with_last p.chain k)) last)
    (ap (λ y. y.shared_passed) is) same)

pub trimmed_same : {T : Type 0} (place : Option ℕ → Option Place) (base : ℕ) (es es' : List (Entry T)) → es' ≡ es
    → BeginsAwaited place base es → BeginsAwaited place base es'
trimmed_same place base es es' a h = rw a h
