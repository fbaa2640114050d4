-- The first entry is dropped.
use Rattle.std.proofs.Common.{ℕ, suc, ◌≡◌, ◌+◌, ◌-◌, ◌≤◌, ◌<◌, Bool, true, false, List, [], ◌∷◌, length}
use Rattle.std.proofs.Common.{drop, map}
use Rattle.std.proofs.Common.{Option, Some, None, refl, ap, ◌∙◌, inl, inr, ◌⊎◌, arith, add-one}
use Rattle.std.specs.Option.{option_map}
use Rattle.std.proofs.lemmas.Bool.{cases_lt}
use Rattle.neli_log.specs.declared.entry.Entry.{Entry}
use Rattle.neli_log.specs.declared.entry.Route.{Route}
use Rattle.neli_log.specs.declared.entry.Route.TheVariants.{Multicast, Number, Numbers}
use Rattle.neli_log.specs.declared.place.Chain.{Chain}
use Rattle.neli_log.specs.declared.place.Place.{Place}
use Rattle.neli_log.specs.declared.place.Shared.{Shared}
use Rattle.neli_log.specs.Routes.{leads, leads_only, is_shared, items_for, first_position, shared_positions}
use Rattle.neli_log.specs.Places.{IsChain, IsLinked, IsPlace, CountsPassed, AreSound, rest, readers_at}
use Rattle.neli_log.specs.Places.{waiting_count}

pub true_or_false : (b : Bool) → (b ≡ true) ⊎ (b ≡ false)
true_or_false true = inl refl
true_or_false false = inr refl

pub found_from : {T : Type 0} (p : Route → Bool) (n : ℕ) (es : List (Entry T)) (m : ℕ) → first_position p n es ≡ Some m
    → n ≤ m
found_from p n [] m h = cc
found_from p n (e ∷ es) m h = elim (true_or_false (p e.route)) [
  | inl it ↦ (let s = rw it at h in let same : n ≡ m = cc in omega arith)
  | inr it ↦ (let s = rw it at h in let more = found_from p (suc n) es m s in omega arith)
]

-- index k was past the first entry, or the first entry is not this list's
abbrev pub Passes : {T : Type 0} → Option ℕ → Entry T → ℕ → ℕ → Type 0
Passes w e k k' = ((k ≡ 0) × (k' ≡ 0) × (leads w e.route ≡ false)) ⊎ (k ≡ suc k')

pub not_own : (w : Option ℕ) (r : Route) → leads w r ≡ false → leads_only w r ≡ false
not_own None Multicast h = h
not_own None (Number n) h = refl
not_own None Numbers h = refl
not_own (Some q) Multicast h = refl
not_own (Some q) (Number n) h = h
not_own (Some q) Numbers h = refl

pub pop_items : {T : Type 0} (w : Option ℕ) (e : Entry T) (es : List (Entry T)) (k k' : ℕ) → Passes w e k k'
    → items_for w (drop k' es) ≡ items_for w (drop k (e ∷ es))
pop_items w e es k k' c = elim c [
  | inl h ↦ rw (h.0, h.1, h.2) refl
  | inr h ↦ rw h refl
]

pub pop_found : {T : Type 0} (w : Option ℕ) (base : ℕ) (e : Entry T) (es : List (Entry T)) (k k' : ℕ) → Passes w e k k'
    → first_position (leads_only w) (base + 1 + k') (drop k' es)
    ≡ first_position (leads_only w) (base + k) (drop k (e ∷ es))
pop_found w base e es k k' c = elim c [
  | inl h ↦ (let n : leads_only w e.route ≡ false = not_own w e.route h.2 in
      let s : base + 1 + 0 ≡ suc (base + 0) = omega arith in rw (h.0, h.1, n, s) refl)
  | inr h ↦ (let s : base + 1 + k' ≡ base + suc k' = omega arith in rw (h, s) refl)
]

pub pop_linked : {T : Type 0} (w : Option ℕ) (base : ℕ) (e : Entry T) (es : List (Entry T)) (l : Option ℕ)
    (links : List (Option ℕ)) (k k' : ℕ) → Passes w e k k' → IsLinked w base (e ∷ es) (l ∷ links) k
    → IsLinked w (base + 1) es links k'
pop_linked w base e es l links k k' c h i x from at is =
    let le : k ≤ suc i = elim c [ inl a ↦ (let z = a.0 in omega arith) | inr a ↦ omega arith ] in
    let s : suc (base + 1 + i) ≡ suc (base + suc i) = omega arith in
    rw s (h (suc i) x le at is)

pub pop_own : {T : Type 0} (w : Option ℕ) (base : ℕ) (e : Entry T) (es : List (Entry T)) (k k' : ℕ) (o : Option Chain)
    → Passes w e k k' → IsChain w base (e ∷ es) k o → IsChain w (base + 1) es k' o
pop_own w base e es k k' None c h = pop_found w base e es k k' c ∙ h
pop_own w base e es k k' (Some o) c h =
    let f : first_position (leads_only w) (base + 1 + k') (drop k' es) ≡ Some o.first = pop_found w base e es k k' c
    ∙ h.0 in
    let ge : base + 1 + k' ≤ o.first = found_from (leads_only w) (base + 1 + k') (drop k' es) o.first f in
    let le = h.1 in
    let lt = h.2 in
    let s : o.last - base ≡ suc (o.last - (base + 1)) = omega arith in
    (f, le, omega arith, rw s at h.3, rw s at h.4)

pub pop_place : {T : Type 0} (w : Option ℕ) (base : ℕ) (e : Entry T) (es : List (Entry T)) (l : Option ℕ)
    (links : List (Option ℕ)) (p : Place) → Passes w e (p.from - base) (p.from - (base + 1))
    → IsPlace w base (e ∷ es) (l ∷ links) p → IsPlace w (base + 1) es links p
pop_place w base e es l links p c h = record {
  within = (let le = h.within in omega arith);
  chain = pop_own w base e es _ _ p.chain c h.chain;
  linked = pop_linked w base e es l links _ _ c h.linked;
}

-- which of the two it is
pub passes : {T : Type 0} (w : Option ℕ) (e : Entry T) (base : ℕ) (p : Place) → (leads w e.route ≡ true → base < p.from)
    → Passes w e (p.from - base) (p.from - (base + 1))
passes w e base p h = elim (cases_lt base p.from) [
  | inl lt ↦ inr (omega arith)
  | inr le ↦ elim (true_or_false (leads w e.route)) [
    | inl it ↦ (let lt = h it in absurd (omega arith))
    | inr it ↦ inl (omega arith, omega arith, it)
  ]
]

pub pop_seen_own : {T : Type 0} (q shared_base base : ℕ) (e : Entry T) (es : List (Entry T)) (p : Place)
    → is_shared e.route ≡ false → Passes (Some q) e (p.from - base) (p.from - (base + 1))
    → CountsPassed shared_base base (e ∷ es) p → CountsPassed shared_base (base + 1) es p
pop_seen_own q shared_base base e es p o c h = elim c [
  | inl a ↦ (let s = rw a.0 at h in rw a.1 s)
  | inr a ↦ (let s = rw (a, o) at h in s)
]

pub pop_seen_shared : {T : Type 0} (q shared_base base : ℕ) (e : Entry T) (es : List (Entry T)) (p : Place)
    → is_shared e.route ≡ true → base < p.from → CountsPassed shared_base base (e ∷ es) p
    → CountsPassed (shared_base + 1) (base + 1) es p
pop_seen_shared q shared_base base e es p o lt h =
    let a : p.from - base ≡ suc (p.from - (base + 1)) = omega arith in
    let s = rw (a, o) at h in
    omega arith

positions_next : {T : Type 0} (base : ℕ) (e : Entry T) (es : List (Entry T)) → is_shared e.route ≡ false
    → shared_positions base (e ∷ es) ≡ shared_positions (base + 1) es
positions_next base e es o = rw (o, add-one) refl

sound_pop_own : {T : Type 0} (place : Option ℕ → Option Place) (numbers : List Place) (base shared_base caught_up : ℕ)
    (e : Entry T) (es : List (Entry T)) (l : Option ℕ) (links : List (Option ℕ)) (shared : List Shared)
    → is_shared e.route ≡ false → ((w : Option ℕ) (p : Place) → place w ≡ Some p → leads w e.route ≡ true
    → base < p.from)
    → AreSound place numbers base shared_base caught_up (e ∷ es) (l ∷ links) shared
    → AreSound place numbers (base + 1) shared_base caught_up es links shared
sound_pop_own place numbers base shared_base caught_up e es l links shared o past h = record {
  fits = (let f = h.fits in omega arith);
  shared_fits = (let f = h.shared_fits in omega arith);
  as_long = (let f = h.as_long in omega arith);
  places = λ w p is. pop_place w base e es l links p (passes w e base p (past w p is)) (h.places w p is);
  passed = λ q p is. pop_seen_own q shared_base base e es p o (passes (Some q) e base p (past (Some q) p is))
      (h.passed q p is);
  positions_are = h.positions_are ∙ positions_next base e es o;
  standing_are = h.standing_are;
}

pub forget_own_sound : {T : Type 0} (place : Option ℕ → Option Place) (numbers : List Place)
    (base shared_base caught_up : ℕ) (e : Entry T) (es all es' : List (Entry T)) (links links' : List (Option ℕ))
    (shared : List Shared) (r : Route)
    → all ≡ e ∷ es → e.route ≡ r → es' ≡ drop 1 all → links' ≡ drop 1 links
    → is_shared r ≡ false → ((w : Option ℕ) (p : Place) → place w ≡ Some p → leads w r ≡ true → base < p.from)
    → AreSound place numbers base shared_base caught_up all links shared
    → AreSound place numbers (base + 1) shared_base caught_up es' links' shared
forget_own_sound place numbers base shared_base caught_up e es all es' [] links' shared r a b c d o past h =
    (let f = h.as_long in let g = rw a at f in cc)
forget_own_sound place numbers base shared_base caught_up e es all es' (l ∷ links) links' shared r a b c d o past h =
    let two : es' ≡ es = c ∙ ap (drop 1) a in
    rw (two, d) (sound_pop_own place numbers base shared_base caught_up e es l links shared (rw b o)
    (λ w p is t. past w p is (rw b at t)) (rw a at h))

standing_next : (ss : List Shared) (c n x : ℕ) (xs : List ℕ) → map (λ s. s.at) ss ≡ x ∷ xs
    → readers_at (drop 1 ss) c n ≡ readers_at ss c (suc n)
standing_next [] c n x xs h = cc
standing_next (s ∷ ss) c n x xs h = refl

positions_drop : (ss : List Shared) (x : ℕ) (xs : List ℕ) → map (λ s. s.at) ss ≡ x ∷ xs
    → map (λ s. s.at) (drop 1 ss) ≡ xs
positions_drop [] x xs h = cc
positions_drop (s ∷ ss) x xs h = cc

positions_less : (ss : List Shared) (x : ℕ) (xs : List ℕ) → map (λ s. s.at) ss ≡ x ∷ xs
    → length ss ≡ suc (length (drop 1 ss))
positions_less [] x xs h = cc
positions_less (s ∷ ss) x xs h = refl

positions_here : {T : Type 0} (base : ℕ) (e : Entry T) (es : List (Entry T)) → is_shared e.route ≡ true
    → shared_positions base (e ∷ es) ≡ base ∷ shared_positions (base + 1) es
positions_here base e es o = rw (o, add-one) refl

sound_pop_shared : {T : Type 0} (place : Option ℕ → Option Place) (numbers : List Place)
    (base shared_base caught_up : ℕ) (e : Entry T) (es : List (Entry T)) (l : Option ℕ) (links : List (Option ℕ))
    (shared : List Shared)
    → is_shared e.route ≡ true → ((q : ℕ) → leads (Some q) e.route ≡ true)
    → ((w : Option ℕ) (p : Place) → place w ≡ Some p → leads w e.route ≡ true → base < p.from)
    → AreSound place numbers base shared_base caught_up (e ∷ es) (l ∷ links) shared
    → AreSound place numbers (base + 1) (shared_base + 1) caught_up es links (drop 1 shared)
sound_pop_shared place numbers base shared_base caught_up e es l links shared o all past h =
    let sp : map (λ x. x.at) shared ≡ base ∷ shared_positions (base + 1) es = h.positions_are
    ∙ positions_here base e es o in
    record {
      fits = (let f = h.fits in omega arith);
      shared_fits = (let f = h.shared_fits in let g = positions_less shared base (shared_positions (base + 1) es) sp in
          omega arith);
      as_long = (let f = h.as_long in omega arith);
      places = λ w p is. pop_place w base e es l links p (passes w e base p (past w p is)) (h.places w p is);
      passed = λ q p is. pop_seen_shared q shared_base base e es p o (past (Some q) p is (all q)) (h.passed q p is);
      positions_are = positions_drop shared base (shared_positions (base + 1) es) sp;
      standing_are = λ n. standing_next shared caught_up n base (shared_positions (base + 1) es) sp
          ∙ (h.standing_are (suc n) ∙ ap (λ k. waiting_count k numbers)
          (let s : shared_base + suc n ≡ shared_base + 1 + n = omega arith in s));
    }

pub forget_shared_sound : {T : Type 0} (place : Option ℕ
    → Option Place) (numbers : List Place) (base shared_base caught_up : ℕ) (e : Entry T) (es all es' : List (Entry T))
    (links links' : List (Option ℕ)) (shared shared' : List Shared)
    → all ≡ e ∷ es → e.route ≡ Numbers → es' ≡ drop 1 all → links' ≡ drop 1 links → shared' ≡ drop 1 shared
    → ((w : Option ℕ) (p : Place) → place w ≡ Some p → leads w Numbers ≡ true → base < p.from)
    → AreSound place numbers base shared_base caught_up all links shared
    → AreSound place numbers (base + 1) (shared_base + 1) caught_up es' links' shared'
forget_shared_sound place numbers base shared_base caught_up e es all es' [] links' shared shared' a b c d f past h =
    (let g = h.as_long in let i = rw a at g in cc)
forget_shared_sound place numbers base shared_base caught_up e es all es'
    (l ∷ links) links' shared shared' a b c d f past h =
    let two : es' ≡ es = c ∙ ap (drop 1) a in
    rw (two, d, f) (sound_pop_shared place numbers base shared_base caught_up e es l links shared (rw b refl)
    (λ q. rw b refl) (λ w p is t. past w p is (rw b at t)) (rw a at h))

pub pop_pending : {T : Type 0} (w : Option ℕ) (base : ℕ) (e : Entry T) (es all es' : List (Entry T)) (r : Route)
    (o : Option Place) → all ≡ e ∷ es → e.route ≡ r → es' ≡ drop 1 all
    → ((p : Place) → o ≡ Some p → leads w r ≡ true → base < p.from)
    → option_map (λ p. items_for w (rest (base + 1) es' p)) o ≡ option_map (λ p. items_for w (rest base all p)) o
pop_pending w base e es all es' r None a b d past = refl
pop_pending w base e es all es' r (Some p) a b d past =
    let two : es' ≡ es = d ∙ ap (drop 1) a in
    rw (two, a) (ap Some (pop_items w e es (p.from - base) (p.from - (base + 1))
    (passes w e base p (λ t. past p refl (rw b at t)))))
