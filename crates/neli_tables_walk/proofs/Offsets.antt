-- The path to an offset, step by step.
use Rattle.std.proofs.Common.{◌≡◌, ◌≢◌, ◌==◌, ◌<◌, ◌≤◌, ◌+◌, ◌-◌, ℕ, suc, ltb, Bool, true, false}
use Rattle.std.proofs.Common.{List, [], ◌∷◌, ◌++◌, length, Option, Some, None, Ok, Err, refl, sym}
use Rattle.std.proofs.Common.{ap}
use Rattle.std.proofs.Common.{◌∙◌, append_assoc, arith, eq-eqb, length-append}
use Rattle.std.specs.Option.{option_map}
use Rattle.std.proofs.lemmas.Bool.{false≢true, le-ltb, lt-ltb}
use Rattle.std.proofs.lemmas.List.{append-nil}
use Rattle.neli_wire.specs.declared.errors.DeError.{DeError}
use Rattle.neli_tables_walk.specs.declared.item.Step.{Step}
use Rattle.neli_tables_walk.specs.declared.level.Level.{Level}
use Rattle.neli_tables_walk.specs.declared.level.Sort.{Sort}
use Rattle.neli_tables_walk.specs.declared.offset.Place.{Place}
use Rattle.neli_tables_walk.specs.Elements.{Elem, Elements, element_at, elements_of}
use Rattle.neli_tables_walk.specs.Found.{At, Stepped, containing, element_size, place_view, step_at}
use Rattle.neli_tables_walk.specs.Found.{steps_at, steps_of}
use Rattle.neli_tables_walk.specs.Shapes.{ContextSeen, ListSeen, listed_view}
use Rattle.neli_tables_walk.proofs.Lists.{elements-end, elements-fault, elements-more}
use Rattle.neli_tables_walk.proofs.Walks.{lists, lists-last}

-- ---- the element at an offset

module _ (sort : Sort) (s r : List ℕ) (e : Elem) (is : element_at sort s ≡ Ok (e, r)) where
  pub containing-here : (offset : ℕ) → offset < element_size e
      → containing offset (elements_of sort s).0 ≡ Some (e, offset)
  containing-here offset lt =
      let yes : ltb offset (element_size e) ≡ true = lt-ltb offset (element_size e) lt in
      ap (λ (es : Elements). containing offset es.0) (elements-more sort s r e is) ∙ (rw yes refl)

  pub containing-later : (offset : ℕ) → element_size e ≤ offset
      → containing offset (elements_of sort s).0
      ≡ containing (offset - element_size e) (elements_of sort r).0
  containing-later offset le =
      let no : ltb offset (element_size e) ≡ false = le-ltb offset (element_size e) le in
      ap (λ (es : Elements). containing offset es.0) (elements-more sort s r e is) ∙ (rw no refl)

elements-none : (sort : Sort) (s : List ℕ) (x : DeError) → element_at sort s ≡ Err x
    → (elements_of sort s).0 ≡ []
elements-none sort [] x is = ap (λ (es : Elements). es.0) (elements-end sort [] refl)
elements-none sort (b ∷ s) x is =
    ap (λ (es : Elements). es.0) (elements-fault sort (b ∷ s) x (λ none. absurd cc) is)

pub containing-none : (sort : Sort) (s : List ℕ) (x : DeError) (offset : ℕ)
    → element_at sort s ≡ Err x → containing offset (elements_of sort s).0 ≡ None
containing-none sort s x offset is = ap (containing offset) (elements-none sort s x is)

-- ---- the steps

-- there is room for one more if not all is full
pub room-left : (n : ℕ) (full : Bool) → full ≡ (n == 10) → full ≡ false → n ≤ 10 → n < 10
room-left n full value false_is fits =
    let other : n ≢ 10 = λ e. false≢true (sym false_is ∙ value ∙ eq-eqb _ _ e) in
    omega (arith, other, fits)

-- the view of a step
abbrev pub stepped_view : Option (Step × Option Place) → Stepped
stepped_view r = option_map (λ (s : Step × Option Place). (s.0, option_map place_view s.1)) r

module _ (c : ContextSeen) where
  steps-at : (d : ℕ) (around : List ListSeen) (at : At) (s : Stepped) → s ≡ step_at c around at
      → steps_at (suc d) c around at ≡ steps_of (steps_at d c (at.0 ∷ around)) s
  unfolding steps_at
  steps-at d around at s is = ap (steps_of (steps_at d c (at.0 ∷ around))) (sym is)

  steps-end : (d : ℕ) (around : List ListSeen) (at : At) → d ≡ 0 → steps_at d c around at ≡ []
  unfolding steps_at
  steps-end d around at e = rw e refl

  module _ (start : At) where
    -- these steps through these levels, and then those from here
    abbrev pub Follows : List Step → List Level → At → Type 0
    Follows s levels at =
        steps_at 10 c [] start ≡ s ++ steps_at (10 - length s) c (lists levels) at

    module _ (s : List Step) (levels : List Level) (at : At) (r : Option (Step × Option Place))
        (is : Follows s levels at) (room : length s < 10)
        (seen : stepped_view r ≡ step_at c (lists levels) at) where
      abbrev from : Option (Step × Option Place) → List Step
      from x = s ++ steps_of (steps_at (9 - length s) c (at.0 ∷ lists levels)) (stepped_view x)

      next : steps_at 10 c [] start ≡ from r
      next =
          let one : 10 - length s ≡ suc (9 - length s) = omega (arith, room) in
          is ∙ ap (λ (n : ℕ). s ++ steps_at n c (lists levels) at) one
          ∙ ap (λ (x : List Step). s
          ++ x) (steps-at (9 - length s) (lists levels) at (stepped_view r) seen)

      -- no element is at the offset
      pub follows-none : r ≡ None → s ≡ steps_at 10 c [] start
      follows-none none = sym (next ∙ ap from none ∙ append-nil s)

      -- the last step
      pub follows-last : (step : Step) → r ≡ Some (step, None) → s ++ step ∷ []
          ≡ steps_at 10 c [] start
      follows-last step last = sym (next ∙ ap from last)

      -- a step further in, through one more level
      pub follows-more : (step : Step) (inner : Place) (level : Level) → r ≡ Some (step, Some inner)
          → listed_view level.list ≡ at.0
          → Follows (s ++ step ∷ []) (levels ++ level ∷ []) (place_view inner)
      follows-more step inner level more level_is =
          let longer : length (s ++ step ∷ []) ≡ length s + 1 = length-append s (step ∷ []) in
          let left : 9 - length s ≡ 10 - length (s ++ step ∷ []) = omega (arith, longer) in
          let deeper : lists (levels ++ level ∷ []) ≡ at.0 ∷ lists levels =
          lists-last levels level ∙ ap (λ (x : ListSeen). x ∷ lists levels) level_is in
          next ∙ ap from more
          ∙ sym (append_assoc s (step ∷ []) (steps_at (9 - length s) c (at.0 ∷ lists levels)
          (place_view inner)))
          ∙ ap (λ (n : ℕ). (s ++ step ∷ [])
          ++ steps_at n c (at.0 ∷ lists levels) (place_view inner)) left
          ∙ ap (λ (around : List ListSeen). (s ++ step ∷ [])
          ++ steps_at (10 - length (s ++ step ∷ [])) c around (place_view inner)) (sym deeper)

    -- no room remains
    pub follows-full : (s : List Step) (levels : List Level) (at : At) → Follows s levels at
        → length s ≡ 10 → s ≡ steps_at 10 c [] start
    follows-full s levels at is full =
        sym (is ∙ ap (λ (x : List Step). s ++ x)
        (steps-end (10 - length s) (lists levels) at (omega (arith, full))) ∙ append-nil s)
