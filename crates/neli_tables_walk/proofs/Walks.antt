-- Walks, one item after the other.
use Rattle.std.proofs.Common.{◌≡◌, ◌≢◌, inl, inr, Bool, true, false, ltb, ℕ, zero, suc, ◌+◌, ◌-◌}
use Rattle.std.proofs.Common.{◌<◌, List, []}
use Rattle.std.proofs.Common.{◌∷◌, ◌++◌, length, map, Some, None, Ok, Err, refl, sym, ap, ◌∙◌}
use Rattle.std.proofs.Common.{append_assoc}
use Rattle.std.proofs.Common.{arith, length-append}
use Rattle.std.specs.Prelude.{◌⊎◌}
use Rattle.std.proofs.lemmas.List.{append-nil, map-append, length-map}
use Rattle.std.proofs.lemmas.Bool.{ltb-true, ltb-false}
use Rattle.std.specs.Borrow.{Bor}
use Rattle.neli_wire.specs.declared.errors.DeError.{DeError}
use Rattle.neli_tables_walk.specs.declared.item.Step.{Step}
use Rattle.neli_tables_walk.specs.declared.level.Level.{Level}
use Rattle.neli_tables_walk.specs.declared.level.Sort.{Sort}
use Rattle.neli_tables_walk.specs.declared.shape.Shape.{Shape}
use Rattle.neli_tables_walk.specs.declared.shape.Shape.TheVariants.{Row, Nest, Hops, Bytes, Short}
use Rattle.neli_tables_walk.specs.declared.shape.Shape.TheVariants.{Deep}
use Rattle.neli_tables_walk.specs.Elements.{Elem, Elements, Left, element_at, element_before}
use Rattle.neli_tables_walk.specs.Elements.{elements_of}
use Rattle.neli_tables_walk.specs.Shapes.{ContextSeen, ListSeen, listed_view, onto}
use Rattle.neli_tables_walk.specs.Walks.{Seen, closed, element_item, element_seen_at, inner_items}
use Rattle.neli_tables_walk.specs.Walks.{Enters, later_level, left_items, left_view}
use Rattle.neli_tables_walk.specs.Walks.{attributes_sort, hops_sort, level_items, list_of}
use Rattle.neli_tables_walk.specs.Walks.{open_items, shape_in, sort_in, step_of, walked}
use Rattle.neli_tables_walk.proofs.Lists.{elements-end, elements-fault, elements-more}

-- ---- the items of a list

module _ (c : ContextSeen) (path : List Step) (around : List ListSeen) (list : ListSeen) where
  pub walked-none : (d : ℕ) (left : Left)
      → walked c d path around list ([], left) ≡ left_items path left
  unfolding walked
  walked-none zero left = refl
  walked-none (suc d) left = refl

  walked-closed : (e : Elem) (elements : Elements)
      → walked c zero path around list (element_before e elements)
      ≡ element_item c path list.0 e (closed (shape_in c list around e))
      ∷ walked c zero path around list elements
  unfolding walked
  walked-closed e elements = refl

  walked-more : (d : ℕ) (e : Elem) (elements : Elements)
      → walked c (suc d) path around list (element_before e elements)
      ≡ element_item c path list.0 e (shape_in c list around e) ∷
      (inner_items (walked c d (path ++ step_of c list.0 e ∷ []) (list ∷ around))
      (list_of (shape_in c list around e) e.1) ++ walked c (suc d) path around list elements)
  unfolding walked
  walked-more d e elements =
      let inner = inner_items (walked c d (path ++ step_of c list.0 e ∷ []) (list ∷ around))
      (list_of (shape_in c list around e) e.1) in
      append_assoc (element_item c path list.0 e (shape_in c list around e) ∷ inner) _ _

  pub closed-at : (d : ℕ) (e : Elem) (elements : Elements) → d ≡ 0
      → walked c d path around list (element_before e elements)
      ≡ element_item c path list.0 e (closed (shape_in c list around e))
      ∷ walked c d path around list elements
  closed-at zero e elements none = walked-closed e elements
  closed-at (suc d) e elements none = absurd (omega (arith, none))

  pub more-at : (d deeper : ℕ) (e : Elem) (elements : Elements) → d ≡ suc deeper
      → walked c d path around list (element_before e elements)
      ≡ element_item c path list.0 e (shape_in c list around e) ∷
      (inner_items (walked c deeper (path ++ step_of c list.0 e ∷ []) (list ∷ around))
      (list_of (shape_in c list around e) e.1) ++ walked c d path around list elements)
  more-at d deeper e elements some = rw some (walked-more deeper e elements)

-- ---- the innermost list

abbrev pub insides : List Level → List Step
insides levels = map (λ (l : Level). l.inside) levels

-- the lists of levels, from the innermost out
abbrev pub lists : List Level → List ListSeen
lists levels = onto levels []

onto-last : (levels : List Level) (last : Level) (around : List ListSeen)
    → onto (levels ++ last ∷ []) around ≡ listed_view last.list ∷ onto levels around
onto-last [] last around = refl
onto-last (level ∷ levels) last around = onto-last levels last (listed_view level.list ∷ around)

pub lists-last : (levels : List Level) (last : Level)
    → lists (levels ++ last ∷ []) ≡ listed_view last.list ∷ lists levels
lists-last levels last = onto-last levels last []

open-last-in : (c : ContextSeen) (path : List Step) (around : List ListSeen) (levels : List Level)
    (last : Level)
    → open_items c path around (levels ++ last ∷ [])
    ≡ level_items c (path ++ insides levels) (onto levels around) last
    ++ open_items c path around levels
open-last-in c path around [] last =
    sym (ap (λ (p : List Step). level_items c p around last ++ []) (append-nil path)
    ∙ append-nil (level_items c path around last))
open-last-in c path around (level ∷ levels) last =
    let deeper = path ++ level.inside ∷ [] in
    let inner = listed_view level.list ∷ around in
    ap (λ (x : List Seen). x ++ level_items c path around level)
    (open-last-in c deeper inner levels last)
    ∙ append_assoc (level_items c (deeper ++ insides levels) (onto levels inner) last)
    (open_items c deeper inner levels) (level_items c path around level)
    ∙ ap (λ (p : List Step). level_items c p (onto levels inner) last
    ++ (open_items c deeper inner levels ++ level_items c path around level))
    (append_assoc path (level.inside ∷ []) (insides levels))

-- the items that are left of levels
abbrev pub items : ContextSeen → List Level → List Seen
items c levels = open_items c [] [] levels

pub open-last : (c : ContextSeen) (levels : List Level) (last : Level)
    → items c (levels ++ last ∷ [])
    ≡ level_items c (insides levels) (lists levels) last ++ items c levels
open-last c levels last = open-last-in c [] [] levels last

-- the items of what is left of the innermost list
abbrev at_last : ContextSeen → List Level → Level → Elements → List Seen
at_last c levels last elements =
    walked c (9 - length (insides levels)) (insides levels) (lists levels) (listed_view last.list)
    elements

-- nothing is left of it
pub open-end : (c : ContextSeen) (levels : List Level) (last : Level) → last.rest.now ≡ []
    → items c (levels ++ last ∷ []) ≡ items c levels
open-end c levels last none =
    open-last c levels last
    ∙ ap (λ (e : Elements). at_last c levels last e ++ items c levels)
    (elements-end last.list.sort last.rest.now none)
    ∙ ap (λ (x : List Seen). x ++ items c levels) (walked-none c (insides levels) (lists levels)
    (listed_view last.list) (9 - length (insides levels)) None)

-- a list of which nothing is left may be taken out
pub open-out : (c : ContextSeen) (levels old : List Level) (last : Level)
    → old ≡ levels ++ last ∷ [] → last.rest.now ≡ [] → items c old ≡ items c levels
open-out c levels old last old_is none = ap (items c) old_is ∙ open-end c levels last none

-- what a nest has comes before what else is left
pub open-nest : (c : ContextSeen) (levels new : List Level) (nest : Level) (list : ListSeen)
    → new ≡ levels ++ nest ∷ [] → listed_view nest.list ≡ list → nest.rest.now ≡ list.1
    → items c new
    ≡ inner_items (walked c (9 - length levels) (insides levels) (lists levels)) (Some list)
    ++ items c levels
open-nest c levels new nest list new_is list_is rest_is =
    ap (items c) new_is
    ∙ open-last c levels nest
    ∙ ap (λ (n : ℕ). walked c (9 - n) (insides levels) (lists levels) (listed_view nest.list)
    (elements_of nest.list.sort nest.rest.now) ++ items c levels)
    (length-map levels (λ (l : Level). l.inside))
    ∙ ap (λ (b : List ℕ). walked c (9 - length levels) (insides levels) (lists levels)
    (listed_view nest.list) (elements_of nest.list.sort b) ++ items c levels) rest_is
    ∙ ap (λ (l : ListSeen). walked c (9 - length levels) (insides levels) (lists levels) l
    (elements_of l.0 list.1) ++ items c levels) list_is

-- a fault is left of it
pub open-fault : (c : ContextSeen) (levels : List Level) (last : Level) (e : DeError)
    → last.rest.now ≢ [] → element_at last.list.sort last.rest.now ≡ Err e
    → items c (levels ++ last ∷ []) ≡ left_view (insides levels) last.rest.now e ∷ items c levels
open-fault c levels last e any is =
    open-last c levels last
    ∙ ap (λ (x : Elements). at_last c levels last x ++ items c levels)
    (elements-fault last.list.sort last.rest.now e any is)
    ∙ ap (λ (x : List Seen). x ++ items c levels) (walked-none c (insides levels) (lists levels)
    (listed_view last.list) (9 - length (insides levels)) (Some (last.rest.now, e)))

-- ---- an element is left of it

module _ (c : ContextSeen) (levels : List Level) (last : Level) (rest : Bor (List ℕ)) (e : Elem)
    (is : element_at last.list.sort last.rest.now ≡ Ok (e, rest.now)) where
  abbrev depth : ℕ
  depth = 9 - length (insides levels)

  abbrev list : ListSeen
  list = listed_view last.list

  abbrev found : Shape
  found = shape_in c list (lists levels) e

  abbrev step_at : Step
  step_at = step_of c last.list.sort e

  abbrev item : Shape → Seen
  item s = element_item c (insides levels) last.list.sort e s

  abbrev after : List Level
  after = levels ++ later_level last rest step_at ∷ []

  open-before : items c (levels ++ last ∷ [])
      ≡ at_last c levels last (element_before e (elements_of last.list.sort rest.now))
      ++ items c levels
  open-before =
      open-last c levels last ∙ ap (λ (x : Elements). at_last c levels last x ++ items c levels)
      (elements-more last.list.sort last.rest.now rest.now e is)

  open-after : at_last c levels last (elements_of last.list.sort rest.now) ++ items c levels
      ≡ items c after
  open-after = sym (open-last c levels (later_level last rest step_at))

  open-closed : depth ≡ 0 → items c (levels ++ last ∷ []) ≡ item (closed found) ∷ items c after
  open-closed none =
      open-before
      ∙ ap (λ (x : List Seen). x ++ items c levels)
      (closed-at c (insides levels) (lists levels) list depth e
      (elements_of last.list.sort rest.now) none)
      ∙ ap (λ (x : List Seen). item (closed found) ∷ x) open-after

  open-more : (deeper : ℕ) → depth ≡ suc deeper → items c (levels ++ last ∷ [])
      ≡ item found
      ∷ (inner_items (walked c deeper (insides levels ++ step_at ∷ []) (list ∷ lists levels))
      (list_of found e.1) ++ items c after)
  open-more deeper some =
      let walk = walked c deeper (insides levels ++ step_at ∷ []) (list ∷ lists levels) in
      let inner = inner_items walk (list_of found e.1) in
      open-before
      ∙ ap (λ (x : List Seen). x ++ items c levels) (more-at c (insides levels) (lists levels) list
      depth deeper e (elements_of last.list.sort rest.now) some)
      ∙ ap (λ (x : List Seen). item found ∷ x)
      (append_assoc inner (at_last c levels last (elements_of last.list.sort rest.now))
      (items c levels) ∙ ap (λ (x : List Seen). inner ++ x) open-after)

  -- what is said of it where its list is the tenth, and where it is not
  given-full : (shape : Shape) (new : List Level) → length levels ≡ 9 → shape ≡ closed found
      → items c new ≡ items c after → item shape ∷ items c new ≡ items c (levels ++ last ∷ [])
  given-full shape new nine is_closed same =
      let inner : length (insides levels) ≡ length levels =
      length-map levels (λ (l : Level). l.inside) in
      ap (λ (s : Shape). item s ∷ items c new) is_closed
      ∙ ap (λ (x : List Seen). item (closed found) ∷ x) same
      ∙ sym (open-closed (omega (arith, inner, nine)))

  given-more : (shape : Shape) (new : List Level) → length levels < 9 → shape ≡ found
      → items c new
      ≡ inner_items (walked c (9 - length after) (insides after) (lists after)) (list_of found e.1)
      ++ items c after → item shape ∷ items c new ≡ items c (levels ++ last ∷ [])
  given-more shape new fewer is_open entered =
      let inner : length (insides levels) ≡ length levels =
      length-map levels (λ (l : Level). l.inside) in
      let more : length after ≡ length levels + 1 =
      length-append levels (later_level last rest step_at ∷ []) in
      let path : insides after ≡ insides levels ++ step_at ∷ [] =
      map-append (λ (l : Level). l.inside) levels (later_level last rest step_at ∷ []) in
      let around : lists after ≡ list ∷ lists levels =
      lists-last levels (later_level last rest step_at) in
      let deeper = 9 - length after in
      ap (λ (s : Shape). item s ∷ items c new) is_open
      ∙ ap (λ (x : List Seen). item found ∷ x) (entered
      ∙ ap (λ (p : List Step). inner_items (walked c deeper p (lists after)) (list_of found e.1)
      ++ items c after) path
      ∙ ap (λ (a : List ListSeen). inner_items (walked c deeper (insides levels ++ step_at ∷ []) a)
      (list_of found e.1) ++ items c after) around)
      ∙ sym (open-more deeper (omega (arith, inner, more, fewer)))

-- ---- what a step says

-- what is left, after which nothing is left of the innermost list
pub given-fault : (c : ContextSeen) (levels new : List Level) (last ended : Level) (e : DeError)
    (path : List Step) → path ≡ insides levels → new ≡ levels ++ ended ∷ []
    → ended.rest.now ≡ [] → last.rest.now ≢ []
    → element_at last.list.sort last.rest.now ≡ Err e
    → left_view path last.rest.now e ∷ items c new ≡ items c (levels ++ last ∷ [])
given-fault c levels new last ended e path path_is new_is none any is =
    ap (λ (p : List Step). left_view p last.rest.now e ∷ items c new) path_is
    ∙ ap (λ (xs : List Level). left_view (insides levels) last.rest.now e ∷ items c xs) new_is
    ∙ ap (λ (x : List Seen). left_view (insides levels) last.rest.now e ∷ x)
    (open-end c levels ended none)
    ∙ sym (open-fault c levels last e any is)

nine-or-fewer : (n : ℕ) → n < 10 → (n ≡ 9) ⊎ (n < 9)
nine-or-fewer n room = by (ltb n 9) refl
  where
    by : (b : Bool) → ltb n 9 ≡ b → (n ≡ 9) ⊎ (n < 9)
    by true e = inr (ltb-true n 9 e)
    by false e = inl (omega (arith, ltb-false n 9 e, room))

-- an element, after which the rest of its list is left, and before that what it has if it is a nest
module _ (c : ContextSeen) (levels : List Level) (last : Level) (rest : Bor (List ℕ)) (e : Elem)
    (is : element_at last.list.sort last.rest.now ≡ Ok (e, rest.now)) where
  abbrev later : Step → List Level
  later step = levels ++ later_level last rest step ∷ []

  abbrev inner_in : List Level → Shape → List Seen
  inner_in pushed s =
      inner_items (walked c (9 - length pushed) (insides pushed) (lists pushed)) (list_of s e.1)
      ++ items c pushed

  pub given-element : (step : Step) (path : List Step) (found shape : Shape)
      (pushed new : List Level) → length levels < 10 → path ≡ insides levels ++ step ∷ []
      → step ≡ step_of c last.list.sort e
      → found ≡ shape_in c (listed_view last.list) (lists levels) e → pushed ≡ later step
      → (length pushed ≡ 10 → (shape ≡ closed found) × (items c new ≡ items c pushed))
      → (length pushed < 10 → (shape ≡ found) × (items c new ≡ inner_in pushed found))
      → element_seen_at path e.0 e.1 shape ∷ items c new ≡ items c (levels ++ last ∷ [])
  given-element step path found shape pushed new room path_is step_is found_is pushed_is full into =
      ap (λ (p : List Step). element_seen_at p e.0 e.1 shape ∷ items c new) (path_is
      ∙ ap (λ (s : Step). insides levels ++ s ∷ []) step_is)
      ∙ by (nine-or-fewer (length levels) room)
    where
      pushed_at : pushed ≡ later (step_of c last.list.sort e)
      pushed_at = pushed_is ∙ ap later step_is

      more : length pushed ≡ length levels + 1
      more =
          ap length pushed_at
          ∙ length-append levels (later_level last rest (step_of c last.list.sort e) ∷ [])

      by : (length levels ≡ 9) ⊎ (length levels < 9)
          → element_item c (insides levels) last.list.sort e shape ∷ items c new
          ≡ items c (levels ++ last ∷ [])
      by (inl nine) =
          let f = full (omega (arith, more, nine)) in
          given-full c levels last rest e is shape new nine (f.0 ∙ ap closed found_is)
          (f.1 ∙ ap (items c) pushed_at)
      by (inr fewer) =
          let f = into (omega (arith, more, fewer)) in
          given-more c levels last rest e is shape new fewer (f.0 ∙ found_is) (f.1
          ∙ ap (λ (xs : List Level). inner_in xs found) pushed_at
          ∙ ap (λ (s : Shape). inner_in (later (step_of c last.list.sort e)) s) found_is)

-- a nest that is not entered, by what its list has
pub closed-is : (s : Shape) (sort : Sort) → Some sort ≡ sort_in s → Deep sort.nest ≡ closed s
closed-is (Row place) sort is = absurd cc
closed-is (Nest nest) sort is =
    let same : sort ≡ attributes_sort nest = cc in ap (λ (x : Sort). Deep x.nest) same
closed-is (Hops nest) sort is =
    let same : sort ≡ hops_sort nest = cc in ap (λ (x : Sort). Deep x.nest) same
closed-is Bytes sort is = absurd cc
closed-is (Short nest) sort is = absurd cc
closed-is (Deep nest) sort is = absurd cc

-- what is found may be given by another term
pub enters-as : (c : ContextSeen) (levels : List Level) (found same : Shape) (payload : List ℕ)
    (after : List Level) (shape : Shape) → found ≡ same
    → Enters c levels found payload after shape → Enters c levels same payload after shape
enters-as c levels found same payload after shape is entered = rw (sym is) entered

-- a row that is no list is not entered
pub enters-row : (c : ContextSeen) (levels : List Level) (found : Shape) (payload : List ℕ)
    (place : ℕ) → found ≡ Row place → Enters c levels found payload levels (Row place)
enters-row c levels found payload place is = rw is (λ _. (refl, refl), λ _. (refl, refl))
