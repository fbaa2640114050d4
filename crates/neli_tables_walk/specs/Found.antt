-- The path to an offset.
use Rattle.std.specs.Prelude.{ℕ, zero, suc, ◌+◌, ◌-◌, nat_lt, if◌then◌else◌, List, [], ◌∷◌, length}
use Rattle.std.specs.Prelude.{Option, Some, None}
use Rattle.neli_attr.specs.AttrType.{AttrType}
use Rattle.neli_wire.specs.Sizes.{align}
use Rattle.neli_tables_walk.specs.declared.item.Step.{Step}
use Rattle.neli_tables_walk.specs.declared.level.Sort.{Sort}
use Rattle.neli_tables_walk.specs.declared.offset.Place.{Place}
use Rattle.neli_tables_walk.specs.declared.shape.Nest.{Nest as NestOf}
use Rattle.neli_tables_walk.specs.Elements.{Elem, elements_of}
use Rattle.neli_tables_walk.specs.Shapes.{ContextSeen, ListSeen, listed_view}
use Rattle.neli_tables_walk.specs.Walks.{attributes_sort, list_of, nested_bytes, shape_in, step_of}

-- an offset in a list
abbrev pub At : Type 0
At = ListSeen × ℕ

abbrev pub place_view : Place → At
place_view place = (listed_view place.list, place.offset)

-- ---- one list

-- the bytes before an element's payload: the header of an attribute, none of a hop
abbrev pub front_of : Option (AttrType ℕ) → ℕ
front_of (Some kind) = 4
front_of None = 0

-- how many bytes an element takes in its list, with its padding
abbrev pub element_size : Elem → ℕ
element_size element = align (front_of element.0 + length element.1)

-- the element that contains an offset, and the offset from its first byte
abbrev pub containing : ℕ → List Elem → Option (Elem × ℕ)
containing offset [] = None
containing offset (e ∷ later) =
    if nat_lt offset (element_size e) then Some (e, offset)
    else containing (offset - element_size e) later

-- ---- the list in an element

-- the bytes before a list in its payload: attributes follow their structure, padded
abbrev pub list_start : Sort → ℕ
list_start sort = if sort.is_hops then 0 else align sort.nest.header

-- the same place from a list's first byte, where its payload has it at an offset
abbrev pub place_from : ListSeen → ℕ → Option At
place_from list offset =
    if nat_lt offset (list_start list.0) then None else Some (list, offset - list_start list.0)

abbrev pub place_with : Elem → ℕ → Option ListSeen → Option At
place_with element offset None = None
place_with element offset (Some list) =
    if nat_lt offset (front_of element.0) then None
    else place_from list (offset - front_of element.0)

-- the same place in the list that an element is in these lists, if it is one
abbrev pub place_in : ContextSeen → ListSeen → List ListSeen → Elem → ℕ → Option At
place_in context list around element offset =
    place_with element offset (list_of (shape_in context list around element) element.1)

-- ---- the path

abbrev pub Stepped : Type 0
Stepped = Option (Step × Option At)

abbrev pub step_with : ContextSeen → ListSeen → List ListSeen → Option (Elem × ℕ) → Stepped
step_with context list around None = None
step_with context list around (Some (element, offset)) =
    Some (step_of context list.0 element, place_in context list around element offset)

-- the step to a place in lists around it, and the place further in
abbrev pub step_at : ContextSeen → List ListSeen → At → Stepped
step_at context around (list, offset) =
    step_with context list around (containing offset (elements_of list.0 list.1).0)

-- a step, and then the others
abbrev pub steps_of : (At → List Step) → Stepped → List Step
steps_of inner None = []
steps_of inner (Some (step, None)) = step ∷ []
steps_of inner (Some (step, Some at)) = step ∷ inner at

-- the steps to a place, so many at most
unfoldable pub steps_at : ℕ → ContextSeen → List ListSeen → At → List Step
steps_at zero context around at = []
steps_at (suc depth) context around at =
    steps_of (steps_at depth context (at.0 ∷ around)) (step_at context around at)

-- the path of these steps, if there are any
abbrev pub some_steps : List Step → Option (List Step)
some_steps [] = None
some_steps (step ∷ steps) = Some (step ∷ steps)

abbrev pub path_from : ContextSeen → Option At → Option (List Step)
path_from context None = None
path_from context (Some at) = some_steps (steps_at 10 context [] at)

-- the path to an offset, which counts from a body's first byte
abbrev pub path_at : ContextSeen → NestOf → List ℕ → ℕ → Option (List Step)
path_at context nest body offset =
    path_from context (place_from (attributes_sort nest, nested_bytes nest body) offset)
