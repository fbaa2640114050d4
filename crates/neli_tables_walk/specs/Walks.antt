-- Walks: the elements of a list, each with its path, and after a nest those in it.
use Rattle.std.specs.Prelude.{ℕ, zero, suc, ◌≡◌, ◌<◌, ◌-◌, true, false, if◌then◌else◌, List, [], ◌∷◌}
use Rattle.std.specs.Prelude.{◌++◌, length, drop, map}
use Rattle.std.specs.Prelude.{Option, Some, None, Result, Ok, Err}
use Rattle.std.specs.Borrow.{Bor}
use Rattle.std.specs.List.{flat_map}
use Rattle.neli_attr.specs.AttrType.{AttrType}
use Rattle.neli_wire.specs.declared.errors.DeError.{DeError}
use Rattle.neli_wire.specs.Sizes.{align}
use Rattle.neli_tables.specs.FoundRows.{row_in}
use Rattle.neli_tables_walk.specs.declared.item.Found.{Found}
use Rattle.neli_tables_walk.specs.declared.item.Item.{Item}
use Rattle.neli_tables_walk.specs.declared.item.Rest.{Rest}
use Rattle.neli_tables_walk.specs.declared.item.Step.{Step}
use Rattle.neli_tables_walk.specs.declared.level.Level.{Level}
use Rattle.neli_tables_walk.specs.declared.level.Sort.{Sort}
use Rattle.neli_tables_walk.specs.declared.shape.Nest.{Nest as NestOf}
use Rattle.neli_tables_walk.specs.declared.shape.Shape.{Shape}
use Rattle.neli_tables_walk.specs.declared.shape.Shape.TheVariants.{Nest, Hops, Deep}
use Rattle.neli_tables_walk.specs.Elements.{Elem, Elements, Left, elements_of}
use Rattle.neli_tables_walk.specs.Shapes.{ContextSeen, Lines, ListSeen, listed_view, onto, row_shape}

-- what is said of an element: its type field, its payload's bytes, and what these are
abbrev pub Said : Type 0
Said = Option (AttrType ℕ) × List ℕ × Shape

-- an item: where it stands, and an element or what is left behind those of a list
abbrev pub Seen : Type 0
Seen = List Step × Result Said (List ℕ × DeError)

abbrev pub content_view : Result Found Rest → Result Said (List ℕ × DeError)
content_view (Ok f) = Ok (f.kind, f.payload.now, f.shape)
content_view (Err r) = Err (r.bytes.now, r.error)

-- what an item says
abbrev pub item_view : Item → Seen
item_view item = (item.path.steps.items, content_view item.content)

-- ---- one element of a list

abbrev pub step_with : Lines → Sort → Option (AttrType ℕ) → Step
step_with table sort None = record { number = None; row = None }
step_with table sort (Some kind) =
    record { number = Some kind.nla_type; row = row_in table sort.nest.set kind.nla_type }

-- a part of a path: a number, and the place of its row; neither of a hop
abbrev pub step_of : ContextSeen → Sort → Elem → Step
step_of context sort element = step_with context.0 sort element.0

-- what a payload is by its row in a list that stands in these: a hop is its structure and its
-- attributes
abbrev pub listed_shape : ContextSeen → ListSeen → List ListSeen → Option ℕ → List ℕ → Shape
listed_shape context list around row payload =
    if list.0.is_hops then Nest list.0.nest else row_shape context (list ∷ around) row payload

-- what an element of a list is, which stands in these
abbrev pub shape_in : ContextSeen → ListSeen → List ListSeen → Elem → Shape
shape_in context list around element =
    listed_shape context list around (step_of context list.0 element).row element.1

-- a nest that is not entered
abbrev pub closed : Shape → Shape
closed (Nest nest) = Deep nest
closed (Hops nest) = Deep nest
closed s = s

-- an element at a path
abbrev pub element_seen_at : List Step → Option (AttrType ℕ) → List ℕ → Shape → Seen
element_seen_at path kind payload s = (path, Ok (kind, payload, s))

-- the item of an element
abbrev pub element_item : ContextSeen → List Step → Sort → Elem → Shape → Seen
element_item context path sort element s =
    element_seen_at (path ++ step_of context sort element ∷ []) element.0 element.1 s

-- what is left, at a path
abbrev pub left_view : List Step → List ℕ → DeError → Seen
left_view path bytes e = (path, Err (bytes, e))

-- the item of what is left, if something is
abbrev pub left_items : List Step → Left → List Seen
left_items path None = []
left_items path (Some left) = left_view path left.0 left.1 ∷ []

-- the attributes of a nest: they begin after its structure, which is padded to four bytes
abbrev pub nested_bytes : NestOf → List ℕ → List ℕ
nested_bytes nest payload = drop (align nest.header) payload

abbrev pub attributes_sort : NestOf → Sort
attributes_sort nest = record { nest = nest; is_hops = false }

abbrev pub hops_sort : NestOf → Sort
hops_sort nest = record { nest = nest; is_hops = true }

-- what the list has that a payload is, if it is one
abbrev pub sort_in : Shape → Option Sort
sort_in (Nest nest) = Some (attributes_sort nest)
sort_in (Hops nest) = Some (hops_sort nest)
sort_in s = None

-- its bytes: attributes begin after the structure
abbrev pub listed_bytes : Sort → List ℕ → List ℕ
listed_bytes sort payload = if sort.is_hops then payload else nested_bytes sort.nest payload

abbrev pub list_with : Option Sort → List ℕ → Option ListSeen
list_with None payload = None
list_with (Some sort) payload = Some (sort, listed_bytes sort payload)

-- the list that a payload is, if it is one
abbrev pub list_of : Shape → List ℕ → Option ListSeen
list_of s payload = list_with (sort_in s) payload

-- the items of a list that is in an element, by the walk over it
abbrev pub inner_items : (ListSeen → Elements → List Seen) → Option ListSeen → List Seen
inner_items inner None = []
inner_items inner (Some list) = inner list (elements_of list.0 list.1)

-- ---- nests in nests

-- the items of elements of a list that stands in others, with those of nests that are at most
-- `depth` deep
unfoldable pub walked : ContextSeen → ℕ → List Step → List ListSeen → ListSeen → Elements
    → List Seen
walked context zero path around list elements =
    flat_map (λ (e : Elem). element_item context path list.0 e
    (closed (shape_in context list around e)) ∷ []) elements.0
    ++ left_items path elements.1
walked context (suc depth) path around list elements =
    flat_map (λ (e : Elem). element_item context path list.0 e (shape_in context list around e)
    ∷ inner_items (walked context depth (path ++ step_of context list.0 e ∷ []) (list ∷ around))
    (list_of (shape_in context list around e) e.1)) elements.0
    ++ left_items path elements.1

-- the items of a list: ten are open at most
abbrev pub list_items : ContextSeen → ListSeen → List Seen
list_items context list = walked context 9 [] [] list (elements_of list.0 list.1)

-- the items of a body: a structure, and after it attributes
abbrev pub walk_items : ContextSeen → NestOf → List ℕ → List Seen
walk_items context nest body = list_items context (attributes_sort nest, nested_bytes nest body)

-- ---- what is left of a walk

-- the items that are left of a list, at this path and in these lists
abbrev pub level_items : ContextSeen → List Step → List ListSeen → Level → List Seen
level_items context path around level =
    walked context (9 - length path) path around (listed_view level.list)
    (elements_of level.list.sort level.rest.now)

-- the items that are left of lists of which each is in an element of the one before, the innermost
-- first
abbrev pub open_items : ContextSeen → List Step → List ListSeen → List Level → List Seen
open_items context path around [] = []
open_items context path around (level ∷ deeper) =
    open_items context (path ++ level.inside ∷ []) (listed_view level.list ∷ around) deeper
    ++ level_items context path around level

-- a list of which this is left, and of which this was given last
abbrev pub later_level : Level → Bor (List ℕ) → Step → Level
later_level level rest step = record level { rest = rest; inside = step }

-- what a payload is that was given last of a list, which stands in these
abbrev pub given_shape : ContextSeen → List Level → Level → List ℕ → Shape
given_shape context around last payload =
    listed_shape context (listed_view last.list) (onto around []) last.inside.row payload

-- the lists after these, and the shape that is given, where this was found of a payload: if it is a
-- list, its items come before the others; if ten lists are open, it is not entered
abbrev pub Enters : ContextSeen → List Level → Shape → List ℕ → List Level → Shape → Type 0
Enters context levels found payload after shape =
    (length levels ≡ 10
    → (shape ≡ closed found)
    × (open_items context [] [] after ≡ open_items context [] [] levels))
    × (length levels < 10
    → (shape ≡ found)
    × (open_items context [] [] after
    ≡ inner_items (walked context (9 - length levels) (map (λ (l : Level). l.inside) levels)
    (onto levels [])) (list_of found payload) ++ open_items context [] [] levels))

-- the same of a payload that was given last of the innermost list
abbrev pub EntersGiven : ContextSeen → List Level → List ℕ → List Level → Shape → Type 0
EntersGiven context levels payload after shape =
    (around : List Level) (last : Level) → levels ≡ around ++ last ∷ []
    → Enters context levels (given_shape context around last payload) payload after shape

-- what was left before an item, where `later` is left after it: nothing where there is none
abbrev pub next_item : Option Item → List Seen → List Seen
next_item None later = []
next_item (Some item) later = item_view item ∷ later
