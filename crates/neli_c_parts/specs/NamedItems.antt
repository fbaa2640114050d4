-- The items of a walk, as C has them: each with its kind, and with the places of its payload, its path
-- and its value.
use Rattle.std.specs.Prelude.{ℕ, ◌+◌, ◌-◌, List, [], ◌∷◌, ◌++◌, length, take, slice_get}
use Rattle.std.specs.Prelude.{Option, Some, None, Ok, Err}
use Rattle.std.specs.List.{flat_map}
use Rattle.std.specs.Option.{unwrap_or}
use Rattle.neli_attr.specs.AttrType.{AttrType}
use Rattle.neli_wire.specs.Sizes.{align}
use Rattle.neli_tables.specs.declared.kind.Kind.{Kind}
use Rattle.neli_tables.specs.declared.kind.Kind.TheVariants as kind
use Rattle.neli_tables_walk.specs.declared.item.Found.{Found}
use Rattle.neli_tables_walk.specs.declared.shape.Nest.{Nest as NestOf}
use Rattle.neli_tables_walk.specs.declared.shape.Shape.{Shape}
use Rattle.neli_tables_walk.specs.declared.shape.Shape.TheVariants as shape
use Rattle.neli_tables_walk.specs.Found.{element_size, front_of, list_start}
use Rattle.neli_tables_walk.specs.Shapes.{ContextSeen, Lines, kind_at}
use Rattle.neli_tables_walk.specs.Walks.{Said, Seen, sort_in, walk_items}
use Rattle.neli_tables_check.specs.Paths.{path_text}
use Rattle.neli_tables_walk.specs.Values.{payload_json}
use Rattle.neli_tables_walk.specs.Hex.{bytes_json}
use Rattle.neli_tables_walk.specs.declared.level.Sort.{Sort}
use Rattle.neli_c_parts.specs.declared.named.NeliNamed.{NeliNamed}

-- ---- kinds

-- the number of a kind: its place among the kinds of tables, from 1 on (`enum neli_kind` of include/neli.h)
abbrev pub kind_number : Kind → ℕ
kind_number kind.Flag = 1
kind_number kind.U8 = 2
kind_number kind.U16 = 3
kind_number kind.U32 = 4
kind_number kind.U64 = 5
kind_number kind.S8 = 6
kind_number kind.S16 = 7
kind_number kind.S32 = 8
kind_number kind.S64 = 9
kind_number kind.Be16 = 10
kind_number kind.Be32 = 11
kind_number kind.Be64 = 12
kind_number kind.Sbe32 = 13
kind_number kind.Uint = 14
kind_number kind.Sint = 15
kind_number kind.Text = 16
kind_number kind.Ztext = 17
kind_number kind.Hardware = 18
kind_number kind.Ipv4 = 19
kind_number kind.Ipv6 = 20
kind_number kind.Ip = 21
kind_number kind.Address = 22
kind_number kind.Sockaddr = 23
kind_number kind.Uuid = 24
kind_number kind.Bits = 25
kind_number kind.Struct = 26
kind_number kind.Nest = 27
kind_number kind.Hops = 28
kind_number kind.Choice = 29
kind_number kind.Bytes = 30
kind_number kind.Pad = 31

abbrev pub kind_or_none : Option Kind → ℕ
kind_or_none None = 0
kind_or_none (Some k) = kind_number k

-- of a payload: 0 without a row; 33 of less than the structure of a nest, 34 of a nest in too many
abbrev pub shape_number : Lines → Shape → ℕ
shape_number table (shape.Row place) = kind_or_none (kind_at table place)
shape_number table (shape.Nest nest) = 27
shape_number table (shape.Hops nest) = 28
shape_number table shape.Bytes = 0
shape_number table (shape.Short nest) = 33
shape_number table (shape.Deep nest) = 34

-- of an item: 32 of a hop, 35 of what is left of a list
abbrev pub element_number : Lines → Option (AttrType ℕ) → Shape → ℕ
element_number table None s = 32
element_number table (Some kind) s = shape_number table s

-- ---- places

-- where the next elements of the lists begin that are open, the outermost first
abbrev pub Begins : Type 0
Begins = List ℕ

-- of the list in so many others
abbrev pub begin_at : Begins → ℕ → ℕ
begin_at begins depth = unwrap_or (slice_get begins depth) 0

-- where the elements of the list begin that a payload at this place is, if it is one
abbrev pub inner_begin : Option Sort → ℕ → Begins
inner_begin None place = []
inner_begin (Some sort) place = (place + list_start sort) ∷ []

-- after an element of the list in so many others: behind it, and in the list that it is
abbrev pub begins_behind : Begins → ℕ → Said → Begins
begins_behind begins depth (kind, payload, s) =
    (take depth begins ++ ((begin_at begins depth + element_size (kind, payload)) ∷ []))
    ++ inner_begin (sort_in s) (begin_at begins depth + front_of kind)

-- after an item
abbrev pub begins_after : Begins → Seen → Begins
begins_after begins (path, Ok said) = begins_behind begins (length path - 1) said
begins_after begins (path, Err left) = begins

-- ---- texts

abbrev pub shape_json : Lines → Shape → List ℕ → List ℕ
shape_json table (shape.Row place) bytes = payload_json table place bytes
shape_json table s bytes = bytes_json bytes

-- the value of an item in JSON: by the line that says what it is, or else its bytes
abbrev pub value_json : Lines → Seen → List ℕ
value_json table (path, Ok (kind, payload, s)) = shape_json table s payload
value_json table (path, Err (bytes, error)) = bytes_json bytes

-- the path of an item, and behind it its value
abbrev pub item_text : Lines → Seen → List ℕ
item_text table item = path_text table item.0 ++ value_json table item

-- of all items, one after the other
abbrev pub items_text : Lines → List Seen → List ℕ
items_text table items = flat_map (item_text table) items

-- ---- what is shown

abbrev pub number_of : Option (AttrType ℕ) → ℕ
number_of None = 0
number_of (Some kind) = kind.nla_type

-- an attribute or a hop in so many lists
abbrev pub element_named : Lines → Begins → ℕ → Said → NeliNamed
element_named table begins depth (kind, payload, s) = record {
  number = number_of kind;
  kind = element_number table kind s;
  depth = depth;
  payload = begin_at begins (depth - 1) + front_of kind;
  payload_length = length payload;
  path = 0;
  path_length = 0;
  value = 0;
  value_length = 0;
}

-- what is left of a list in so many others
abbrev pub left_named : Begins → ℕ → List ℕ → NeliNamed
left_named begins depth bytes = record {
  number = 0;
  kind = 35;
  depth = depth + 1;
  payload = begin_at begins depth;
  payload_length = length bytes;
  path = 0;
  path_length = 0;
  value = 0;
  value_length = 0;
}

-- an item, but for its texts
abbrev pub item_named : Lines → Begins → Seen → NeliNamed
item_named table begins (path, Ok said) = element_named table begins (length path) said
item_named table begins (path, Err left) = left_named begins (length path) left.0

-- with a path of so many bytes at a place, and behind it a value of so many
abbrev pub with_texts : NeliNamed → ℕ → ℕ → ℕ → NeliNamed
with_texts named path path_length value_length = record named {
  path = path;
  path_length = path_length;
  value = path + path_length;
  value_length = value_length;
}

-- an item whose texts begin at a place
abbrev pub item_at : Lines → Begins → ℕ → Seen → NeliNamed
item_at table begins place item =
    with_texts (item_named table begins item) place (length (path_text table item.0))
    (length (value_json table item))

-- items whose texts begin at a place, one behind the other
unfoldable pub items_from : Lines → Begins → ℕ → List Seen → List NeliNamed
items_from table begins place [] = []
items_from table begins place (item ∷ items) =
    item_at table begins place item
    ∷ items_from table (begins_after begins item) (place + length (item_text table item)) items

-- the items of a body at a place, a structure and attributes; and their texts
abbrev pub named_items : ContextSeen → NestOf → List ℕ → ℕ → List NeliNamed
named_items context nest bytes place =
    items_from context.0 ((place + align nest.header) ∷ []) 0 (walk_items context nest bytes)

abbrev pub named_text : ContextSeen → NestOf → List ℕ → List ℕ
named_text context nest bytes = items_text context.0 (walk_items context nest bytes)

-- ---- what values say

abbrev pub listed : Option ℕ → List ℕ
listed None = []
listed (Some n) = n ∷ []

abbrev pub found_view : Found → Said
found_view f = (f.kind, f.payload.now, f.shape)
