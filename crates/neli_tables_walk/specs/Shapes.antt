-- What a payload is by its row.
use Rattle.std.specs.Prelude.{ℕ, Bool, false, not, ◌&&◌, ◌==◌, nat_eq, nat_lt, if◌then◌else◌}
use Rattle.std.specs.Prelude.{List, [], ◌∷◌, length, take, find}
use Rattle.std.specs.Prelude.{slice_get, Option, Some, None}
use Rattle.std.specs.Option.{option_map}
use Rattle.byteorder.specs.Endian.{little_number, big_number}
use Rattle.neli_tables.specs.declared.kind.Kind.{Kind}
use Rattle.neli_tables.specs.declared.kind.Kind.TheVariants as kind
use Rattle.neli_tables.specs.declared.number.Span.{Span}
use Rattle.neli_tables.specs.Lines.{LineSeen}
use Rattle.neli_tables.specs.declared.options.Options.{Options}
use Rattle.neli_tables.specs.Bits.{mask_of}
use Rattle.neli_tables.specs.RowKeys.{place_of, rest_key}
use Rattle.neli_tables.specs.Options.{options_of}
use Rattle.neli_tables.specs.FoundRows.{case_in, row_in}
use Rattle.neli_tables_walk.specs.Breaches.{without_zero}
use Rattle.neli_tables_walk.specs.declared.context.Context.{Context}
use Rattle.neli_tables_walk.specs.declared.level.Level.{Level}
use Rattle.neli_tables_walk.specs.declared.level.Listed.{Listed}
use Rattle.neli_tables_walk.specs.declared.level.Sort.{Sort}
use Rattle.neli_tables_walk.specs.declared.shape.Nest.{Nest}
use Rattle.neli_tables_walk.specs.declared.shape.Shape.{Shape}
use Rattle.neli_tables_walk.specs.declared.shape.Shape.TheVariants as shape
use Rattle.neli_reader.specs.Cuts.{Cut, cut_of}
use Rattle.neli_tables_walk.specs.Elements.{Lent, attribute_layout}

abbrev pub Lines : Type 0
Lines = List LineSeen

-- what payloads are read by: a table, and the address family of the message
abbrev pub ContextSeen : Type 0
ContextSeen = Lines × ℕ

abbrev pub context_view : Context → ContextSeen
context_view context = (context.table.now, context.family)

-- a list: what it has, and its bytes
abbrev pub ListSeen : Type 0
ListSeen = Sort × List ℕ

abbrev pub listed_view : Listed → ListSeen
listed_view list = (list.sort, list.bytes.now)

-- the attributes that bytes list, and the fault after them
abbrev pub attributes_of : List ℕ → Cut Lent
attributes_of = cut_of attribute_layout

-- ---- lines of the table

-- what the options of the line at a place say
abbrev pub line_options : Lines → ℕ → Option Options
line_options table place = option_map options_of (slice_get table place)

abbrev pub line_number : Option LineSeen → ℕ
line_number None = 0
line_number (Some line) = mask_of line

-- the size of a structure; 0 where there is none
abbrev pub size_of : Lines → Option ℕ → ℕ
size_of table None = 0
size_of table (Some place) = line_number (slice_get table place)

abbrev pub nest_with : ℕ → Option ℕ → ℕ → Nest
nest_with set after header = record { set = set; after = after; header = header }

-- the attributes that options mean, after their structure
abbrev pub nest_of : Lines → Options → Option Nest
nest_of table o = option_map (λ set. nest_with set o.after (size_of table o.after)) o.of

-- ---- what picks a case

-- bytes are a number where there are one to eight
abbrev pub number_by : (ℕ → List ℕ → ℕ) → List ℕ → Option ℕ
number_by number bytes =
    if nat_lt 0 (length bytes) && nat_lt (length bytes) 9 then Some (number (length bytes) bytes)
    else None

-- the case of a number, or that for all others
abbrev pub numbered : Lines → ℕ → Option ℕ → Option ℕ
numbered table choice (Some number) = row_in table choice number
numbered table choice None = place_of (rest_key choice) table

-- the case that bytes of this kind pick: by a text, or by a number
abbrev pub picked_as : Lines → ℕ → Option Kind → List ℕ → Option ℕ
picked_as table choice (Some kind.Text) bytes = case_in table choice (without_zero bytes)
picked_as table choice (Some kind.Ztext) bytes = case_in table choice (without_zero bytes)
picked_as table choice (Some kind.Be16) bytes = numbered table choice (number_by big_number bytes)
picked_as table choice (Some kind.Be32) bytes = numbered table choice (number_by big_number bytes)
picked_as table choice (Some kind.Be64) bytes = numbered table choice (number_by big_number bytes)
picked_as table choice (Some kind.Sbe32) bytes = numbered table choice (number_by big_number bytes)
picked_as table choice k bytes = numbered table choice (number_by little_number bytes)

abbrev pub kind_in : Option Options → Option Kind
kind_in None = None
kind_in (Some o) = o.kind

-- the kind that the line at a place says
abbrev pub kind_at : Lines → ℕ → Option Kind
kind_at table place = kind_in (line_options table place)

-- the attribute has this number
abbrev pub has_number : ℕ → Lent → Bool
has_number number a = nat_eq a.0.kind.nla_type number

-- the payload of the first attribute of this number among the first 64 of a list
abbrev pub beside : List ℕ → ℕ → Option (List ℕ)
beside list number =
    option_map (λ (a : Lent). a.1) (find (has_number number) (take 64 (attributes_of list).0))

abbrev pub is_place : ℕ → Option ℕ → Bool
is_place place (Some other) = other == place
is_place place None = false

-- in this list the number means the row at this place
abbrev pub has_row : Lines → ℕ → ℕ → ListSeen → Bool
has_row table by number list =
    not list.0.is_hops && is_place by (row_in table list.0.nest.set number)

abbrev pub beside_in : ℕ → Option ListSeen → Option (List ℕ)
beside_in number None = None
beside_in number (Some list) = beside list.1 number

abbrev pub picker_of : Lines → List ListSeen → ℕ → Option ℕ → Option (List ℕ)
picker_of table lists by None = None
picker_of table lists by (Some number) = beside_in number (find (has_row table by number) lists)

-- the number of a line, where it is one of an attribute, of 14 bits
abbrev pub attribute_number : Option Span → Option ℕ
attribute_number None = None
attribute_number (Some span) = if nat_lt span.first 16384 then Some span.first else None

abbrev pub number_in : Option LineSeen → Option ℕ
number_in None = None
number_in (Some line) = attribute_number line.span

-- the payload of the attribute that picks a case: in the innermost list in which its number means
-- its row
abbrev pub picker : Lines → List ListSeen → ℕ → Option (List ℕ)
picker table lists by = picker_of table lists by (number_in (slice_get table by))

abbrev pub picked : Lines → ℕ → ℕ → Option (List ℕ) → Option ℕ
picked table choice by None = place_of (rest_key choice) table
picked table choice by (Some bytes) = picked_as table choice (kind_at table by) bytes

abbrev pub picked_by : Lines → List ListSeen → ℕ → Option ℕ → Option ℕ
picked_by table lists choice None = None
picked_by table lists choice (Some by) = picked table choice by (picker table lists by)

abbrev pub chosen_of : ContextSeen → List ListSeen → Options → Option ℕ → Option ℕ
chosen_of context lists o None = None
chosen_of context lists o (Some choice) =
    if o.by_family then row_in context.0 choice context.1
    else picked_by context.0 lists choice o.by

-- the place of the case that a choice picks, in a list and those around it
abbrev pub chosen : ContextSeen → List ListSeen → Options → Option ℕ
chosen context lists o = chosen_of context lists o o.of

-- ---- payloads

-- the attributes of a nest, where its structure is there
abbrev pub nest_shape : Option Nest → List ℕ → Shape
nest_shape None payload = shape.Bytes
nest_shape (Some nest) payload =
    if nat_lt (length payload) nest.header then shape.Short nest else shape.Nest nest

abbrev pub hops_shape : Option Nest → Shape
hops_shape None = shape.Bytes
hops_shape (Some nest) = shape.Hops nest

-- what a payload is by a line of this kind, which is no choice
abbrev pub kind_shape : Lines → ℕ → Options → Option Kind → List ℕ → Shape
kind_shape table place o (Some kind.Nest) payload = nest_shape (nest_of table o) payload
kind_shape table place o (Some kind.Hops) payload = hops_shape (nest_of table o)
kind_shape table place o k payload = shape.Row place

abbrev pub options_shape : Lines → ℕ → Options → List ℕ → Shape
options_shape table place o payload = kind_shape table place o o.kind payload

abbrev pub shape_with : Lines → ℕ → Option Options → List ℕ → Shape
shape_with table place None payload = shape.Bytes
shape_with table place (Some o) payload = options_shape table place o payload

-- what a payload is by the case that was picked
abbrev pub case_shape : Lines → Option ℕ → List ℕ → Shape
case_shape table None payload = shape.Bytes
case_shape table (Some place) payload = shape_with table place (line_options table place) payload

abbrev pub kind_or_case : ContextSeen → List ListSeen → ℕ → Options → Option Kind → List ℕ → Shape
kind_or_case context lists place o (Some kind.Choice) payload =
    case_shape context.0 (chosen context lists o) payload
kind_or_case context lists place o k payload = options_shape context.0 place o payload

abbrev pub shape_by : ContextSeen → List ListSeen → ℕ → Option Options → List ℕ → Shape
shape_by context lists place None payload = shape.Bytes
shape_by context lists place (Some o) payload = kind_or_case context lists place o o.kind payload

-- what a payload is by its row, in a list and those around it
abbrev pub row_shape : ContextSeen → List ListSeen → Option ℕ → List ℕ → Shape
row_shape context lists None payload = shape.Bytes
row_shape context lists (Some place) payload =
    shape_by context lists place (line_options context.0 place) payload

-- the lists that these levels are, from the innermost out, before others
abbrev pub onto : List Level → List ListSeen → List ListSeen
onto [] lists = lists
onto (level ∷ levels) lists = onto levels (listed_view level.list ∷ lists)
