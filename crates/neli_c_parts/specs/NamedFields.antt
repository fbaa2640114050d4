-- The fields of the structure at the front of a message's body, as C has them.
use Rattle.std.specs.Prelude.{◌≡◌, ◌≢◌, ℕ, ℤ, ◌+◌, ◌-◌, ◌^◌, List, [], ◌++◌, length, min, nat_le, if◌then◌else◌}
use Rattle.std.specs.Prelude.{slice_get, slice_range, Option, Some, None}
use Rattle.neli_tables.specs.declared.number.Span.{Span}
use Rattle.neli_tables.specs.Families.{Lines}
use Rattle.neli_tables.specs.FoundRows.{rows_of}
use Rattle.neli_tables.specs.Lines.{LineSeen, line_view}
use Rattle.neli_tables_walk.specs.declared.shape.Shape.{Shape}
use Rattle.neli_tables_walk.specs.declared.shape.Shape.TheVariants as shape
use Rattle.neli_tables_walk.specs.Bodies.{BodySeen, body_in, body_shape}
use Rattle.neli_tables_walk.specs.Values.{payload_json}
use Rattle.neli_c_parts.specs.declared.families.Families.{Families}
use Rattle.neli_c_parts.specs.declared.message.NeliMessage.{NeliMessage}
use Rattle.neli_c_parts.specs.declared.named.NeliNamed.{NeliNamed}
use Rattle.neli_c_parts.specs.declared.named_fields.Field.{Field}
use Rattle.neli_c_parts.specs.Codes.{bad_length, item, ok, place}
use Rattle.neli_c_parts.specs.Named.{IsWritten, body_place}
use Rattle.neli_c_parts.specs.Tables.{head_of}

-- ---- a field

-- the structure at the front of a body, before its attributes, if it has one
abbrev pub structure_of : Shape → Option ℕ
structure_of (shape.Nest nest) = nest.after
structure_of (shape.Short nest) = nest.after
structure_of s = None

-- where a field begins, which may be past the bytes
abbrev pub field_start : Option Span → ℕ
field_start None = 0
field_start (Some span) = span.first

abbrev pub field_end : Option Span → ℕ
field_end None = 0
field_end (Some span) = span.last

abbrev pub between : ℕ → ℕ → List ℕ → List ℕ
between first last bytes = if nat_le first last then slice_range bytes first last else []

-- the bytes of a field that are there
abbrev pub part_of : Option Span → List ℕ → List ℕ
part_of span bytes = between (min (field_start span) (length bytes)) (min (field_end span) (length bytes)) bytes

-- the largest place, which stands for all past it
abbrev pub no_further : ℕ → ℕ
no_further at = min at (2 ^ 64 - 1)

-- a field: its table, the place of its row, the row, and its bytes
abbrev pub FieldSeen : Type 0
FieldSeen = Lines × ℕ × LineSeen × List ℕ

abbrev pub field_view : Field → FieldSeen
field_view f = (f.table.now, f.place, line_view f.row.now, f.part.now)

abbrev pub field_with : Lines → ℕ → ℕ → List ℕ → Option LineSeen → Option FieldSeen
field_with table section index bytes None = None
field_with table section index bytes (Some row) =
    Some (table, no_further (no_further (section + 1) + index), row, part_of row.span bytes)

abbrev pub field_at : Option Lines → Option ℕ → ℕ → List ℕ → Option FieldSeen
field_at (Some table) (Some section) index bytes =
    field_with table section index bytes (slice_get (rows_of section table) index)
field_at table section index bytes = None

-- the field of this index
abbrev pub field_in : BodySeen → ℕ → Option FieldSeen
field_in body index = field_at body.0 (structure_of (body_shape body)) index body.3

-- ---- as C has it

abbrev pub field_value : FieldSeen → List ℕ
field_value (table, place, row, part) = payload_json table place part

-- its name, and behind it its value
abbrev pub field_text : FieldSeen → List ℕ
field_text (table, place, row, part) = row.name ++ payload_json table place part

-- an item whose structure begins at a place
abbrev pub field_named : ℕ → FieldSeen → NeliNamed
field_named begin (table, place, row, part) = record {
  number = 0;
  kind = 36;
  depth = 0;
  payload = no_further (begin + field_start row.span);
  payload_length = length part;
  path = 0;
  path_length = length row.name;
  value = length row.name;
  value_length = length (payload_json table place part);
}

-- a field is stored, and its texts written, or there is none
abbrev pub StoresField : ℤ → ℕ → Option FieldSeen → NeliNamed → NeliNamed → List ℕ → List ℕ → ℕ → ℕ → Type 0
StoresField code begin None named named' old new size size' =
    (code ≡ ok) × (named' ≡ named) × (new ≡ old) × (size' ≡ size)
StoresField code begin (Some field) named named' old new size size' =
    (code ≢ bad_length → (code ≡ item) × (named' ≡ field_named begin field)
    × IsWritten (field_text field) old new size')
    × (code ≡ bad_length → (named' ≡ named) × (size' ≡ size))

-- the same of a message whose payload lies within the bytes
abbrev pub GivesField : ℤ → ℕ → NeliMessage → Option (List ℕ) → ℕ → Families → NeliNamed → NeliNamed → List ℕ → List ℕ
    → ℕ → ℕ → Type 0
GivesField code protocol m None index s named named' old new size size' =
    (code ≡ place) × (named' ≡ named) × (new ≡ old) × (size' ≡ size)
GivesField code protocol m (Some payload) index s named named' old new size size' =
    StoresField code (body_place (body_in s.tables (head_of protocol m) payload) m)
    (field_in (body_in s.tables (head_of protocol m) payload) index) named named' old new size size'
