-- The fields of a structure, by what prints the value of one.
use Rattle.std.specs.Prelude.{◌≡◌, ℕ, List, [], ◌∷◌, ◌++◌, codes, Option, Some, None}
use Rattle.std.specs.List.{flat_map}
use Rattle.neli_tables.specs.Lines.{LineSeen}
use Rattle.neli_tables.specs.declared.options.Options.{Options}
use Rattle.neli_tables.specs.Families.{Lines}
use Rattle.neli_tables.specs.Options.{options_of}
use Rattle.neli_tables.specs.FoundRows.{rows_of}
use Rattle.neli_tables_walk.specs.FieldBytes.{field_bytes}
use Rattle.neli_tables_walk.specs.declared.number.Number.{Number}
use Rattle.neli_tables_walk.specs.Lists.{joined}
use Rattle.neli_tables_walk.specs.Names.{name_json, name_text}
use Rattle.neli_tables_walk.specs.Numbers.{plain_number_json}

-- what is printed of bytes by the options of their line
abbrev pub Printed : Type 0
Printed = Lines → Options → List ℕ → List ℕ

-- the field of a row is a number, of which these are printed: what stands before it, and its digits
abbrev pub PrintsNumber : Printed → List ℕ → LineSeen → List ℕ → Number → Type 0
PrintsNumber value before row bytes n =
    (part : List ℕ) × (field_bytes row bytes ≡ Some part)
    × ((table : Lines) → value table (options_of row) part ≡ before ++ plain_number_json n)

-- a field's name and its value, if it is there
abbrev pub text_if : Printed → Lines → LineSeen → Option (List ℕ) → List ℕ
text_if value table row None = []
text_if value table row (Some part) =
    codes " " ++ (name_text row.name ++ value table (options_of row) part)

abbrev pub field_text_by : Printed → Lines → List ℕ → LineSeen → List ℕ
field_text_by value table bytes row = text_if value table row (field_bytes row bytes)

-- all fields that bytes have by the structure at a place
abbrev pub fields_text_by : Printed → Lines → ℕ → List ℕ → List ℕ
fields_text_by value table place bytes =
    flat_map (field_text_by value table bytes) (rows_of place table)

-- ---- in JSON

-- a member of an object: a field with this name that is these bytes
abbrev pub member_json_with : Printed → Lines → List ℕ → Options → List ℕ → List ℕ
member_json_with value table name o part = name_json name ++ (codes ":" ++ value table o part)

abbrev pub member_with : Printed → Lines → List ℕ → Options → Option (List ℕ) → List (List ℕ)
member_with value table name o None = []
member_with value table name o (Some part) = member_json_with value table name o part ∷ []

-- the member of a field, if it is there
abbrev pub member_by : Printed → Lines → List ℕ → LineSeen → List (List ℕ)
member_by value table bytes row =
    member_with value table row.name (options_of row) (field_bytes row bytes)

abbrev pub members_by : Printed → Lines → ℕ → List ℕ → List (List ℕ)
members_by value table place bytes = flat_map (member_by value table bytes) (rows_of place table)

abbrev pub fields_json_by : Printed → Lines → ℕ → List ℕ → List ℕ
fields_json_by value table place bytes =
    codes "{" ++ (joined (codes ",") (members_by value table place bytes) ++ codes "}")
