-- Names of lines, and structures.
use Rattle.std.specs.Prelude.{ℕ, Bool, true, false, List, [], ◌++◌, codes, slice_get, Option, Some, None}
use Rattle.std.specs.Option.{option_map}
use Rattle.neli_tables.specs.declared.word.Word.{Word}
use Rattle.neli_tables.specs.declared.word.Word.TheVariants as word
use Rattle.neli_tables.specs.Lines.{LineSeen}
use Rattle.neli_tables_walk.specs.declared.item.Step.{Step}
use Rattle.neli_tables_walk.specs.Fields.{fields_json, fields_text}
use Rattle.neli_tables_walk.specs.Names.{line_name, name_json, name_text}
use Rattle.neli_print.specs.declared.pieces.Colour.TheVariants as colour
use Rattle.neli_print.specs.Pieces.{painted}

abbrev pub Lines : Type 0
Lines = List LineSeen

-- the name of an attribute, if it has a row
abbrev pub row_name : Lines → Option Step → Option (List ℕ)
row_name table (Some step) = option_map (line_name table) step.row
row_name table None = None

abbrev pub is_each_word : Word → Bool
is_each_word word.Each = true
is_each_word w = false

abbrev pub is_each_line : Option LineSeen → Bool
is_each_line (Some line) = is_each_word line.word
is_each_line None = false

abbrev pub is_each_row : Lines → Option ℕ → Bool
is_each_row table (Some place) = is_each_line (slice_get table place)
is_each_row table None = false

-- the row of an attribute stands for each number that has none of its own
abbrev pub is_each : Lines → Option Step → Bool
is_each table (Some step) = is_each_row table step.row
is_each table None = false

-- the member of a name, after others
abbrev pub name_member : Option (List ℕ) → List ℕ
name_member (Some name) = codes ",\"name\":" ++ name_json name
name_member None = []

-- the members of a structure, after others
abbrev pub structure_members : Lines → Option ℕ → List ℕ → List ℕ
structure_members table (Some place) bytes =
    codes ",\"structure\":" ++ (name_json (line_name table place)
    ++ (codes ",\"fields\":" ++ fields_json table place bytes))
structure_members table None bytes = []

-- a structure on a line
abbrev pub structure_text : Bool → Lines → Option ℕ → List ℕ → List ℕ
structure_text coloured table (Some place) bytes =
    painted coloured colour.Structure (name_text (line_name table place))
    ++ fields_text table place bytes
structure_text coloured table None bytes = []
