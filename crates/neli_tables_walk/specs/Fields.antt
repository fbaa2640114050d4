-- The fields of a structure.
use Rattle.std.specs.Prelude.{ℕ, List}
use Rattle.neli_tables.specs.Families.{Lines}
use Rattle.neli_tables_walk.specs.Cells.{value_json, value_text}
use Rattle.neli_tables_walk.specs.FieldLists.{fields_json_by, fields_text_by}

-- the fields that bytes have by the structure at a place: names and values, after blanks
abbrev pub fields_text : Lines → ℕ → List ℕ → List ℕ
fields_text table place bytes = fields_text_by value_text table place bytes

-- an object with them
abbrev pub fields_json : Lines → ℕ → List ℕ → List ℕ
fields_json table place bytes = fields_json_by value_json table place bytes
