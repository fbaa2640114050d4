-- Payloads and fields that are not one structure.
use Rattle.std.specs.Prelude.{ℕ, if◌then◌else◌, is_some, List, ◌++◌, length, codes}
use Rattle.neli_tables.specs.declared.options.Options.{Options}
use Rattle.neli_tables.specs.Families.{Lines}
use Rattle.neli_tables_walk.specs.declared.form.Cell.{Cell}
use Rattle.neli_tables_walk.specs.declared.form.Cell.TheVariants as cell
use Rattle.neli_tables_walk.specs.declared.form.Plain.TheVariants as plain
use Rattle.neli_tables_walk.specs.Breaches.{cell_breach}
use Rattle.neli_tables_walk.specs.Forms.{cell_of}
use Rattle.neli_tables_walk.specs.Lists.{joined}
use Rattle.neli_tables_walk.specs.Plains.{plain_json, plain_text}
use Rattle.neli_tables_walk.specs.Structures.{structures_members, structures_text}

-- each value after a blank
abbrev pub cell_text : Lines → Options → Cell → List ℕ → List ℕ
cell_text table o (cell.Plain p) bytes = plain_text table o p bytes
cell_text table o (cell.Structures place size) bytes = structures_text table place size bytes

-- one value of JSON
abbrev pub cell_json : Lines → Options → Cell → List ℕ → List ℕ
cell_json table o (cell.Plain p) bytes = plain_json table o p bytes
cell_json table o (cell.Structures place size) bytes =
    codes "[" ++ (joined (codes ",") (structures_members table place size bytes) ++ codes "]")

-- what bytes are by the options of a field; those that cannot be so are bytes
abbrev pub kept_cell : Lines → Options → List ℕ → Cell
kept_cell table o bytes =
    if is_some (cell_breach (cell_of table o (length bytes)) bytes) then cell.Plain plain.Bytes
    else cell_of table o (length bytes)

-- the value of a field by its options
abbrev pub value_text : Lines → Options → List ℕ → List ℕ
value_text table o bytes = cell_text table o (kept_cell table o bytes) bytes

abbrev pub value_json : Lines → Options → List ℕ → List ℕ
value_json table o bytes = cell_json table o (kept_cell table o bytes) bytes
