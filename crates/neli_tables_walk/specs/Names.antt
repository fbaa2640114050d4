-- Names that stand in a table.
use Rattle.std.specs.Prelude.{ℕ, List, [], ◌++◌, codes, slice_get, Option, Some, None}
use Rattle.neli_tables.specs.Families.{Lines}
use Rattle.neli_tables.specs.Lines.{LineSeen}
use Rattle.neli_tables_walk.specs.Hex.{hex_text}
use Rattle.neli_tables_walk.specs.Quoted.{escaped, text_in}

abbrev pub escaped_or_hex : List ℕ → Option (List ℕ) → List ℕ
escaped_or_hex name (Some text) = escaped text
escaped_or_hex name None = hex_text name

-- a name, escaped; one that is no text as hexadecimal digits
abbrev pub name_text : List ℕ → List ℕ
name_text name = escaped_or_hex name (text_in name)

abbrev pub name_in : Option LineSeen → List ℕ
name_in (Some line) = line.name
name_in None = []

-- the name of the line at a place; empty where there is none
abbrev pub line_name : Lines → ℕ → List ℕ
line_name table place = name_in (slice_get table place)

-- in quotes
abbrev pub name_json : List ℕ → List ℕ
name_json name = codes "\"" ++ (name_text name ++ codes "\"")
