-- Numbers by the names that a table has for them.
use Rattle.std.specs.Prelude.{ℕ, List, Option, Some, None, slice_get}
use Rattle.neli_tables.specs.Lines.{LineSeen}
use Rattle.neli_tables.specs.declared.options.Options.{Options}
use Rattle.neli_tables.specs.Families.{Lines}
use Rattle.neli_tables.specs.FoundRows.{row_in}
use Rattle.neli_tables_walk.specs.declared.number.Number.{Number}
use Rattle.neli_tables_walk.specs.declared.number.Width.{Width}
use Rattle.neli_tables_walk.specs.Flags.{flags_json, flags_text}
use Rattle.neli_tables_walk.specs.Hex.{bytes_json, bytes_text}
use Rattle.neli_tables_walk.specs.Names.{name_json, name_text}
use Rattle.neli_tables_walk.specs.Numbers.{number_in, plain_number_json, plain_number_text}

abbrev pub line_name : Option LineSeen → Option (List ℕ)
line_name None = None
line_name (Some line) = Some line.name

-- the name of the line at a place
abbrev pub name_at : Lines → Option ℕ → Option (List ℕ)
name_at table None = None
name_at table (Some place) = line_name (slice_get table place)

-- the name of a number by the enum at a place
abbrev pub name_of : Lines → Option ℕ → ℕ → Option (List ℕ)
name_of table None bits = None
name_of table (Some place) bits = name_at table (row_in table place bits)

-- ---- a number, with or without a name

abbrev pub name_or_text : Options → Number → Option (List ℕ) → List ℕ
name_or_text o n (Some name) = name_text name
name_or_text o n None = plain_number_text o.hex n

abbrev pub name_or_json : Number → Option (List ℕ) → List ℕ
name_or_json n (Some name) = name_json name
name_or_json n None = plain_number_json n

-- ---- the names of its bits, or of the number

abbrev pub number_text_by : Lines → Options → Number → Option ℕ → List ℕ
number_text_by table o n (Some place) = flags_text table place n.bits
number_text_by table o n None = name_or_text o n (name_of table o.values n.bits)

abbrev pub number_json_by : Lines → Options → Number → Option ℕ → List ℕ
number_json_by table o n (Some place) = flags_json table place n.bits
number_json_by table o n None = name_or_json n (name_of table o.values n.bits)

-- a number by these options
abbrev pub number_text : Lines → Options → Number → List ℕ
number_text table o n = number_text_by table o n o.flags

abbrev pub number_json : Lines → Options → Number → List ℕ
number_json table o n = number_json_by table o n o.flags

-- ---- bytes that are to be a number

abbrev pub number_or_text : Lines → Options → List ℕ → Option Number → List ℕ
number_or_text table o bytes (Some n) = number_text table o n
number_or_text table o bytes None = bytes_text bytes

abbrev pub number_or_json : Lines → Options → List ℕ → Option Number → List ℕ
number_or_json table o bytes (Some n) = number_json table o n
number_or_json table o bytes None = bytes_json bytes

-- the number of this width that bytes are, or these bytes
abbrev pub part_text : Lines → Options → Width → List ℕ → List ℕ
part_text table o w bytes = number_or_text table o bytes (number_in w bytes)

abbrev pub part_json : Lines → Options → Width → List ℕ → List ℕ
part_json table o w bytes = number_or_json table o bytes (number_in w bytes)
