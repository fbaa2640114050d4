-- Lines by their names.
use Rattle.std.specs.Prelude.{ℕ, ◌+◌, Bool, true, false, not, ◌&&◌, List, Option, position}
use Rattle.neli_tables.specs.declared.word.Word.{Word}
use Rattle.neli_tables.specs.declared.word.Word.TheVariants as word
use Rattle.neli_tables.specs.Options.{options_of}
use Rattle.std.specs.Option.{option_map}
use Rattle.std.specs.Str.{bytes_eq}
use Rattle.neli_tables.specs.Families.{Lines}
use Rattle.neli_tables.specs.Lines.{LineSeen}
use Rattle.neli_tables.specs.FoundRows.{rows_of}

abbrev pub is_named : List ℕ → LineSeen → Bool
is_named name line = bytes_eq line.name name

-- the place of the first row with this name in the section at a place
abbrev pub row_named : Lines → ℕ → List ℕ → Option ℕ
row_named table section name =
    option_map (λ index. section + 1 + index) (position (is_named name) (rows_of section table))

abbrev pub is_message : Word → Bool
is_message word.Message = true
is_message w = false

-- a message of this name that may be sent to the kernel
abbrev pub is_request : List ℕ → LineSeen → Bool
is_request name line = is_message line.word && (bytes_eq line.name name && not (options_of line).reply)

-- the place of the first
abbrev pub request_named : Lines → List ℕ → Option ℕ
request_named table name = position (is_request name) table
