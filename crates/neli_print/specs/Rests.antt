-- Structures, and the bytes behind them.
use Rattle.std.specs.Prelude.{ℕ, List, [], ◌∷◌, ◌++◌, codes, drop, slice_get, Option}
use Rattle.std.specs.Prelude.{Some, None}
use Rattle.neli_tables_walk.specs.Shapes.{line_number}
use Rattle.neli_tables_walk.specs.Values.{struct_in}
use Rattle.neli_tables_walk.specs.Hex.{bytes_text, hex_text}
use Rattle.neli_print.specs.Names.{Lines}

-- the size of the structure at a place
abbrev pub size_at : Lines → ℕ → ℕ
size_at table place = line_number (slice_get table place)

abbrev pub rest_behind : Lines → Option ℕ → List ℕ → List ℕ
rest_behind table (Some of) payload = drop (size_at table of) payload
rest_behind table None payload = []

-- the bytes behind a structure, where a payload is one by the line at a place
abbrev pub rest_of : Lines → ℕ → List ℕ → List ℕ
rest_of table place payload = rest_behind table (struct_in table place) payload

-- bytes behind what is known, in JSON
abbrev pub rest_member : List ℕ → List ℕ
rest_member [] = []
rest_member (b ∷ bytes) = codes ",\"rest\":\"" ++ (hex_text (b ∷ bytes) ++ codes "\"")

-- and on a line
abbrev pub rest_words : List ℕ → List ℕ
rest_words [] = []
rest_words (b ∷ bytes) = codes " rest " ++ bytes_text (b ∷ bytes)
