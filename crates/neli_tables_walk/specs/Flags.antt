-- The names of the bits of a number.
use Rattle.std.specs.Prelude.{ℕ, false, ◌==◌, if◌then◌else◌, List, [], ◌∷◌, ◌++◌, codes, map}
use Rattle.std.specs.Fmt.{digits}
use Rattle.std.specs.List.{flat_map}
use Rattle.neli_tables.specs.Lines.{LineSeen}
use Rattle.neli_tables.specs.Bits.{is_set, unnamed_bits}
use Rattle.neli_tables.specs.Families.{Lines}
use Rattle.neli_tables.specs.FoundRows.{rows_of}
use Rattle.neli_tables_walk.specs.Lists.{joined}
use Rattle.neli_tables_walk.specs.Names.{name_text}

-- the name of a row, where its bits are set
abbrev pub name_if_set : ℕ → LineSeen → List (List ℕ)
name_if_set bits row = if is_set bits row then name_text row.name ∷ [] else []

-- the bits that no row names, as one number
abbrev pub unnamed_text : ℕ → List (List ℕ)
unnamed_text left = if left == 0 then [] else (codes "0x" ++ digits 16 false left) ∷ []

-- the names of the rows whose bits are set, and the bits that no row names
abbrev pub bit_texts_by : List LineSeen → ℕ → List (List ℕ)
bit_texts_by rows bits =
    flat_map (name_if_set bits) rows ++ unnamed_text (unnamed_bits bits bits rows)

-- the same by the flag set at a place
abbrev pub bit_texts : Lines → ℕ → ℕ → List (List ℕ)
bit_texts table place bits = bit_texts_by (rows_of place table) bits

-- each between two quotes
abbrev pub in_quotes : List ℕ → List (List ℕ) → List (List ℕ)
in_quotes quote texts = map (λ text. quote ++ (text ++ quote)) texts

abbrev pub flags_text : Lines → ℕ → ℕ → List ℕ
flags_text table place bits =
    if bits == 0 then codes "0" else joined (codes "|") (in_quotes [] (bit_texts table place bits))

abbrev pub flags_json : Lines → ℕ → ℕ → List ℕ
flags_json table place bits =
    codes "[" ++ (joined (codes ",") (in_quotes (codes "\"") (bit_texts table place bits))
    ++ codes "]")
