-- A set of flags by name: the table of the set has its names, each with its bits.
use Rattle.std.specs.Prelude.{ℕ, ◌==◌, Bool, true, false, List, [], ◌∷◌, ◌++◌, codes, if◌then◌else◌}
use Rattle.std.specs.Fmt.{digits}
use Rattle.std.specs.List.{flat_map}
use Rattle.bitflags.specs.declared.traits.Flag.{Flag}
use Rattle.bitflags.specs.Sets.{Row, is_next, without}

-- a flag of a set's table: its name, and its bits as a number
abbrev pub flag_row : {F : Type 0} → (F → ℕ) → Flag F → Row
flag_row set_of flag = (flag.name.now, set_of flag.value)

-- bits without a name, as a number
abbrev pub left_over : ℕ → List (List ℕ)
left_over left = if left == 0 then [] else (codes "0x" ++ digits 16 false left) ∷ []

-- the names of a set, in the order of the table: a flag is named if the set has all of its bits, and the flags before
-- it leave some of them. The bits left at the end are a number
unfoldable pub names_in : List Row → ℕ → ℕ → List (List ℕ)
names_in [] set left = left_over left
names_in (row ∷ rows) set left =
    if is_next row.0 row.1 set left then row.0 ∷ names_in rows set (without 32 left row.1) else names_in rows set left

-- ---- text

-- the mark before a name
abbrev pub mark : Bool → List ℕ
mark true = codes ""
mark false = codes "|"

-- the names with bars between them; `0x0` without names
abbrev pub barred : List (List ℕ) → List ℕ
barred [] = codes "0x0"
barred (name ∷ rest) = name ++ flat_map (λ other. codes "|" ++ other) rest

-- the text of a set
abbrev pub names_text : List Row → ℕ → List ℕ
names_text table set = barred (names_in table set set)
