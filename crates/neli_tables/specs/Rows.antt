-- Rows that have a name.
use Rattle.std.specs.Prelude.{ℕ, List, Option, find}
use Rattle.std.specs.Borrow.{Bor}
use Rattle.std.specs.Option.{option_map}
use Rattle.std.specs.Str.{bytes_eq}

-- the view of a row: its name, and its value
abbrev pub row_view : {V : Type 0} → Bor (List ℕ) × V → List ℕ × V
row_view row = (row.0.now, row.1)

-- the value of the first row with this name
abbrev pub named : {V : Type 0} → List (List ℕ × V) → List ℕ → Option V
named rows name = option_map (λ row. row.1) (find (λ row. bytes_eq row.0 name) rows)
