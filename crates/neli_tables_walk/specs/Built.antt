-- The tables that are built in.
use Rattle.std.specs.Prelude.{◌≡◌, ℕ, List, [], ◌∷◌, ◌++◌, map, Ok}
use Rattle.neli_tables.specs.Schemas.{table_in}
use Rattle.neli_tables.specs.Families.{Lines}
use Rattle.neli_tables_routing.specs.Tables.{Begins}
use Rattle.neli_tables_routing.specs.Tables as routing
use Rattle.neli_tables_generic.specs.Tables as generic
use Rattle.neli_tables_system.specs.Tables as system

-- a table is that of a text that begins so
abbrev pub IsRead : List ℕ → Lines → Type 0
IsRead heading table = (text : List ℕ) × (Begins text heading × (table_in text ≡ Ok table))

-- the table of a text is the last
abbrev pub IsAdded : List ℕ → List Lines → List Lines → Type 0
IsAdded text before after =
    (table : Lines) × ((table_in text ≡ Ok table) × (after ≡ before ++ table ∷ []))

-- the tables are those of texts that begin so, one each, in order
pub data AreRead : List (List ℕ) → List Lines → Type 0 where
  none : AreRead [] []
  more : (headings : List (List ℕ)) (tables : List Lines) (heading : List ℕ) (table : Lines)
      → AreRead headings tables → IsRead heading table
      → AreRead (headings ++ heading ∷ []) (tables ++ table ∷ [])

-- how the texts that are built in begin: the comment and the line of the family
abbrev pub built_in_headings : List (List ℕ)
built_in_headings =
    map routing.heading_of routing.all ++ map generic.heading_of generic.all
    ++ map system.heading_of system.all
