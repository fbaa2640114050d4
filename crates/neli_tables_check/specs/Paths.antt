-- Paths by the names of a table.
use Rattle.std.specs.Prelude.{ℕ, List, [], ◌∷◌, ◌++◌, codes, slice_get, Option, Some, None}
use Rattle.std.specs.Fmt.{decimal}
use Rattle.std.specs.List.{flat_map}
use Rattle.neli_tables.specs.declared.word.Word.{Word}
use Rattle.neli_tables.specs.declared.word.Word.TheVariants as word
use Rattle.neli_tables.specs.Lines.{LineSeen}
use Rattle.neli_tables_walk.specs.declared.item.Step.{Step}
use Rattle.neli_tables_walk.specs.Shapes.{Lines}
use Rattle.neli_tables_walk.specs.Names.{name_text}

abbrev pub name_by : Word → List ℕ → Option (List ℕ)
name_by word.Attr name = Some name
name_by w name = None

-- the name of an attribute's own row
abbrev pub attr_name : LineSeen → Option (List ℕ)
attr_name line = name_by line.word line.name

abbrev pub name_in : Option LineSeen → Option (List ℕ)
name_in None = None
name_in (Some line) = attr_name line

abbrev pub step_name : Lines → Option ℕ → Option (List ℕ)
step_name table None = None
step_name table (Some row) = name_in (slice_get table row)

abbrev pub text_or : Option (List ℕ) → Option ℕ → List ℕ
text_or (Some name) number = name_text name
text_or None (Some number) = decimal number
text_or None None = codes "hop"

-- a step by its name, or by its number where it has no row of its own
abbrev pub step_text : Lines → Step → List ℕ
step_text table step = text_or (step_name table step.row) step.number

-- steps, each after a dot
abbrev pub later_text : Lines → List Step → List ℕ
later_text table steps = flat_map (λ s. codes "." ++ step_text table s) steps

-- a path: its steps with dots between them; without steps it is that of the body
abbrev pub path_text : Lines → List Step → List ℕ
path_text table [] = codes "body"
path_text table (step ∷ steps) = step_text table step ++ later_text table steps
