-- The attributes of a body.
use Rattle.std.specs.Prelude.{ℕ, Bool, true, List, ◌++◌, codes}
use Rattle.neli_tables_walk.specs.declared.shape.Nest.{Nest}
use Rattle.neli_tables_walk.specs.Shapes.{ContextSeen}
use Rattle.neli_tables_walk.specs.Walks.{walk_items}
use Rattle.neli_print.specs.declared.item.Open.{Open}
use Rattle.neli_print.specs.ItemsJson.{items_json}
use Rattle.neli_print.specs.ItemsText.{items_text}

-- as lines of text, at this level
abbrev pub list_text : Bool → ℕ → ContextSeen → Nest → List ℕ → List ℕ
list_text coloured level context nest bytes =
    items_text coloured context.0 level (walk_items context nest bytes)

-- one list is open, and nothing is in it
abbrev pub body_open : Open
body_open = record { lists = 1; is_first = true }

-- as the objects of an array, and its end
abbrev pub list_items_json : ContextSeen → Nest → List ℕ → List ℕ
list_items_json context nest bytes = items_json context.0 body_open (walk_items context nest bytes)

-- as a member, after others
abbrev pub list_member : ContextSeen → Nest → List ℕ → List ℕ
list_member context nest bytes = codes ",\"attributes\":[" ++ list_items_json context nest bytes
