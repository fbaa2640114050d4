-- Items of a walk as lines of text.
use Rattle.std.specs.Prelude.{ℕ, ◌-◌, Bool, true, false, List, [], ◌∷◌, ◌++◌, codes, take, Option, Some, None}
use Rattle.std.specs.Prelude.{is_some, Result, Ok, Err}
use Rattle.std.specs.Fmt.{decimal}
use Rattle.neli_attr.specs.AttrType.{AttrType}
use Rattle.neli_wire.specs.declared.errors.DeError.{DeError}
use Rattle.neli_tables_walk.specs.declared.item.Step.{Step}
use Rattle.neli_tables_walk.specs.declared.shape.Shape.{Shape}
use Rattle.neli_tables_walk.specs.declared.shape.Shape.TheVariants as shape
use Rattle.neli_tables_walk.specs.Visited.{Visited, visited}
use Rattle.neli_tables_walk.specs.Walks.{Said, Seen}
use Rattle.neli_tables_walk.specs.declared.breach.Breach.{Breach}
use Rattle.neli_tables_walk.specs.declared.breach.Breach.TheVariants.{Shorter}
use Rattle.neli_tables_walk.specs.Breaches.{breach_text}
use Rattle.neli_tables_walk.specs.Hex.{bytes_text}
use Rattle.neli_tables_walk.specs.Names.{name_text}
use Rattle.neli_tables_walk.specs.Values.{payload_breach, payload_text}
use Rattle.neli_print.specs.declared.pieces.Colour.TheVariants as colour
use Rattle.neli_print.specs.Faults.{fault_text}
use Rattle.neli_print.specs.Names.{Lines, is_each, row_name, structure_text}
use Rattle.neli_print.specs.Pieces.{indent, painted, when}
use Rattle.neli_print.specs.Rests.{rest_of, rest_words}

-- a name, or a number without one
abbrev pub named_or_number : Option (List ℕ) → ℕ → List ℕ
named_or_number (Some name) number = name_text name
named_or_number None number = decimal number

-- in its colour
unfoldable pub row_words : Bool → Option (List ℕ) → ℕ → List ℕ
row_words coloured name number = painted coloured colour.Attribute (named_or_number name number)

-- the number of an attribute in brackets, where its name is that of each number
abbrev pub index_words : Bool → ℕ → List ℕ
index_words true number = codes "[" ++ (decimal number ++ codes "]")
index_words false number = []

-- its name or its number, or both where the name is that of each number
unfoldable pub name_words : Bool → Lines → Option Step → ℕ → List ℕ
name_words coloured table step number =
    row_words coloured (row_name table step) number ++ index_words (is_each table step) number

-- an attribute: its name or its number, and the flags of its type
abbrev pub label_text : Bool → Lines → Option Step → AttrType ℕ → List ℕ
label_text coloured table step kind =
    name_words coloured table step kind.nla_type
    ++ (when kind.nla_nested (codes " nested")
    ++ when kind.nla_network_order (codes " net_byteorder"))

-- how a payload breaches its kind, if it does
abbrev pub breach_words : Option Breach → List ℕ
breach_words (Some breach) = codes " broken: " ++ (breach_text breach ++ codes ":")
breach_words None = []

-- what stands behind a name; attributes in a nest and hops have lines of their own
abbrev pub content_text : Bool → Lines → Shape → List ℕ → List ℕ
content_text coloured table (shape.Row place) payload =
    breach_words (payload_breach table place payload)
    ++ (payload_text table place payload ++ rest_words (rest_of table place payload))
content_text coloured table (shape.Nest nest) payload =
    when (is_some nest.after) (codes " ")
    ++ structure_text coloured table nest.after (take nest.header payload)
content_text coloured table (shape.Hops nest) payload = []
content_text coloured table shape.Bytes payload = codes " " ++ bytes_text payload
content_text coloured table (shape.Short nest) payload =
    breach_words (Some (Shorter nest.header)) ++ (codes " " ++ bytes_text payload)
content_text coloured table (shape.Deep nest) payload =
    codes " broken: nested too deep: " ++ bytes_text payload

abbrev pub element_with : Bool → Lines → Option Step → Option (AttrType ℕ) → List ℕ → Shape → List ℕ
element_with coloured table step (Some kind) payload s =
    label_text coloured table step kind ++ content_text coloured table s payload
element_with coloured table step None payload s =
    painted coloured colour.Attribute (codes "hop") ++ content_text coloured table s payload

-- an attribute, or a hop
abbrev pub element_text : Bool → Lines → Option Step → Said → List ℕ
element_text coloured table step said = element_with coloured table step said.0 said.1 said.2

-- what is left of a list
abbrev pub left_text : Bool → List ℕ → DeError → List ℕ
left_text coloured bytes e =
    painted coloured colour.Error (codes "fault")
    ++ (codes ": " ++ (fault_text e ++ (codes ": " ++ bytes_text bytes)))

abbrev pub words_of : Bool → Lines → Option Step → Result Said (List ℕ × DeError) → List ℕ
words_of coloured table step (Ok said) = element_text coloured table step said
words_of coloured table step (Err left) = left_text coloured left.0 left.1

-- what is visited: two blanks for each level and each list around its own, and its line
abbrev pub visit_text : Bool → Lines → ℕ → Visited → List ℕ
visit_text coloured table level v =
    indent level ++ (indent (v.0 - 1) ++ (words_of coloured table v.1 v.2 ++ codes "\n"))

-- an item
abbrev pub item_text : Bool → Lines → ℕ → Seen → List ℕ
item_text coloured table level item = visit_text coloured table level (visited item)

-- the items of a list
abbrev pub items_text : Bool → Lines → ℕ → List Seen → List ℕ
items_text coloured table level [] = []
items_text coloured table level (item ∷ items) =
    item_text coloured table level item ++ items_text coloured table level items
