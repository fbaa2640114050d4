-- Items of a walk in JSON.
use Rattle.std.specs.Prelude.{ℕ, ◌-◌, ◌==◌, ◌||◌, not, List, [], ◌∷◌, ◌++◌, codes, length}
use Rattle.std.specs.Prelude.{take, Option, Some, None, Result, Ok, Err}
use Rattle.std.specs.Fmt.{decimal}
use Rattle.neli_attr.specs.AttrType.{AttrType}
use Rattle.neli_wire.specs.declared.errors.DeError.{DeError}
use Rattle.neli_tables_walk.specs.declared.item.Step.{Step}
use Rattle.neli_tables_walk.specs.declared.shape.Shape.{Shape}
use Rattle.neli_tables_walk.specs.declared.shape.Shape.TheVariants as shape
use Rattle.neli_tables_walk.specs.Visited.{Visited, visited}
use Rattle.neli_tables_walk.specs.Walks.{Said, Seen}
use Rattle.neli_tables_walk.specs.declared.breach.Breach.{Breach}
use Rattle.neli_tables_walk.specs.declared.breach.Breach.TheVariants.{Shorter}
use Rattle.neli_tables_walk.specs.Breaches.{breach_text}
use Rattle.neli_tables_walk.specs.Hex.{bytes_json, hex_text}
use Rattle.neli_tables_walk.specs.Values.{payload_breach, payload_json}
use Rattle.neli_print.specs.declared.item.Open.{Open}
use Rattle.neli_print.specs.Faults.{fault_text}
use Rattle.neli_print.specs.Items.{after_item, depth_in}
use Rattle.neli_print.specs.Names.{Lines, name_member, row_name, structure_members}
use Rattle.neli_print.specs.Pieces.{repeated, when}
use Rattle.neli_print.specs.Rests.{rest_member, rest_of}

-- the first members of an attribute: its number, its name if it has a row, and the flags of its
-- type
abbrev pub label_json : Lines → Option Step → AttrType ℕ → List ℕ
label_json table step kind =
    codes "\"number\":" ++ (decimal kind.nla_type ++ (name_member (row_name table step)
    ++ (when kind.nla_nested (codes ",\"nested\":true")
    ++ when kind.nla_network_order (codes ",\"net_byteorder\":true"))))

-- how a payload breaches its kind, if it does
abbrev pub breach_member : Option Breach → List ℕ
breach_member (Some breach) = codes ",\"broken\":\"" ++ (breach_text breach ++ codes "\"")
breach_member None = []

-- bytes, and the end of their attribute
abbrev pub value_json : Option Breach → List ℕ → List ℕ
value_json broken bytes =
    breach_member broken ++ (codes ",\"value\":" ++ (bytes_json bytes ++ codes "}"))

-- what a payload is by the line at a place, and the end of its attribute
abbrev pub row_json : Lines → ℕ → List ℕ → List ℕ
row_json table place payload =
    breach_member (payload_breach table place payload)
    ++ (codes ",\"value\":" ++ (payload_json table place payload
    ++ (rest_member (rest_of table place payload) ++ codes "}")))

-- what stands behind the first members: a value and the end, or the beginning of a list
abbrev pub content_json : Lines → Shape → List ℕ → List ℕ
content_json table (shape.Row place) payload = row_json table place payload
content_json table (shape.Nest nest) payload =
    structure_members table nest.after (take nest.header payload) ++ codes ",\"attributes\":["
content_json table (shape.Hops nest) payload = codes ",\"structures\":["
content_json table shape.Bytes payload = value_json None payload
content_json table (shape.Short nest) payload = value_json (Some (Shorter nest.header)) payload
content_json table (shape.Deep nest) payload =
    codes ",\"broken\":\"nested too deep\",\"value\":" ++ (bytes_json payload ++ codes "}")

-- an attribute, or a hop, which has its length in place of a number
abbrev pub element_with : Lines → Option Step → Option (AttrType ℕ) → List ℕ → Shape → List ℕ
element_with table step (Some kind) payload s =
    codes "{" ++ (label_json table step kind ++ content_json table s payload)
element_with table step None payload s =
    codes "{\"length\":" ++ (decimal (length payload) ++ content_json table s payload)

abbrev pub element_json : Lines → Option Step → Said → List ℕ
element_json table step said = element_with table step said.0 said.1 said.2

-- what is left of a list
abbrev pub left_json : List ℕ → DeError → List ℕ
left_json bytes e =
    codes "{\"fault\":\"" ++ (fault_text e
    ++ (codes "\",\"rest\":\"" ++ (hex_text bytes ++ codes "\"}")))

abbrev pub object_json : Lines → Option Step → Result Said (List ℕ × DeError) → List ℕ
object_json table step (Ok said) = element_json table step said
object_json table step (Err left) = left_json left.0 left.1

-- what is visited: the ends of the lists that it is not in, a comma unless it is the first, and its
-- object
abbrev pub visit_json : Lines → Open → Visited → List ℕ
visit_json table o v =
    let depth = depth_in o v.0 in
    repeated (codes "]}") (o.lists - depth)
    ++ (when (not o.is_first || not (depth == o.lists)) (codes ",") ++ object_json table v.1 v.2)

-- an item
abbrev pub item_json : Lines → Open → Seen → List ℕ
item_json table o item = visit_json table o (visited item)

-- the items of a list, and its end
abbrev pub items_json : Lines → Open → List Seen → List ℕ
items_json table o [] = repeated (codes "]}") (o.lists - 1) ++ codes "]"
items_json table o (item ∷ items) =
    item_json table o item ++ items_json table (after_item o item) items
