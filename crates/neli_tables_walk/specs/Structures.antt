-- Structures of so many bytes, one after the other, by the line at a place.
use Rattle.std.specs.Prelude.{ℕ, List, ◌++◌, codes, map}
use Rattle.std.specs.List.{flat_map}
use Rattle.neli_tables.specs.Families.{Lines}
use Rattle.neli_tables_walk.specs.FieldLists.{fields_json_by, fields_text_by}
use Rattle.neli_tables_walk.specs.Lists.{parts_of}
use Rattle.neli_tables_walk.specs.Plains.{item_json, item_text}

abbrev pub in_brackets : Lines → ℕ → List ℕ → List ℕ
in_brackets table place part =
    codes " (" ++ (fields_text_by item_text table place part ++ codes " )")

-- each in brackets
abbrev pub structures_text : Lines → ℕ → ℕ → List ℕ → List ℕ
structures_text table place size bytes = flat_map (in_brackets table place) (parts_of size bytes)

-- each an object
abbrev pub structures_members : Lines → ℕ → ℕ → List ℕ → List (List ℕ)
structures_members table place size bytes =
    map (fields_json_by item_json table place) (parts_of size bytes)
