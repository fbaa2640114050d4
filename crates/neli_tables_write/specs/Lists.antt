-- Lists of attributes as they are written, and as the walk reads them.
use Rattle.std.specs.Prelude.{◌≡◌, ℕ, ◌+◌, List, length, None, Some}
use Rattle.neli_attr.specs.laws.RoundTrips.{attribute_bytes as bytes_with}
use Rattle.neli_attr.specs.TypeField.{type_of}
use Rattle.neli_tables_walk.specs.declared.level.Sort.{Sort}
use Rattle.neli_tables_walk.specs.Elements.{Elem, elements_of}
use Rattle.neli_tables_walk.specs.Walks.{attributes_sort}
use Rattle.neli_tables_walk.specs.Shapes.{nest_with}

-- an attribute: its length without padding, its type field and its payload, and zeros up to a multiple of four
abbrev pub attribute_bytes : ℕ → List ℕ → List ℕ
attribute_bytes field payload = bytes_with (4 + length payload) field payload

-- the same, as the walk reads it
abbrev pub attribute_element : ℕ → List ℕ → Elem
attribute_element field payload = (Some (type_of (λ n. n) field), payload)

-- a list of attributes, whatever its set
abbrev pub any_sort : Sort
any_sort = attributes_sort (nest_with 0 None 0)

-- the walk reads exactly these of the bytes, and nothing is left
abbrev pub IsRead : List ℕ → List Elem → Type 0
IsRead bytes elements = elements_of any_sort bytes ≡ (elements, None)

-- what the walk reads of bytes
abbrev pub read_of : List ℕ → List Elem
read_of bytes = (elements_of any_sort bytes).0
