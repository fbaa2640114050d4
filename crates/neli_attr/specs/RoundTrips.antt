-- What is written of an attribute is read again as its equal.
use Rattle.std.specs.Prelude.{◌≡◌, ℕ, List, ◌++◌, Ok}
use Rattle.neli_wire.specs.Frames.{frame_at}
use Rattle.neli_attr.specs.AttrType.{AttrType}
use Rattle.neli_attr.specs.Attributes.{attr, attribute, attribute_wire}

-- an attribute of this length, number and payload has bytes; whatever follows them, they are read as one of this length
-- and payload, with the number's meaning
abbrev pub IsReadBack : {K : Type 0} → (ℕ → K) → ℕ → ℕ → List ℕ → Type 0
IsReadBack kind_of len kind payload =
    (bytes : List ℕ) × (attribute_wire len kind (Ok payload) ≡ Ok bytes)
    × ((rest : List ℕ) → frame_at (attribute kind_of (λ bytes. Ok bytes)) (bytes ++ rest)
    ≡ Ok (attr len (kind_of kind) payload, rest))

-- a type field has the flags and the number of another one
pub record KeepsField {T : Type 0} (type_number : T → ℕ) (field read : AttrType T) : Type 0 where
  pub nested : read.nla_nested ≡ field.nla_nested
  pub network_order : read.nla_network_order ≡ field.nla_network_order
  pub number : type_number read.nla_type ≡ type_number field.nla_type
