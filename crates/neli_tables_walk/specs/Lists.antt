-- Texts one after the other.
use Rattle.std.specs.Prelude.{ℕ, zero, suc, max, List, [], ◌∷◌, ◌++◌, length, take, drop}
use Rattle.std.specs.List.{flat_map}

-- texts with another one between them
abbrev pub joined : List ℕ → List (List ℕ) → List ℕ
joined between [] = []
joined between (text ∷ texts) = text ++ flat_map (λ t. between ++ t) texts

-- at most `fuel` parts of bytes, so many bytes each, of which the last may have fewer
abbrev pub parts_by : ℕ → ℕ → List ℕ → List (List ℕ)
parts_by fuel size [] = []
parts_by zero size (b ∷ bytes) = []
parts_by (suc fuel) size (b ∷ bytes) =
    take size (b ∷ bytes) ∷ parts_by fuel size (drop size (b ∷ bytes))

-- the parts of bytes, so many bytes each, at least one; the last may have fewer
unfoldable pub parts_of : ℕ → List ℕ → List (List ℕ)
parts_of size bytes = parts_by (length bytes) (max size 1) bytes
