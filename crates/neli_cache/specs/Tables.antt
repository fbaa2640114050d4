-- Objects by their keys.
use Rattle.std.specs.Prelude.{ℕ, List, map, Option, if◌then◌else◌, Vec}
use Rattle.std.specs.List.{IsDistinct}
use Rattle.std.specs.Map.{keys_of, lookup}
use Rattle.std.specs.Str.{bytes_eq}

-- a key and its object, bytes both
abbrev pub Objects : Type 0
Objects = List (List ℕ × List ℕ)

-- the entries of a map, by their bytes
abbrev pub shown : {Z : Type 0} → List (Vec ℕ Z × Vec ℕ Z) → Objects
shown es = map (λ e. (e.0.items, e.1.items)) es

-- no two objects have the same key
abbrev pub AreKeyed : Objects → Type 0
AreKeyed t = IsDistinct bytes_eq (keys_of t)

-- the object with this key
abbrev pub at : List ℕ → Objects → Option (List ℕ)
at q t = lookup (bytes_eq q) t

-- what is at the key q once k has this object, or none
abbrev pub put_at : List ℕ → Option (List ℕ) → List ℕ → Option (List ℕ) → Option (List ℕ)
put_at k o q before = if bytes_eq k q then o else before
