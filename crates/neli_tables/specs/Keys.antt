-- The options of a line, except its kind (docs/TABLES.md).
use Rattle.std.specs.Prelude.{ℕ, List, [], ◌∷◌, Option, codes}
use Rattle.neli_tables.specs.declared.key.Key.{Key}
use Rattle.neli_tables.specs.declared.key.Key.TheVariants.{After, By, ByFamily, Enum, Flags, Array}
use Rattle.neli_tables.specs.declared.key.Key.TheVariants.{Multi, Length, Range}
use Rattle.neli_tables.specs.declared.key.Key.TheVariants.{Mask, Hex, Request, Reply, Family, Version}
use Rattle.neli_tables.specs.declared.key.Key.TheVariants.{Id, At, Prefix, Strict, StrictFrom}
use Rattle.neli_tables.specs.Rows.{named}

-- each name, and its option
unfoldable pub keys : List (List ℕ × Key)
keys =
    (codes "after", After) ∷
    (codes "by", By) ∷
    (codes "by-family", ByFamily) ∷
    (codes "enum", Enum) ∷
    (codes "flags", Flags) ∷
    (codes "array", Array) ∷
    (codes "multi", Multi) ∷
    (codes "length", Length) ∷
    (codes "range", Range) ∷
    (codes "mask", Mask) ∷
    (codes "hex", Hex) ∷
    (codes "request", Request) ∷
    (codes "reply", Reply) ∷
    (codes "family", Family) ∷
    (codes "version", Version) ∷
    (codes "id", Id) ∷
    (codes "at", At) ∷
    (codes "prefix", Prefix) ∷
    (codes "strict", Strict) ∷
    (codes "strict-from", StrictFrom) ∷
    []

-- the option with this name
abbrev pub key_named : List ℕ → Option Key
key_named name = named keys name
