-- The names of the bits of `Nud`.
use Rattle.std.specs.Prelude.{List, [], ◌∷◌, codes}
use Rattle.bitflags.specs.Sets.{Row}

-- each name and its bits
abbrev pub nud_names : List Row
nud_names =
    (codes "NONE", 0) ∷
    (codes "INCOMPLETE", 1) ∷
    (codes "REACHABLE", 2) ∷
    (codes "STALE", 4) ∷
    (codes "DELAY", 8) ∷
    (codes "PROBE", 0x10) ∷
    (codes "FAILED", 0x20) ∷
    (codes "NOARP", 0x40) ∷
    (codes "PERMANENT", 0x80) ∷
    []
