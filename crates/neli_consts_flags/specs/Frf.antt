-- The names of the bits of `Frf`.
use Rattle.std.specs.Prelude.{List, [], ◌∷◌, codes}
use Rattle.bitflags.specs.Sets.{Row}

-- each name and its bits
abbrev pub frf_names : List Row
frf_names =
    (codes "PERMANENT", 1) ∷
    (codes "INVERT", 2) ∷
    (codes "UNRESOLVED", 4) ∷
    (codes "IIF_DETACHED", 8) ∷
    (codes "DEV_DETACHED", 8) ∷
    (codes "OIF_DETACHED", 0x10) ∷
    (codes "FIND_SADDR", 0x10000) ∷
    []
