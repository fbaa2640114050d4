-- The names of the bits of `Iff`.
use Rattle.std.specs.Prelude.{List, [], ◌∷◌, codes}
use Rattle.bitflags.specs.Sets.{Row}

-- each name and its bits
abbrev pub iff_names : List Row
iff_names =
    (codes "UP", 1) ∷
    (codes "BROADCAST", 2) ∷
    (codes "DEBUG", 4) ∷
    (codes "LOOPBACK", 8) ∷
    (codes "POINTOPOINT", 0x10) ∷
    (codes "NOTRAILERS", 0x20) ∷
    (codes "RUNNING", 0x40) ∷
    (codes "NOARP", 0x80) ∷
    (codes "PROMISC", 0x100) ∷
    (codes "ALLMULTI", 0x200) ∷
    (codes "MASTER", 0x400) ∷
    (codes "SLAVE", 0x800) ∷
    (codes "MULTICAST", 0x1000) ∷
    (codes "PORTSEL", 0x2000) ∷
    (codes "AUTOMEDIA", 0x4000) ∷
    (codes "DYNAMIC", 0x8000) ∷
    (codes "LOWERUP", 0x10000) ∷
    (codes "DORMANT", 0x20000) ∷
    (codes "ECHO", 0x40000) ∷
    []
