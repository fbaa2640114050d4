-- The names of the bits of `Msg`.
use Rattle.std.specs.Prelude.{List, [], ◌∷◌, codes}
use Rattle.bitflags.specs.Sets.{Row}

-- each name and its bits
abbrev pub msg_names : List Row
msg_names =
    (codes "OOB", 1) ∷
    (codes "PEEK", 2) ∷
    (codes "TRUNC", 0x20) ∷
    (codes "DONTWAIT", 0x40) ∷
    (codes "WAITALL", 0x100) ∷
    (codes "ERRQUEUE", 0x2000) ∷
    (codes "CMSG_CLOEXEC", 0x40000000) ∷
    []
