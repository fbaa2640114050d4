-- The names of the bits of `VlanFlags`.
use Rattle.std.specs.Prelude.{List, [], ◌∷◌, codes}
use Rattle.bitflags.specs.Sets.{Row}

-- each name and its bits
abbrev pub vlan_flags_names : List Row
vlan_flags_names =
    (codes "REORDER_HDR", 1) ∷
    (codes "GVRP", 2) ∷
    (codes "LOOSE_BINDING", 4) ∷
    (codes "MVRP", 8) ∷
    (codes "BRIDGE_BINDING", 0x10) ∷
    []
