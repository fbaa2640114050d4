-- The numbers of `IflaVlan`.
use Rattle.std.specs.Prelude.{ℕ, Bool, true, false, List, [], ◌∷◌}
use Rattle.neli_wire.specs.Constants.{first_with}
use Rattle.neli_consts_attrs.specs.declared.link_kinds.IflaVlan.{IflaVlan}
use Rattle.neli_consts_attrs.specs.declared.link_kinds.IflaVlan.TheVariants.{Unspec, Id, Flags, EgressQos}
use Rattle.neli_consts_attrs.specs.declared.link_kinds.IflaVlan.TheVariants.{IngressQos, Protocol, UnrecognizedConst}

-- the number of each variant
abbrev pub ifla_vlan_number : IflaVlan → ℕ
ifla_vlan_number Unspec = 0
ifla_vlan_number Id = 1
ifla_vlan_number Flags = 2
ifla_vlan_number EgressQos = 3
ifla_vlan_number IngressQos = 4
ifla_vlan_number Protocol = 5
ifla_vlan_number (UnrecognizedConst n) = n

-- the variants, in their order
abbrev pub ifla_vlan_variants : List IflaVlan
ifla_vlan_variants =
    Unspec ∷ Id ∷ Flags ∷ EgressQos ∷ IngressQos ∷ Protocol ∷ []

-- the first variant with a number, else the number without a name
abbrev pub ifla_vlan_of : ℕ → IflaVlan
ifla_vlan_of = first_with ifla_vlan_number ifla_vlan_variants UnrecognizedConst

-- whether a value is a number without a name
abbrev pub ifla_vlan_is_unrecognized : IflaVlan → Bool
ifla_vlan_is_unrecognized (UnrecognizedConst n) = true
ifla_vlan_is_unrecognized v = false
