-- The numbers of `IflaVlanQos`.
use Rattle.std.specs.Prelude.{ℕ, Bool, true, false, List, [], ◌∷◌}
use Rattle.neli_wire.specs.Constants.{first_with}
use Rattle.neli_consts_attrs.specs.declared.link_kinds.IflaVlanQos.{IflaVlanQos}
use Rattle.neli_consts_attrs.specs.declared.link_kinds.IflaVlanQos.TheVariants.{Unspec, Mapping, UnrecognizedConst}

-- the number of each variant
abbrev pub ifla_vlan_qos_number : IflaVlanQos → ℕ
ifla_vlan_qos_number Unspec = 0
ifla_vlan_qos_number Mapping = 1
ifla_vlan_qos_number (UnrecognizedConst n) = n

-- the variants, in their order
abbrev pub ifla_vlan_qos_variants : List IflaVlanQos
ifla_vlan_qos_variants =
    Unspec ∷ Mapping ∷ []

-- the first variant with a number, else the number without a name
abbrev pub ifla_vlan_qos_of : ℕ → IflaVlanQos
ifla_vlan_qos_of = first_with ifla_vlan_qos_number ifla_vlan_qos_variants UnrecognizedConst

-- whether a value is a number without a name
abbrev pub ifla_vlan_qos_is_unrecognized : IflaVlanQos → Bool
ifla_vlan_qos_is_unrecognized (UnrecognizedConst n) = true
ifla_vlan_qos_is_unrecognized v = false
