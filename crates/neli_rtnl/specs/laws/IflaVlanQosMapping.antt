-- Laws of the fields of mappings of priorities.
use Rattle.std.proofs.Common.{◌≡◌, ℕ, List, [], length, refl}
use Rattle.neli_body.specs.laws.Headers.{last_place, number-back, place}
use Rattle.neli_wire.specs.Numbers.{AreBytes}
use Rattle.neli_rtnl.specs.declared.ifla_vlan_qos_mapping.IflaVlanQosMapping.{IflaVlanQosMapping}
use Rattle.neli_rtnl.specs.IflaVlanQosMapping.{IsPlainIflaVlanQosMapping, ifla_vlan_qos_mapping_bytes, ifla_vlan_qos_mapping_header}

pub ifla_vlan_qos_mapping-width : (h : IflaVlanQosMapping) → length (ifla_vlan_qos_mapping_bytes h) ≡ 8
ifla_vlan_qos_mapping-width h = refl

pub ifla_vlan_qos_mapping-reads_back : (h : IflaVlanQosMapping) → IsPlainIflaVlanQosMapping h
    → ifla_vlan_qos_mapping_header (ifla_vlan_qos_mapping_bytes h) ≡ h
ifla_vlan_qos_mapping-reads_back h is =
    rw (
      number-back 4 h.from _ is.from,
      number-back 4 h.to [] is.to,
    ) refl

pub ifla_vlan_qos_mapping-writes_back : (s : List ℕ) → length s ≡ 8 → AreBytes s
    → ifla_vlan_qos_mapping_bytes (ifla_vlan_qos_mapping_header s) ≡ s
ifla_vlan_qos_mapping-writes_back s size small =
    place 4 0 4 s _ _ size small refl
    (last_place 4 4 s _ size small refl)
