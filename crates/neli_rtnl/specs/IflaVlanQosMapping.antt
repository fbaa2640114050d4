-- How a virtual LAN maps priorities: `struct ifla_vlan_qos_mapping` of linux/if_link.h.
use Rattle.std.specs.Prelude.{ℕ, List, ◌++◌, codes, Ok}
use Rattle.neli_wire.specs.Frames.{number_in}
use Rattle.neli_wire.specs.Numbers.{FitsBytes, little_bytes}
use Rattle.neli_attr.specs.Builders.{Outcome, require_field}
use Rattle.neli_rtnl.specs.declared.ifla_vlan_qos_mapping.IflaVlanQosMapping.{IflaVlanQosMapping}
use Rattle.neli_rtnl.specs.declared.ifla_vlan_qos_mapping.IflaVlanQosMappingBuilder.{IflaVlanQosMappingBuilder}

-- the fields by their places
abbrev pub ifla_vlan_qos_mapping_header : List ℕ → IflaVlanQosMapping
ifla_vlan_qos_mapping_header s = record {
  from = number_in 4 0 s;
  to = number_in 4 4 s;
}

-- the bytes of the fields
abbrev pub ifla_vlan_qos_mapping_bytes : IflaVlanQosMapping → List ℕ
ifla_vlan_qos_mapping_bytes h =
    little_bytes 4 h.from ++ little_bytes 4 h.to

-- each field has a number of its size, and is read from that number
pub record IsPlainIflaVlanQosMapping (h : IflaVlanQosMapping) : Type 0 where
  pub from : FitsBytes 4 h.from
  pub to : FitsBytes 4 h.to

-- what a builder makes of its fields
abbrev pub ifla_vlan_qos_mapping_built : IflaVlanQosMappingBuilder → Outcome IflaVlanQosMapping
ifla_vlan_qos_mapping_built b =
    require_field (codes "from") b.from (λ from.
    require_field (codes "to") b.to (λ to.
    Ok (record {
      from = from;
      to = to;
    })))
