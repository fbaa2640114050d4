-- The VLAN of a virtual function, with its protocol: `struct ifla_vf_vlan_info` of linux/if_link.h.
use Rattle.std.specs.Prelude.{ℕ, List, ◌++◌, drop}
use Rattle.neli_wire.specs.Frames.{number_in}
use Rattle.neli_wire.specs.Numbers.{FitsBytes, big_bytes, big_number, little_bytes}
use Rattle.neli_payloads.specs.declared.vf_vlan_info.VfVlanInfo.{VfVlanInfo}

-- the fields by their places
abbrev pub vf_vlan_info_header : List ℕ → VfVlanInfo
vf_vlan_info_header s = record {
  vf = number_in 4 0 s;
  vlan = number_in 4 4 s;
  qos = number_in 4 8 s;
  vlan_proto = big_number 2 (drop 12 s);
  padding = number_in 2 14 s;
}

-- the bytes of the fields
abbrev pub vf_vlan_info_bytes : VfVlanInfo → List ℕ
vf_vlan_info_bytes v =
    little_bytes 4 v.vf ++ little_bytes 4 v.vlan ++ little_bytes 4 v.qos
    ++ big_bytes 2 v.vlan_proto ++ little_bytes 2 v.padding

-- each field has a number of its size
pub record IsPlainVfVlanInfo (v : VfVlanInfo) : Type 0 where
  pub vf : FitsBytes 4 v.vf
  pub vlan : FitsBytes 4 v.vlan
  pub qos : FitsBytes 4 v.qos
  pub vlan_proto : FitsBytes 2 v.vlan_proto
  pub padding : FitsBytes 2 v.padding
