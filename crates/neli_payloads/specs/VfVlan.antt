-- The VLAN of a virtual function: `struct ifla_vf_vlan` of linux/if_link.h.
use Rattle.std.specs.Prelude.{ℕ, List, ◌++◌}
use Rattle.neli_wire.specs.Frames.{number_in}
use Rattle.neli_wire.specs.Numbers.{FitsBytes, little_bytes}
use Rattle.neli_payloads.specs.declared.vf_vlan.VfVlan.{VfVlan}

-- the fields by their places
abbrev pub vf_vlan_header : List ℕ → VfVlan
vf_vlan_header s = record {
  vf = number_in 4 0 s;
  vlan = number_in 4 4 s;
  qos = number_in 4 8 s;
}

-- the bytes of the fields
abbrev pub vf_vlan_bytes : VfVlan → List ℕ
vf_vlan_bytes v =
    little_bytes 4 v.vf ++ little_bytes 4 v.vlan ++ little_bytes 4 v.qos

-- each field has a number of its size
pub record IsPlainVfVlan (v : VfVlan) : Type 0 where
  pub vf : FitsBytes 4 v.vf
  pub vlan : FitsBytes 4 v.vlan
  pub qos : FitsBytes 4 v.qos
