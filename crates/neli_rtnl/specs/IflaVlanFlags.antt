-- The flags of a virtual LAN, after `struct ifla_vlan_flags` of linux/if_link.h, with one byte for each field here.
use Rattle.std.specs.Prelude.{ℕ, List, ◌++◌, codes, Ok}
use Rattle.neli_wire.specs.Frames.{number_in}
use Rattle.neli_wire.specs.Numbers.{FitsBytes, little_bytes}
use Rattle.neli_attr.specs.Builders.{Outcome, require_field}
use Rattle.neli_rtnl.specs.declared.ifla_vlan_flags.IflaVlanFlags.{IflaVlanFlags}
use Rattle.neli_rtnl.specs.declared.ifla_vlan_flags.IflaVlanFlagsBuilder.{IflaVlanFlagsBuilder}

-- the fields by their places
abbrev pub ifla_vlan_flags_header : List ℕ → IflaVlanFlags
ifla_vlan_flags_header s = record {
  flags = record { 0 = number_in 1 0 s };
  mask = record { 0 = number_in 1 1 s };
}

-- the bytes of the fields
abbrev pub ifla_vlan_flags_bytes : IflaVlanFlags → List ℕ
ifla_vlan_flags_bytes h =
    little_bytes 1 h.flags.0 ++ little_bytes 1 h.mask.0

-- each field has a number of its size, and is read from that number
pub record IsPlainIflaVlanFlags (h : IflaVlanFlags) : Type 0 where
  pub flags : FitsBytes 1 h.flags.0
  pub mask : FitsBytes 1 h.mask.0

-- what a builder makes of its fields
abbrev pub ifla_vlan_flags_built : IflaVlanFlagsBuilder → Outcome IflaVlanFlags
ifla_vlan_flags_built b =
    require_field (codes "flags") b.flags (λ flags.
    require_field (codes "mask") b.mask (λ mask.
    Ok (record {
      flags = flags;
      mask = mask;
    })))
