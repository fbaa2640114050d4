-- Laws of the fields of flags of virtual LANs.
use Rattle.std.proofs.Common.{◌≡◌, ℕ, List, [], length, refl}
use Rattle.neli_body.specs.laws.Headers.{last_place, number-back, place}
use Rattle.neli_wire.specs.Numbers.{AreBytes}
use Rattle.neli_rtnl.specs.declared.ifla_vlan_flags.IflaVlanFlags.{IflaVlanFlags}
use Rattle.neli_rtnl.specs.IflaVlanFlags.{IsPlainIflaVlanFlags, ifla_vlan_flags_bytes, ifla_vlan_flags_header}

pub ifla_vlan_flags-width : (h : IflaVlanFlags) → length (ifla_vlan_flags_bytes h) ≡ 2
ifla_vlan_flags-width h = refl

pub ifla_vlan_flags-reads_back : (h : IflaVlanFlags) → IsPlainIflaVlanFlags h
    → ifla_vlan_flags_header (ifla_vlan_flags_bytes h) ≡ h
ifla_vlan_flags-reads_back h is =
    rw (
      number-back 1 h.flags.0 _ is.flags,
      number-back 1 h.mask.0 [] is.mask,
    ) refl

pub ifla_vlan_flags-writes_back : (s : List ℕ) → length s ≡ 2 → AreBytes s
    → ifla_vlan_flags_bytes (ifla_vlan_flags_header s) ≡ s
ifla_vlan_flags-writes_back s size small =
    place 1 0 1 s _ _ size small refl
    (last_place 1 1 s _ size small refl)
