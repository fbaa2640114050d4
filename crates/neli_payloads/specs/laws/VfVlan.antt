-- Laws of the fields of VLANs of virtual functions.
use Rattle.std.proofs.Common.{◌≡◌, ℕ, List, [], length, refl}
use Rattle.neli_body.specs.laws.Headers.{last_place, number-back, place}
use Rattle.neli_wire.specs.Numbers.{AreBytes}
use Rattle.neli_payloads.specs.declared.vf_vlan.VfVlan.{VfVlan}
use Rattle.neli_payloads.specs.VfVlan.{IsPlainVfVlan, vf_vlan_bytes, vf_vlan_header}

pub vf_vlan-width : (v : VfVlan) → length (vf_vlan_bytes v) ≡ 12
vf_vlan-width v = refl

pub vf_vlan-reads_back : (v : VfVlan) → IsPlainVfVlan v → vf_vlan_header (vf_vlan_bytes v) ≡ v
vf_vlan-reads_back v is =
    rw (
      number-back 4 v.vf _ is.vf,
      number-back 4 v.vlan _ is.vlan,
      number-back 4 v.qos [] is.qos,
    ) refl

pub vf_vlan-writes_back : (s : List ℕ) → length s ≡ 12 → AreBytes s → vf_vlan_bytes (vf_vlan_header s) ≡ s
vf_vlan-writes_back s size small =
    place 4 0 8 s _ _ size small refl
    (place 4 4 4 s _ _ size small refl
    (last_place 4 8 s _ size small refl))
