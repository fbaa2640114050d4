-- Laws of the fields of hardware addresses of virtual functions.
use Rattle.std.proofs.Common.{◌≡◌, ℕ, ◌+◌, List, length, refl, arith}
use Rattle.neli_body.specs.laws.Headers.{number-back, place}
use Rattle.neli_wire.specs.Numbers.{AreBytes}
use Rattle.neli_payloads.specs.declared.vf_mac.VfMac.{VfMac}
use Rattle.neli_payloads.specs.VfMac.{IsPlainVfMac, vf_mac_bytes, vf_mac_header}

pub vf_mac-width : (v : VfMac) → length (vf_mac_bytes v) ≡ 4 + length v.mac
vf_mac-width v = omega arith

pub vf_mac-reads_back : (v : VfMac) → IsPlainVfMac v → vf_mac_header (vf_mac_bytes v) ≡ v
vf_mac-reads_back v is = rw (number-back 4 v.vf _ is.vf) refl

pub vf_mac-writes_back : (s : List ℕ) → length s ≡ 36 → AreBytes s → vf_mac_bytes (vf_mac_header s) ≡ s
vf_mac-writes_back s size small = place 4 0 32 s _ _ size small refl refl
