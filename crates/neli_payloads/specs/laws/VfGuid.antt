-- Laws of the fields of InfiniBand identities of virtual functions.
use Rattle.std.proofs.Common.{◌≡◌, ℕ, List, [], length, refl}
use Rattle.neli_body.specs.laws.Headers.{last_place, number-back, place}
use Rattle.neli_wire.specs.Numbers.{AreBytes}
use Rattle.neli_payloads.specs.declared.vf_guid.VfGuid.{VfGuid}
use Rattle.neli_payloads.specs.VfGuid.{IsPlainVfGuid, vf_guid_bytes, vf_guid_header}

pub vf_guid-width : (v : VfGuid) → length (vf_guid_bytes v) ≡ 16
vf_guid-width v = refl

pub vf_guid-reads_back : (v : VfGuid) → IsPlainVfGuid v → vf_guid_header (vf_guid_bytes v) ≡ v
vf_guid-reads_back v is =
    rw (
      number-back 4 v.vf _ is.vf,
      number-back 4 v.padding _ is.padding,
      number-back 8 v.guid [] is.guid,
    ) refl

pub vf_guid-writes_back : (s : List ℕ) → length s ≡ 16 → AreBytes s → vf_guid_bytes (vf_guid_header s) ≡ s
vf_guid-writes_back s size small =
    place 4 0 12 s _ _ size small refl
    (place 4 4 8 s _ _ size small refl
    (last_place 8 8 s _ size small refl))
