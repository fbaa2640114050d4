-- Laws of the fields of settings of virtual functions.
use Rattle.std.proofs.Common.{◌≡◌, ℕ, List, [], length, refl}
use Rattle.neli_body.specs.laws.Headers.{last_place, number-back, place}
use Rattle.neli_wire.specs.Numbers.{AreBytes}
use Rattle.neli_payloads.specs.declared.vf_setting.VfSetting.{VfSetting}
use Rattle.neli_payloads.specs.VfSetting.{IsPlainVfSetting, vf_setting_bytes, vf_setting_header}

pub vf_setting-width : (v : VfSetting) → length (vf_setting_bytes v) ≡ 8
vf_setting-width v = refl

pub vf_setting-reads_back : (v : VfSetting) → IsPlainVfSetting v → vf_setting_header (vf_setting_bytes v) ≡ v
vf_setting-reads_back v is =
    rw (
      number-back 4 v.vf _ is.vf,
      number-back 4 v.setting [] is.setting,
    ) refl

pub vf_setting-writes_back : (s : List ℕ) → length s ≡ 8 → AreBytes s → vf_setting_bytes (vf_setting_header s) ≡ s
vf_setting-writes_back s size small =
    place 4 0 4 s _ _ size small refl
    (last_place 4 4 s _ size small refl)
