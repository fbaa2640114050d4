-- One setting of a virtual function: `struct ifla_vf_tx_rate`, `ifla_vf_spoofchk`, `ifla_vf_link_state`,
-- `ifla_vf_rss_query_en` and `ifla_vf_trust` of linux/if_link.h.
use Rattle.std.specs.Prelude.{ℕ, List, ◌++◌}
use Rattle.neli_wire.specs.Frames.{number_in}
use Rattle.neli_wire.specs.Numbers.{FitsBytes, little_bytes}
use Rattle.neli_payloads.specs.declared.vf_setting.VfSetting.{VfSetting}

-- the fields by their places
abbrev pub vf_setting_header : List ℕ → VfSetting
vf_setting_header s = record {
  vf = number_in 4 0 s;
  setting = number_in 4 4 s;
}

-- the bytes of the fields
abbrev pub vf_setting_bytes : VfSetting → List ℕ
vf_setting_bytes v =
    little_bytes 4 v.vf ++ little_bytes 4 v.setting

-- each field has a number of its size
pub record IsPlainVfSetting (v : VfSetting) : Type 0 where
  pub vf : FitsBytes 4 v.vf
  pub setting : FitsBytes 4 v.setting
