-- An InfiniBand identity of a virtual function: `struct ifla_vf_guid` of linux/if_link.h.
use Rattle.std.specs.Prelude.{ℕ, List, ◌++◌}
use Rattle.neli_wire.specs.Frames.{number_in}
use Rattle.neli_wire.specs.Numbers.{FitsBytes, little_bytes}
use Rattle.neli_payloads.specs.declared.vf_guid.VfGuid.{VfGuid}

-- the fields by their places
abbrev pub vf_guid_header : List ℕ → VfGuid
vf_guid_header s = record {
  vf = number_in 4 0 s;
  padding = number_in 4 4 s;
  guid = number_in 8 8 s;
}

-- the bytes of the fields
abbrev pub vf_guid_bytes : VfGuid → List ℕ
vf_guid_bytes v =
    little_bytes 4 v.vf ++ little_bytes 4 v.padding ++ little_bytes 8 v.guid

-- each field has a number of its size
pub record IsPlainVfGuid (v : VfGuid) : Type 0 where
  pub vf : FitsBytes 4 v.vf
  pub padding : FitsBytes 4 v.padding
  pub guid : FitsBytes 8 v.guid
