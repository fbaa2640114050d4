-- The hardware address of a virtual function: `struct ifla_vf_mac` of linux/if_link.h.
use Rattle.std.specs.Prelude.{ℕ, List, ◌++◌, drop}
use Rattle.neli_wire.specs.Frames.{number_in}
use Rattle.neli_wire.specs.Numbers.{FitsBytes, little_bytes}
use Rattle.neli_payloads.specs.declared.vf_mac.VfMac.{VfMac}

-- the fields by their places, of 36 bytes
abbrev pub vf_mac_header : List ℕ → VfMac
vf_mac_header s = record {
  vf = number_in 4 0 s;
  mac = drop 4 s;
}

-- the bytes of the fields
abbrev pub vf_mac_bytes : VfMac → List ℕ
vf_mac_bytes v = little_bytes 4 v.vf ++ v.mac

-- the number has its size
pub record IsPlainVfMac (v : VfMac) : Type 0 where
  pub vf : FitsBytes 4 v.vf
