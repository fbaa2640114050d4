-- The lifetimes of an address: `struct ifa_cacheinfo` of linux/if_addr.h.
use Rattle.std.specs.Prelude.{ℕ, List, ◌++◌}
use Rattle.neli_wire.specs.Frames.{number_in}
use Rattle.neli_wire.specs.Numbers.{FitsBytes, little_bytes}
use Rattle.neli_payloads.specs.declared.ifa_cacheinfo.IfaCacheinfo.{IfaCacheinfo}

-- the fields by their places
abbrev pub ifa_cacheinfo_header : List ℕ → IfaCacheinfo
ifa_cacheinfo_header s = record {
  ifa_prefered = number_in 4 0 s;
  ifa_valid = number_in 4 4 s;
  cstamp = number_in 4 8 s;
  tstamp = number_in 4 12 s;
}

-- the bytes of the fields
abbrev pub ifa_cacheinfo_bytes : IfaCacheinfo → List ℕ
ifa_cacheinfo_bytes v =
    little_bytes 4 v.ifa_prefered ++ little_bytes 4 v.ifa_valid ++ little_bytes 4 v.cstamp
    ++ little_bytes 4 v.tstamp

-- each field has a number of its size
pub record IsPlainIfaCacheinfo (v : IfaCacheinfo) : Type 0 where
  pub ifa_prefered : FitsBytes 4 v.ifa_prefered
  pub ifa_valid : FitsBytes 4 v.ifa_valid
  pub cstamp : FitsBytes 4 v.cstamp
  pub tstamp : FitsBytes 4 v.tstamp
