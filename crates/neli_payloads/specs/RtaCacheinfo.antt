-- The cache entry of a route: `struct rta_cacheinfo` of linux/rtnetlink.h.
use Rattle.std.specs.Prelude.{ℕ, List, ◌++◌, drop, FitsSigned}
use Rattle.std.specs.Int.{w32}
use Rattle.neli_wire.specs.Frames.{number_in}
use Rattle.neli_wire.specs.Numbers.{FitsBytes, little_bytes, signed_bytes, signed_number}
use Rattle.neli_payloads.specs.declared.rta_cacheinfo.RtaCacheinfo.{RtaCacheinfo}

-- the fields by their places
abbrev pub rta_cacheinfo_header : List ℕ → RtaCacheinfo
rta_cacheinfo_header s = record {
  rta_clntref = number_in 4 0 s;
  rta_lastuse = number_in 4 4 s;
  rta_expires = signed_number w32 4 (drop 8 s);
  rta_error = number_in 4 12 s;
  rta_used = number_in 4 16 s;
  rta_id = number_in 4 20 s;
  rta_ts = number_in 4 24 s;
  rta_tsage = number_in 4 28 s;
}

-- the bytes of the fields
abbrev pub rta_cacheinfo_bytes : RtaCacheinfo → List ℕ
rta_cacheinfo_bytes v =
    little_bytes 4 v.rta_clntref ++ little_bytes 4 v.rta_lastuse ++ signed_bytes w32 4 v.rta_expires
    ++ little_bytes 4 v.rta_error ++ little_bytes 4 v.rta_used ++ little_bytes 4 v.rta_id
    ++ little_bytes 4 v.rta_ts ++ little_bytes 4 v.rta_tsage

-- each field has a number of its size
pub record IsPlainRtaCacheinfo (v : RtaCacheinfo) : Type 0 where
  pub rta_clntref : FitsBytes 4 v.rta_clntref
  pub rta_lastuse : FitsBytes 4 v.rta_lastuse
  pub rta_expires : FitsSigned w32 v.rta_expires
  pub rta_error : FitsBytes 4 v.rta_error
  pub rta_used : FitsBytes 4 v.rta_used
  pub rta_id : FitsBytes 4 v.rta_id
  pub rta_ts : FitsBytes 4 v.rta_ts
  pub rta_tsage : FitsBytes 4 v.rta_tsage
