-- When a neighbour was last heard of: `struct nda_cacheinfo` of linux/neighbour.h.
use Rattle.std.specs.Prelude.{ℕ, List, ◌++◌, codes, Ok}
use Rattle.neli_wire.specs.Frames.{number_in}
use Rattle.neli_wire.specs.Numbers.{FitsBytes, little_bytes}
use Rattle.neli_attr.specs.Builders.{Outcome, require_field}
use Rattle.neli_rtnl.specs.declared.nda_cacheinfo.NdaCacheinfo.{NdaCacheinfo}
use Rattle.neli_rtnl.specs.declared.nda_cacheinfo.NdaCacheinfoBuilder.{NdaCacheinfoBuilder}

-- the fields by their places
abbrev pub nda_cacheinfo_header : List ℕ → NdaCacheinfo
nda_cacheinfo_header s = record {
  ndm_confirmed = number_in 4 0 s;
  ndm_used = number_in 4 4 s;
  ndm_updated = number_in 4 8 s;
  ndm_refcnt = number_in 4 12 s;
}

-- the bytes of the fields
abbrev pub nda_cacheinfo_bytes : NdaCacheinfo → List ℕ
nda_cacheinfo_bytes h =
    little_bytes 4 h.ndm_confirmed ++ little_bytes 4 h.ndm_used ++ little_bytes 4 h.ndm_updated
    ++ little_bytes 4 h.ndm_refcnt

-- each field has a number of its size, and is read from that number
pub record IsPlainNdaCacheinfo (h : NdaCacheinfo) : Type 0 where
  pub ndm_confirmed : FitsBytes 4 h.ndm_confirmed
  pub ndm_used : FitsBytes 4 h.ndm_used
  pub ndm_updated : FitsBytes 4 h.ndm_updated
  pub ndm_refcnt : FitsBytes 4 h.ndm_refcnt

-- what a builder makes of its fields
abbrev pub nda_cacheinfo_built : NdaCacheinfoBuilder → Outcome NdaCacheinfo
nda_cacheinfo_built b =
    require_field (codes "ndm_confirmed") b.ndm_confirmed (λ ndm_confirmed.
    require_field (codes "ndm_used") b.ndm_used (λ ndm_used.
    require_field (codes "ndm_updated") b.ndm_updated (λ ndm_updated.
    require_field (codes "ndm_refcnt") b.ndm_refcnt (λ ndm_refcnt.
    Ok (record {
      ndm_confirmed = ndm_confirmed;
      ndm_used = ndm_used;
      ndm_updated = ndm_updated;
      ndm_refcnt = ndm_refcnt;
    })))))
