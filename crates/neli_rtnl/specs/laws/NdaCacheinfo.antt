-- Laws of the fields of neighbours' cache entries.
use Rattle.std.proofs.Common.{◌≡◌, ℕ, List, [], length, refl}
use Rattle.neli_body.specs.laws.Headers.{last_place, number-back, place}
use Rattle.neli_wire.specs.Numbers.{AreBytes}
use Rattle.neli_rtnl.specs.declared.nda_cacheinfo.NdaCacheinfo.{NdaCacheinfo}
use Rattle.neli_rtnl.specs.NdaCacheinfo.{IsPlainNdaCacheinfo, nda_cacheinfo_bytes, nda_cacheinfo_header}

pub nda_cacheinfo-width : (h : NdaCacheinfo) → length (nda_cacheinfo_bytes h) ≡ 16
nda_cacheinfo-width h = refl

pub nda_cacheinfo-reads_back : (h : NdaCacheinfo) → IsPlainNdaCacheinfo h
    → nda_cacheinfo_header (nda_cacheinfo_bytes h) ≡ h
nda_cacheinfo-reads_back h is =
    rw (
      number-back 4 h.ndm_confirmed _ is.ndm_confirmed,
      number-back 4 h.ndm_used _ is.ndm_used,
      number-back 4 h.ndm_updated _ is.ndm_updated,
      number-back 4 h.ndm_refcnt [] is.ndm_refcnt,
    ) refl

pub nda_cacheinfo-writes_back : (s : List ℕ) → length s ≡ 16 → AreBytes s
    → nda_cacheinfo_bytes (nda_cacheinfo_header s) ≡ s
nda_cacheinfo-writes_back s size small =
    place 4 0 12 s _ _ size small refl
    (place 4 4 8 s _ _ size small refl
    (place 4 8 4 s _ _ size small refl
    (last_place 4 12 s _ size small refl)))
