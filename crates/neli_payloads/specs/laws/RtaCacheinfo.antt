-- Laws of the fields of cache entries of routes.
use Rattle.std.proofs.Common.{◌≡◌, ℕ, List, [], length, refl}
use Rattle.neli_body.specs.laws.Headers.{last_place, number-back, place, signed-back, signed-place}
use Rattle.neli_wire.specs.Numbers.{AreBytes}
use Rattle.neli_payloads.specs.declared.rta_cacheinfo.RtaCacheinfo.{RtaCacheinfo}
use Rattle.neli_payloads.specs.RtaCacheinfo.{IsPlainRtaCacheinfo, rta_cacheinfo_bytes, rta_cacheinfo_header}

pub rta_cacheinfo-width : (v : RtaCacheinfo) → length (rta_cacheinfo_bytes v) ≡ 32
rta_cacheinfo-width v = refl

pub rta_cacheinfo-reads_back : (v : RtaCacheinfo) → IsPlainRtaCacheinfo v
    → rta_cacheinfo_header (rta_cacheinfo_bytes v) ≡ v
rta_cacheinfo-reads_back v is =
    rw (
      number-back 4 v.rta_clntref _ is.rta_clntref,
      number-back 4 v.rta_lastuse _ is.rta_lastuse,
      signed-back v.rta_expires _ is.rta_expires,
      number-back 4 v.rta_error _ is.rta_error,
      number-back 4 v.rta_used _ is.rta_used,
      number-back 4 v.rta_id _ is.rta_id,
      number-back 4 v.rta_ts _ is.rta_ts,
      number-back 4 v.rta_tsage [] is.rta_tsage,
    ) refl

pub rta_cacheinfo-writes_back : (s : List ℕ) → length s ≡ 32 → AreBytes s
    → rta_cacheinfo_bytes (rta_cacheinfo_header s) ≡ s
rta_cacheinfo-writes_back s size small =
    place 4 0 28 s _ _ size small refl
    (place 4 4 24 s _ _ size small refl
    (place 4 8 20 s _ _ size small (signed-place 8 s small)
    (place 4 12 16 s _ _ size small refl
    (place 4 16 12 s _ _ size small refl
    (place 4 20 8 s _ _ size small refl
    (place 4 24 4 s _ _ size small refl
    (last_place 4 28 s _ size small refl)))))))
