-- Laws of the fields of lifetimes of addresses.
use Rattle.std.proofs.Common.{◌≡◌, ℕ, List, [], length, refl}
use Rattle.neli_body.specs.laws.Headers.{last_place, number-back, place}
use Rattle.neli_wire.specs.Numbers.{AreBytes}
use Rattle.neli_payloads.specs.declared.ifa_cacheinfo.IfaCacheinfo.{IfaCacheinfo}
use Rattle.neli_payloads.specs.IfaCacheinfo.{IsPlainIfaCacheinfo, ifa_cacheinfo_bytes, ifa_cacheinfo_header}

pub ifa_cacheinfo-width : (v : IfaCacheinfo) → length (ifa_cacheinfo_bytes v) ≡ 16
ifa_cacheinfo-width v = refl

pub ifa_cacheinfo-reads_back : (v : IfaCacheinfo) → IsPlainIfaCacheinfo v
    → ifa_cacheinfo_header (ifa_cacheinfo_bytes v) ≡ v
ifa_cacheinfo-reads_back v is =
    rw (
      number-back 4 v.ifa_prefered _ is.ifa_prefered,
      number-back 4 v.ifa_valid _ is.ifa_valid,
      number-back 4 v.cstamp _ is.cstamp,
      number-back 4 v.tstamp [] is.tstamp,
    ) refl

pub ifa_cacheinfo-writes_back : (s : List ℕ) → length s ≡ 16 → AreBytes s
    → ifa_cacheinfo_bytes (ifa_cacheinfo_header s) ≡ s
ifa_cacheinfo-writes_back s size small =
    place 4 0 12 s _ _ size small refl
    (place 4 4 8 s _ _ size small refl
    (place 4 8 4 s _ _ size small refl
    (last_place 4 12 s _ size small refl)))
