-- Laws of the fields of rates of virtual functions.
use Rattle.std.proofs.Common.{◌≡◌, ℕ, List, [], length, refl}
use Rattle.neli_body.specs.laws.Headers.{last_place, number-back, place}
use Rattle.neli_wire.specs.Numbers.{AreBytes}
use Rattle.neli_payloads.specs.declared.vf_rate.VfRate.{VfRate}
use Rattle.neli_payloads.specs.VfRate.{IsPlainVfRate, vf_rate_bytes, vf_rate_header}

pub vf_rate-width : (v : VfRate) → length (vf_rate_bytes v) ≡ 12
vf_rate-width v = refl

pub vf_rate-reads_back : (v : VfRate) → IsPlainVfRate v → vf_rate_header (vf_rate_bytes v) ≡ v
vf_rate-reads_back v is =
    rw (
      number-back 4 v.vf _ is.vf,
      number-back 4 v.min_tx_rate _ is.min_tx_rate,
      number-back 4 v.max_tx_rate [] is.max_tx_rate,
    ) refl

pub vf_rate-writes_back : (s : List ℕ) → length s ≡ 12 → AreBytes s → vf_rate_bytes (vf_rate_header s) ≡ s
vf_rate-writes_back s size small =
    place 4 0 8 s _ _ size small refl
    (place 4 4 4 s _ _ size small refl
    (last_place 4 8 s _ size small refl))
