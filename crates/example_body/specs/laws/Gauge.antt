-- Laws of the fields of gauges.
use Rattle.std.proofs.Common.{◌≡◌, ℕ, List, [], length, refl}
use Rattle.neli.specs.body.laws.Headers.{last_place, number-back, place}
use Rattle.neli.specs.wire.Numbers.{AreBytes}
use Rattle.example_body.specs.declared.gauge.GaugeHeader.{GaugeHeader}
use Rattle.example_body.specs.Gauge.{IsPlainGauge, gauge_bytes, gauge_header}

pub gauge-width : (h : GaugeHeader) → length (gauge_bytes h) ≡ 8
gauge-width h = refl

pub gauge-reads_back : (h : GaugeHeader) → IsPlainGauge h → gauge_header (gauge_bytes h) ≡ h
gauge-reads_back h is =
    rw (number-back 4 h.number _ is.number, number-back 2 h.unit _ is.unit, number-back 2 h.scale [] is.scale) refl

pub gauge-writes_back : (s : List ℕ) → length s ≡ 8 → AreBytes s → gauge_bytes (gauge_header s) ≡ s
gauge-writes_back s size small =
    place 4 0 4 s _ _ size small refl
    (place 2 4 2 s _ _ size small refl
    (last_place 2 6 s _ size small refl))
