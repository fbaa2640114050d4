-- The fields of a gauge by their places, and their bytes.
use Rattle.std.specs.Prelude.{ℕ, List, ◌++◌}
use Rattle.neli.specs.wire.Frames.{number_in}
use Rattle.neli.specs.wire.Numbers.{FitsBytes, little_bytes}
use Rattle.example_body.specs.declared.gauge.GaugeHeader.{GaugeHeader}

-- the fields by their places
abbrev pub gauge_header : List ℕ → GaugeHeader
gauge_header s = record {
  number = number_in 4 0 s;
  unit = number_in 2 4 s;
  scale = number_in 2 6 s;
}

-- the bytes of the fields
abbrev pub gauge_bytes : GaugeHeader → List ℕ
gauge_bytes h = little_bytes 4 h.number ++ little_bytes 2 h.unit ++ little_bytes 2 h.scale

-- each field has a number of its size
pub record IsPlainGauge (h : GaugeHeader) : Type 0 where
  pub number : FitsBytes 4 h.number
  pub unit : FitsBytes 2 h.unit
  pub scale : FitsBytes 2 h.scale
