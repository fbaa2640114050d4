-- The rates of a virtual function: `struct ifla_vf_rate` of linux/if_link.h.
use Rattle.std.specs.Prelude.{ℕ, List, ◌++◌}
use Rattle.neli_wire.specs.Frames.{number_in}
use Rattle.neli_wire.specs.Numbers.{FitsBytes, little_bytes}
use Rattle.neli_payloads.specs.declared.vf_rate.VfRate.{VfRate}

-- the fields by their places
abbrev pub vf_rate_header : List ℕ → VfRate
vf_rate_header s = record {
  vf = number_in 4 0 s;
  min_tx_rate = number_in 4 4 s;
  max_tx_rate = number_in 4 8 s;
}

-- the bytes of the fields
abbrev pub vf_rate_bytes : VfRate → List ℕ
vf_rate_bytes v =
    little_bytes 4 v.vf ++ little_bytes 4 v.min_tx_rate ++ little_bytes 4 v.max_tx_rate

-- each field has a number of its size
pub record IsPlainVfRate (v : VfRate) : Type 0 where
  pub vf : FitsBytes 4 v.vf
  pub min_tx_rate : FitsBytes 4 v.min_tx_rate
  pub max_tx_rate : FitsBytes 4 v.max_tx_rate
