-- How much was sent: `struct gnet_stats_basic` of linux/gen_stats.h with its padding.
use Rattle.std.specs.Prelude.{ℕ, List, ◌++◌}
use Rattle.neli_wire.specs.Frames.{number_in}
use Rattle.neli_wire.specs.Numbers.{FitsBytes, little_bytes}
use Rattle.neli_rtnl_linux.specs.declared.gnet_stats_basic.GnetStatsBasic.{GnetStatsBasic}

-- the fields by their places
abbrev pub gnet_stats_basic_header : List ℕ → GnetStatsBasic
gnet_stats_basic_header s = record {
  bytes = number_in 8 0 s;
  packets = number_in 4 8 s;
  padding = number_in 4 12 s;
}

-- the bytes of the fields
abbrev pub gnet_stats_basic_bytes : GnetStatsBasic → List ℕ
gnet_stats_basic_bytes v =
    little_bytes 8 v.bytes ++ little_bytes 4 v.packets ++ little_bytes 4 v.padding

-- each field has a number of its size
pub record IsPlainGnetStatsBasic (v : GnetStatsBasic) : Type 0 where
  pub bytes : FitsBytes 8 v.bytes
  pub packets : FitsBytes 4 v.packets
  pub padding : FitsBytes 4 v.padding
