-- Laws of the fields of `GnetStatsBasic`.
use Rattle.std.proofs.Common.{◌≡◌, ℕ, List, [], length, refl}
use Rattle.neli_body.specs.laws.Headers.{last_place, number-back, place}
use Rattle.neli_wire.specs.Numbers.{AreBytes}
use Rattle.neli_rtnl_linux.specs.declared.gnet_stats_basic.GnetStatsBasic.{GnetStatsBasic}
use Rattle.neli_rtnl_linux.specs.GnetStatsBasic.{IsPlainGnetStatsBasic, gnet_stats_basic_bytes, gnet_stats_basic_header}

pub gnet_stats_basic-width : (v : GnetStatsBasic) → length (gnet_stats_basic_bytes v) ≡ 16
gnet_stats_basic-width v = refl

pub gnet_stats_basic-reads_back : (v : GnetStatsBasic) → IsPlainGnetStatsBasic v
    → gnet_stats_basic_header (gnet_stats_basic_bytes v) ≡ v
gnet_stats_basic-reads_back v is =
    rw (
      number-back 8 v.bytes _ is.bytes,
      number-back 4 v.packets _ is.packets,
      number-back 4 v.padding [] is.padding,
    ) refl

pub gnet_stats_basic-writes_back : (s : List ℕ) → length s ≡ 16 → AreBytes s
    → gnet_stats_basic_bytes (gnet_stats_basic_header s) ≡ s
gnet_stats_basic-writes_back s size small =
    place 8 0 8 s _ _ size small refl
    (place 4 8 4 s _ _ size small refl
    (last_place 4 12 s _ size small refl))
