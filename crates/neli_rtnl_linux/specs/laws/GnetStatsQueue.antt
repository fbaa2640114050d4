-- Laws of the fields of `GnetStatsQueue`.
use Rattle.std.proofs.Common.{◌≡◌, ℕ, List, [], length, refl}
use Rattle.neli_body.specs.laws.Headers.{last_place, number-back, place}
use Rattle.neli_wire.specs.Numbers.{AreBytes}
use Rattle.neli_rtnl_linux.specs.declared.gnet_stats_queue.GnetStatsQueue.{GnetStatsQueue}
use Rattle.neli_rtnl_linux.specs.GnetStatsQueue.{IsPlainGnetStatsQueue, gnet_stats_queue_bytes, gnet_stats_queue_header}

pub gnet_stats_queue-width : (v : GnetStatsQueue) → length (gnet_stats_queue_bytes v) ≡ 20
gnet_stats_queue-width v = refl

pub gnet_stats_queue-reads_back : (v : GnetStatsQueue) → IsPlainGnetStatsQueue v
    → gnet_stats_queue_header (gnet_stats_queue_bytes v) ≡ v
gnet_stats_queue-reads_back v is =
    rw (
      number-back 4 v.qlen _ is.qlen,
      number-back 4 v.backlog _ is.backlog,
      number-back 4 v.drops _ is.drops,
      number-back 4 v.requeues _ is.requeues,
      number-back 4 v.overlimits [] is.overlimits,
    ) refl

pub gnet_stats_queue-writes_back : (s : List ℕ) → length s ≡ 20 → AreBytes s
    → gnet_stats_queue_bytes (gnet_stats_queue_header s) ≡ s
gnet_stats_queue-writes_back s size small =
    place 4 0 16 s _ _ size small refl
    (place 4 4 12 s _ _ size small refl
    (place 4 8 8 s _ _ size small refl
    (place 4 12 4 s _ _ size small refl
    (last_place 4 16 s _ size small refl))))
