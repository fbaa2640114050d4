-- A queue: `struct gnet_stats_queue` of linux/gen_stats.h.
use Rattle.std.specs.Prelude.{ℕ, List, ◌++◌}
use Rattle.neli_wire.specs.Frames.{number_in}
use Rattle.neli_wire.specs.Numbers.{FitsBytes, little_bytes}
use Rattle.neli_rtnl_linux.specs.declared.gnet_stats_queue.GnetStatsQueue.{GnetStatsQueue}

-- the fields by their places
abbrev pub gnet_stats_queue_header : List ℕ → GnetStatsQueue
gnet_stats_queue_header s = record {
  qlen = number_in 4 0 s;
  backlog = number_in 4 4 s;
  drops = number_in 4 8 s;
  requeues = number_in 4 12 s;
  overlimits = number_in 4 16 s;
}

-- the bytes of the fields
abbrev pub gnet_stats_queue_bytes : GnetStatsQueue → List ℕ
gnet_stats_queue_bytes v =
    little_bytes 4 v.qlen ++ little_bytes 4 v.backlog ++ little_bytes 4 v.drops
    ++ little_bytes 4 v.requeues ++ little_bytes 4 v.overlimits

-- each field has a number of its size
pub record IsPlainGnetStatsQueue (v : GnetStatsQueue) : Type 0 where
  pub qlen : FitsBytes 4 v.qlen
  pub backlog : FitsBytes 4 v.backlog
  pub drops : FitsBytes 4 v.drops
  pub requeues : FitsBytes 4 v.requeues
  pub overlimits : FitsBytes 4 v.overlimits
