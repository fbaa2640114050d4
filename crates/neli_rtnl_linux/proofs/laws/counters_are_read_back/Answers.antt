use Rattle.neli_rtnl_linux.specs.laws.GnetStatsBasic.{gnet_stats_basic-reads_back, gnet_stats_basic-writes_back}
use Rattle.neli_rtnl_linux.specs.laws.GnetStatsQueue.{gnet_stats_queue-reads_back, gnet_stats_queue-writes_back}
use Rattle.neli_rtnl_linux.proofs.laws.counters_are_read_back.Goals as goal

pub returns-clause-basic_back : goal.returns-clause-basic_back
returns-clause-basic_back c = gnet_stats_basic-reads_back

pub returns-clause-basic_bytes : goal.returns-clause-basic_bytes
returns-clause-basic_bytes c = gnet_stats_basic-writes_back

pub returns-clause-queue_back : goal.returns-clause-queue_back
returns-clause-queue_back c = gnet_stats_queue-reads_back

pub returns-clause-queue_bytes : goal.returns-clause-queue_bytes
returns-clause-queue_bytes c = gnet_stats_queue-writes_back
