use Rattle.std.proofs.Common.{None}
use Rattle.neli_cache.proofs.Keyed.{at-updated}
use Rattle.neli_cache.proofs.table.remove.Goals as goal

pub returns : goal.returns
returns c = at-updated c.args.key.now c.args.entries.now c.swap_remove.new.self None c.swap_remove.ensures.updates
