use Rattle.std.proofs.Common.{Some}
use Rattle.neli_cache.proofs.Keyed.{at-updated}
use Rattle.neli_cache.proofs.table.insert.Goals as goal

pub returns-in-Ok-clause-inserted : goal.returns-in-Ok-clause-inserted
returns-in-Ok-clause-inserted c =
    at-updated c.args.key.items c.args.entries.now c.insert.new.self (Some c.args.payload) c.in-Ok.ensures.updates
