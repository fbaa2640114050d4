use Rattle.std.proofs.Common.{subst}
use Rattle.neli_cache.specs.Tables.{AreKeyed}
use Rattle.neli_cache.proofs.Told.{keyed-shown}
use Rattle.neli_cache.proofs.table.Table.len.Goals as goal

pub returns-clause-keyed : goal.returns-clause-keyed
returns-clause-keyed c = subst AreKeyed c.self.view_is (keyed-shown c.self.inside.entries.entries c.len.ensures.unique)
