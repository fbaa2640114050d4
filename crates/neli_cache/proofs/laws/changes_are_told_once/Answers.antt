use Rattle.neli_cache.proofs.Told.{told-once}
use Rattle.neli_cache.proofs.laws.changes_are_told_once.Goals as goal

pub returns : goal.returns
returns c = λ before now q kb kn. told-once q before now kb kn
