use Rattle.neli_cache.proofs.Folded.{folded-last}
use Rattle.neli_cache.proofs.laws.fold_is_the_last.Goals as goal

pub returns : goal.returns
returns c = folded-last
