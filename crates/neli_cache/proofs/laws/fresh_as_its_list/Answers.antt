use Rattle.neli_cache.proofs.Folded.{as-its-list}
use Rattle.neli_cache.proofs.laws.fresh_as_its_list.Goals as goal

pub returns : goal.returns
returns c = λ ks q es. as-its-list ks q es _
