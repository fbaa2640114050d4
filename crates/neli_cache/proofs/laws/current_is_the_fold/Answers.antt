use Rattle.neli_cache.proofs.Folded.{current-folded}
use Rattle.neli_cache.proofs.laws.current_is_the_fold.Goals as goal

pub returns : goal.returns
returns c = λ ks q before es n. current-folded ks q n before es _
