use Rattle.neli_session.proofs.Verdicts.{whole-complete}
use Rattle.neli_session.proofs.laws.whole_answers_are_complete.Goals as goal

pub returns : goal.returns
returns c = whole-complete
