use Rattle.neli_session.proofs.Verdicts.{complete-whole}
use Rattle.neli_session.proofs.laws.complete_answers_are_whole.Goals as goal

pub returns : goal.returns
returns c = complete-whole
