use Rattle.neli_session.proofs.AllRead.{reads-answer}
use Rattle.neli_session.proofs.laws.reads_are_the_answer.Goals as goal

pub returns : goal.returns
returns c = reads-answer
