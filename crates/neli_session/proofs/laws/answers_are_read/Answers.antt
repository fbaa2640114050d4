use Rattle.neli_session.proofs.Followed.{answers-are-read}
use Rattle.neli_session.proofs.laws.answers_are_read.Goals as goal

pub returns : goal.returns
returns c = answers-are-read
