use Rattle.neli_session.proofs.Readers.{unasked-read}
use Rattle.neli_session.proofs.laws.unasked_are_read.Goals as goal

pub returns : goal.returns
returns c = unasked-read
