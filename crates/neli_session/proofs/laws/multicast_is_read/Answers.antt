use Rattle.neli_session.proofs.Readers.{multicast-read}
use Rattle.neli_session.proofs.laws.multicast_is_read.Goals as goal

pub returns : goal.returns
returns c = multicast-read
