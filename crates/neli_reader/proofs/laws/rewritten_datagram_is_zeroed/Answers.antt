use Rattle.std.proofs.Common.{[], refl, sym}
use Rattle.std.proofs.lemmas.List.{append-nil}
use Rattle.neli_msg.specs.Zeroed.{datagram_zeroed}
use Rattle.neli_msg.specs.laws.Zeroed.{datagram-back}
use Rattle.neli_msg.specs.laws.ZeroedAgain.{datagram-again, datagram-length}
use Rattle.neli_reader.specs.Agreement.{untyped_layout}
use Rattle.neli_reader.specs.laws.Cuts.{whole_frames}
use Rattle.neli_reader.proofs.laws.rewritten_datagram_is_zeroed.Goals as goal

pub returns-clause-written : goal.returns-clause-written
returns-clause-written c b ms bytes cuts tails = datagram-back b ms bytes (whole_frames untyped_layout b ms cuts) tails

pub returns-clause-read_again : goal.returns-clause-read_again
returns-clause-read_again c b ms cuts = (
  datagram_zeroed b,
  [],
  sym (append-nil (datagram_zeroed b)),
  datagram-again b ms (whole_frames untyped_layout b ms cuts),
  refl,
)

pub returns-clause-as_long : goal.returns-clause-as_long
returns-clause-as_long c b ms cuts = datagram-length b ms (whole_frames untyped_layout b ms cuts)
