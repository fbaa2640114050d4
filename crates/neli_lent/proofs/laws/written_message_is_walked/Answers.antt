use Rattle.neli_lent.specs.laws.Written.{written-walked}
use Rattle.neli_lent.proofs.laws.written_message_is_walked.Goals as goal

pub returns : goal.returns
returns g c = written-walked g.T.Constant.wire_number g.P.ToBytes.wire g.P.Size.wire_length g.met.P.ToBytes.length_is
