use Rattle.neli_kernel.proofs.Answers.{one-message}
use Rattle.neli_kernel.proofs.laws.message_is_one_frame.Goals as goal

pub returns : goal.returns
returns g c = one-message g.T.Constant.wire_number g.P.ToBytes.wire g.P.Size.wire_length g.met.P.ToBytes.length_is
