use Rattle.std.proofs.Common.{arith}
use Rattle.neli_msg.specs.Messages.{message_layout}
use Rattle.neli_msg.specs.laws.Messages.{layout_with-placed}
use Rattle.neli_reader.specs.laws.Cuts.{cut_of-Cuts}
use Rattle.neli_reader.proofs.laws.has_a_cut.Goals as goal

pub returns : goal.returns
returns g c =
    cut_of-Cuts (message_layout g.T.Constant.wire_value g.T.Constant.wire_number g.P.FromBytesWithInput.read)
    (layout_with-placed g.T.Constant.wire_value _) (omega arith)
