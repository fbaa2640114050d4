use Rattle.std.proofs.Common.{arith}
use Rattle.neli_msg.specs.Messages.{message_layout}
use Rattle.neli_msg.specs.laws.Messages.{layout_with-placed}
use Rattle.neli_reader.specs.laws.Cuts.{one_cut}
use Rattle.neli_reader.proofs.laws.has_one_cut.Goals as goal

pub returns : goal.returns
returns g c =
    one_cut (message_layout g.T.Constant.wire_value g.T.Constant.wire_number g.P.FromBytesWithInput.read)
    (layout_with-placed g.T.Constant.wire_value _) (omega arith)
