use Rattle.neli_genl.proofs.GenlMessages.{genlmsghdr-back, genlmsghdr-whole}
use Rattle.neli_genl.proofs.laws.genlmsghdr_is_read_back.Goals as goal

pub returns-clause-back : goal.returns-clause-back
returns-clause-back g c =
    genlmsghdr-back g.H.TypeSize.width g.C.Constant.wire_number g.C.Constant.wire_value g.T.Constant.wire_number
    g.T.Constant.wire_value g.H.ToBytes.wire g.H.FromBytes.read g.met.H.FromBytes.local

pub returns-clause-whole : goal.returns-clause-whole
returns-clause-whole g c =
    genlmsghdr-whole g.H.TypeSize.width g.C.Constant.wire_number g.C.Constant.wire_value g.T.Constant.wire_number
    g.T.Constant.wire_value g.H.ToBytes.wire g.H.FromBytes.read g.met.H.FromBytes.local g.H.FromBytes.view
