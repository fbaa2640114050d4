use Rattle.neli_body.specs.laws.Bodies.{reads_back}
use Rattle.neli_genl.specs.CnMsg.{cn_msg_bytes, cn_msg_header}
use Rattle.neli_genl.specs.laws.CnMsg.{cn_msg-reads_back, cn_msg-width, cn_msg-writes_back}
use Rattle.neli_genl.proofs.laws.cn_msg_is_read_back.Goals as goal

pub returns-clause-back : goal.returns-clause-back
returns-clause-back g c m is =
    reads_back 20 cn_msg_header g.P.FromBytesWithInput.read cn_msg_bytes m.header (g.P.ToBytes.wire m.payload)
    (cn_msg-width m.header) (cn_msg-reads_back m.header is)

pub returns-clause-bytes : goal.returns-clause-bytes
returns-clause-bytes g c = cn_msg-writes_back
