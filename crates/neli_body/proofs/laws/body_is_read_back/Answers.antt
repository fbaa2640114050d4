use Rattle.neli_body.specs.laws.Bodies.{reads_back}
use Rattle.neli_body.proofs.laws.body_is_read_back.Goals as goal

pub returns-clause-back : goal.returns-clause-back
returns-clause-back g c h rest is =
    let header = g.H.FixedHeader in
    reads_back header.width header.header_of g.R.FromBytesWithInput.read header.bytes_of h (g.R.ToBytes.wire rest)
    (g.met.H.FixedHeader.width_is h) (g.met.H.FixedHeader.reads_back h is)

pub returns-clause-bytes : goal.returns-clause-bytes
returns-clause-bytes g c = g.met.H.FixedHeader.writes_back
