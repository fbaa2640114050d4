use Rattle.neli_body.specs.laws.RoundTrips.{plain-reads_back, whole-reads_back}
use Rattle.neli_body.proofs.laws.attributes_are_read_back.Goals as goal

pub returns-clause-back : goal.returns-clause-back
returns-clause-back g c = plain-reads_back g.T.Constant.wire_number g.T.Constant.wire_value

pub returns-clause-whole : goal.returns-clause-whole
returns-clause-whole g c h attrs is are =
    let header = g.H.FixedHeader in
    whole-reads_back g.T.Constant.wire_number g.T.Constant.wire_value header.width header.bytes_of header.header_of h
    attrs (g.met.H.FixedHeader.width_is h) (g.met.H.FixedHeader.reads_back h is) are
