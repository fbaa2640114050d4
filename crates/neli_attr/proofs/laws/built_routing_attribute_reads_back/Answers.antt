use Rattle.neli_attr.specs.laws.RoundTrips.{attribute-reads_back}
use Rattle.neli_attr.proofs.RoundTrips.{built_rtattr-length}
use Rattle.neli_attr.proofs.laws.built_routing_attribute_reads_back.Goals as goal

pub returns-clause-read : goal.returns-clause-read
returns-clause-read g c b a built small =
    let lengths = built_rtattr-length g.P.ToBytes.wire b a built in
    attribute-reads_back g.T.Constant.wire_value a.rta_len
    (g.T.Constant.wire_number a.rta_type) a.rta_payload small lengths.0 lengths.1

pub returns-clause-number : goal.returns-clause-number
returns-clause-number g c t small = g.met.T.Constant.back_to_number (g.T.Constant.wire_number t) small
