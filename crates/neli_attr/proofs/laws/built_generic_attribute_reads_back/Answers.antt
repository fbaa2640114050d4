use Rattle.neli_attr.specs.TypeField.{number_of, type_of}
use Rattle.neli_attr.specs.laws.RoundTrips.{attribute-reads_back, number_of-small, type_of-number_of}
use Rattle.neli_attr.proofs.RoundTrips.{built_nlattr-length}
use Rattle.neli_attr.proofs.laws.built_generic_attribute_reads_back.Goals as goal

pub returns-clause-read : goal.returns-clause-read
returns-clause-read g c b a built small =
    let lengths = built_nlattr-length g.P.ToBytes.wire b a built in
    attribute-reads_back (type_of g.T.Constant.wire_value) a.nla_len
    (number_of g.T.Constant.wire_number a.nla_type) a.nla_payload
    (number_of-small g.T.Constant.wire_number a.nla_type small) lengths.0 lengths.1

pub returns-clause-field : goal.returns-clause-field
returns-clause-field g c = type_of-number_of g.T.Constant.wire_value g.T.Constant.wire_number
    g.met.T.Constant.back_to_number
