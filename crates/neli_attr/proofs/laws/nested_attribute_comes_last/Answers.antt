use Rattle.std.proofs.Common.{ap, sym, ◌∙◌}
use Rattle.neli_wire.specs.Writing.{Wire}
use Rattle.neli_attr.specs.Attributes.{attribute_wire, nested_payload}
use Rattle.neli_attr.proofs.RoundTrips.{nested-last}
use Rattle.neli_attr.proofs.laws.nested_attribute_comes_last.Goals as goal

pub returns : goal.returns
returns g c len kind inner old bytes payload attrs writes is small nests lists =
    let number = g.S.Constant.wire_number kind in
    let same = ap (λ (w : Wire). nested_payload old (attribute_wire len number w)) writes in
    nested-last g.K.Constant.wire_value number old bytes payload len attrs is small (sym same ∙ nests) lists
