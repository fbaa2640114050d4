use Rattle.neli_list.specs.laws.Refusals.{refuses-same}
use Rattle.neli_attr_parts.specs.laws.Attributes.{attribute_at-is, attribute_takes_memory-is}
use Rattle.neli_attr_parts.proofs.frame.read_attribute.Goals as goal

pub returns-clause-value : goal.returns-clause-value
returns-clause-value g c = rw (← attribute_at-is g.K.Constant.wire_value g.P.FromBytesWithInput.read
    c.args.cursor.now.rest) c.read_fields.ensures.value

pub returns-clause-refused : goal.returns-clause-refused
returns-clause-refused g c =
    refuses-same c.read_fields.result _ _ _ _
    (attribute_at-is g.K.Constant.wire_value g.P.FromBytesWithInput.read c.args.cursor.now.rest)
    (attribute_takes_memory-is g.K.Constant.wire_value g.P.FromBytesWithInput.read g.P.FromBytesWithInput.takes_memory
    c.args.cursor.now.rest)
    c.read_fields.ensures.refused
