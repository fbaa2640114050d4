use Rattle.std.proofs.Common.{List, ℕ, Some, Ok, ap, ◌∙◌}
use Rattle.neli_tables_walk.proofs.Attributes.{payload-is}
use Rattle.neli_tables_walk.proofs.controller.first_payload.Goals as goal

pub returns-in_default : goal.returns-in_default
returns-in_default c =
    payload-is c.args.number c.args.attributes.now c.new.result c.get_attribute.result _
    c.new.ensures.rest
    c.get_attribute.ensures c.in_default.is

pub returns-in_default-found : goal.returns-in_default-found
returns-in_default-found c =
    payload-is c.args.number c.args.attributes.now c.new.result c.get_attribute.result _
    c.new.ensures.rest
    c.get_attribute.ensures (c.in-Ok.is ∙ ap Ok c.in_default-found.is)

pub returns : goal.returns
returns c =
    ap (λ (p : List ℕ). Some p) c.attr_payload.ensures
    ∙ payload-is c.args.number c.args.attributes.now c.new.result c.get_attribute.result _
    c.new.ensures.rest
    c.get_attribute.ensures (c.in-Ok.is ∙ ap Ok c.in-Some.is)
