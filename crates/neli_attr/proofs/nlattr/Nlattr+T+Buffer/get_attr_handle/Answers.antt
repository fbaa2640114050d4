use Rattle.std.proofs.Common.{ℕ, ◌<◌, List, length, subst}
use Rattle.std.specs.Prelude.{IfErr}
use Rattle.neli_wire.specs.Refusals.{Refuses}
use Rattle.neli_attr.specs.Attributes.{attributes_in}
use Rattle.neli_attr.specs.TypeField.{type_of}
use Rattle.neli_attr.proofs.nlattr.Nlattr+T+Buffer.get_attr_handle.Goals as goal

-- the lent bytes are those of the payload
pub returns-clause-refused : goal.returns-clause-refused
returns-clause-refused g c =
    subst (λ (s : List ℕ). IfErr c.handle_of_payload.result
    (Refuses (attributes_in (type_of g.R.Constant.wire_value) s) (0 < length s)))
    c.as_ref.ensures c.handle_of_payload.ensures.refused
