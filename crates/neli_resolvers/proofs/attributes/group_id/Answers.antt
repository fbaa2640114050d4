use Rattle.std.proofs.Common.{◌∙◌, ap}
use Rattle.std.specs.Result.{result_ok}
use Rattle.neli_attr.specs.Handles.{attrs_in}
use Rattle.neli_attr.specs.Lookup.{read_found}
use Rattle.neli_resolvers.specs.Attributes.{first_number}
use Rattle.neli_resolvers.proofs.Lookups.{finds_id, number_found}
use Rattle.neli_resolvers.proofs.attributes.group_id.Goals as goal

pub returns : goal.returns
returns c =
    c.ok.ensures.value
    ∙ number_found 4 _ c.get_attr_payload_as.result c.get_attr_payload_as.ensures.value
    c.get_attr_payload_as.ensures.refused
    ∙ ap (λ p. result_ok (read_found p (first_number 4))) (finds_id (attrs_in c.args.attrs.now))
