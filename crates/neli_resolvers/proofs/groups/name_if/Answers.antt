use Rattle.std.proofs.Common.{◌≡◌, map, refl, true, rules}
use Rattle.neli_attr.specs.Handles.{attrs_in}
use Rattle.neli_attr.specs.Nlattr.{nlattr_view}
use Rattle.neli_resolvers.specs.Attributes.{group_name}
use Rattle.neli_resolvers.specs.Resolvers.{has_number, name_if}
use Rattle.neli_resolvers.proofs.Lookups.{named_group, step_refused}
use Rattle.neli_resolvers.proofs.groups.name_if.Goals as goal

pub returns-in_err-group_name-clause-refused : goal.returns-in_err-group_name-clause-refused
returns-in_err-group_name-clause-refused c =
    let group = nlattr_view c.args.group.now in
    let says = map nlattr_view (attrs_in c.in_ok-attrs.attrs) in
    let has : has_number c.args.id says ≡ true = search rules in
    let attrs = c.in_ok-attrs.ensures.value in
    step_refused c.from_residual-in_err-group_name.result c.in_err-group_name.field-0.0 (group_name says)
    (name_if c.args.id group) _ _ c.from_residual-in_err-group_name.ensures.1
    (λ is. rw (attrs, has, is) refl) (named_group group says attrs) c.in_err-group_name.ensures.refused
