use Rattle.std.proofs.Common.{◌∙◌, map, refl, sym}
use Rattle.neli_attr.specs.Handles.{attrs_in}
use Rattle.neli_attr.specs.Nlattr.{nlattr_view}
use Rattle.neli_resolvers.specs.Attributes.{groups}
use Rattle.neli_resolvers.proofs.Lookups.{was_not_read}
use Rattle.neli_resolvers.proofs.resolvers.names_said.Goals as goal

pub returns-in_default-clause-value : goal.returns-in_default-clause-value
returns-in_default-clause-value c =
    let says = map nlattr_view (attrs_in c.args.attrs.now) in
    let unread = was_not_read c.groups.result (groups says) _ c.groups.ensures.refused
    c.in_ok-all.ensures.enough (sym c.in_default.is ∙ c.in_ok-all.ensures.value) in
    rw (c.in_ok-family.ensures.value, unread) refl
