use Rattle.std.proofs.Common.{◌∙◌, map, refl, sym}
use Rattle.neli_attr.specs.Handles.{attrs_in}
use Rattle.neli_attr.specs.Nlattr.{nlattr_view}
use Rattle.neli_resolvers.specs.Attributes.{group_attrs, group_name}
use Rattle.neli_resolvers.proofs.Lookups.{named_group, on_err, ran_out, was_not_read, was_read}
use Rattle.neli_resolvers.proofs.groups.match_number.Goals as goal

pub returns-in_default-clause-value : goal.returns-in_default-clause-value
returns-in_default-clause-value c =
    let unread = was_not_read c.group_attrs.result (group_attrs
    (nlattr_view c.args.group.now)) _ c.group_attrs.ensures.refused
    c.in_ok-attrs.ensures.enough (sym c.in_default.is ∙ c.in_ok-attrs.ensures.value) in
    rw unread refl

pub returns-in_default-2-clause-value : goal.returns-in_default-2-clause-value
returns-in_default-2-clause-value c =
    let attrs = c.in-Some.attrs in
    let read = was_read c.group_attrs.result (group_attrs (nlattr_view c.args.group.now))
    (λ h. map nlattr_view (attrs_in h)) attrs
    c.group_attrs.ensures.value (sym c.in-Some.is ∙ c.in_ok-attrs.ensures.value) in
    let unread = was_not_read c.group_name.result (group_name
    (map nlattr_view (attrs_in attrs))) _ c.group_name.ensures.refused
    c.in_ok-own.ensures.enough (sym c.in_default-2.is ∙ c.in_ok-own.ensures.value) in
    rw (read, unread) refl

pub returns-in_err-own-clause-memory : goal.returns-in_err-own-clause-memory
returns-in_err-own-clause-memory c =
    let group = nlattr_view c.args.group.now in
    let attrs = c.in-Some.attrs in
    let says = map nlattr_view (attrs_in attrs) in
    let read = was_read c.group_attrs.result (group_attrs group) (λ h. map nlattr_view (attrs_in h)) attrs
    c.group_attrs.ensures.value (sym c.in-Some.is ∙ c.in_ok-attrs.ensures.value) in
    on_err c.from_residual-in_err-own.result _ (named_group group says read
    (ran_out c.group_name.result (group_name says) _ c.group_name.ensures.refused c.in_err-own.ensures.memory))
