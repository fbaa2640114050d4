use Rattle.std.proofs.Common.{◌≡◌, ◌<◌, Some, length, map, rules}
use Rattle.neli_attr.specs.Handles.{attrs_in}
use Rattle.neli_attr.specs.Nlattr.{nlattr_view}
use Rattle.neli_resolvers.specs.Attributes.{groups_take_memory}
use Rattle.neli_resolvers.specs.Items.{attributes_said}
use Rattle.neli_resolvers.specs.Resolvers.{match_takes_memory}
use Rattle.neli_resolvers.proofs.Lookups.{some_groups}
use Rattle.neli_resolvers.proofs.resolvers.match_in.Goals as goal

pub returns-in_err-first_match-clause-refused : goal.returns-in_err-first_match-clause-refused
returns-in_err-first_match-clause-refused c =
    let attrs = map nlattr_view (attrs_in c.get_attr_handle-attrs.result) in
    let all = attrs_in c.in_ok-all.all in
    let said : attributes_said c.args.message.now ≡ Some attrs = search rules in
    let some : 0 < length all = search rules in
    let has : groups_take_memory attrs = some_groups attrs all c.in_ok-all.ensures.value some in
    let takes : match_takes_memory c.args.message.now = rw said has in
    search rules
