use Rattle.std.proofs.Common.{◌≡◌, drop, map, option_map, string_bytes}
use Rattle.neli_attr.specs.Nlattr.{nlattr_view}
use Rattle.neli_resolvers.specs.Items.{last_found}
use Rattle.neli_resolvers.specs.Resolvers.{name_if}
use Rattle.neli_resolvers.proofs.Lists.{last_from}
use Rattle.neli_resolvers.proofs.groups.last_name.Given as goal

-- the last of all is the last from here on, or else the result so far
abbrev pub invariant-loop-group : goal.invariant-loop-group
invariant-loop-group l =
    last_from (name_if l.id) (option_map string_bytes l.found) (map nlattr_view (drop l.group-index l.groups))
    ≡ last_found (name_if l.id) (map nlattr_view l.groups)
