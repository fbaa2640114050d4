use Rattle.std.proofs.Common.{◌≡◌, drop, map}
use Rattle.neli_attr.specs.Nlattr.{nlattr_view}
use Rattle.neli_resolvers.specs.Items.{first_found}
use Rattle.neli_resolvers.specs.Resolvers.{match_number}
use Rattle.neli_resolvers.proofs.groups.first_match.Given as goal

-- the first match of all is the first from here on
abbrev pub invariant-loop-candidate : goal.invariant-loop-candidate
invariant-loop-candidate l =
    first_found (match_number l.name) (map nlattr_view (drop l.candidate-index l.groups))
    ≡ first_found (match_number l.name) (map nlattr_view l.groups)
