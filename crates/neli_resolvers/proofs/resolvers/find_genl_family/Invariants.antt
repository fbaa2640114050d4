use Rattle.std.proofs.Common.{◌≡◌, None, drop, filter_map}
use Rattle.std.specs.List.{last_or}
use Rattle.neli_resolvers.specs.Items.{messages}
use Rattle.neli_resolvers.specs.Resolvers.{number_told}
use Rattle.neli_resolvers.proofs.resolvers.find_genl_family.Given as goal

-- the last number of all is the last of the items from here on, or else the result so far
abbrev pub invariant-loop-item : goal.invariant-loop-item
invariant-loop-item l =
    last_or l.found (filter_map number_told (messages (drop l.item-index l.items)))
    ≡ last_or None (filter_map number_told (messages l.items))
