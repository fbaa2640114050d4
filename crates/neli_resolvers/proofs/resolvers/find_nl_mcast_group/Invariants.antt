use Rattle.std.proofs.Common.{◌≡◌, drop}
use Rattle.neli_resolvers.specs.Items.{finding_takes_memory, last_found, messages}
use Rattle.neli_resolvers.specs.Resolvers.{match_in, match_takes_memory}
use Rattle.neli_resolvers.proofs.Lists.{last_from}
use Rattle.neli_resolvers.proofs.resolvers.find_nl_mcast_group.Given as goal

-- the last of all messages is the last of the items from here on, or else the result so far; and if finding that takes
-- memory, finding the last of all does
abbrev pub invariant-loop-item : goal.invariant-loop-item
invariant-loop-item l = record {
  last : last_from (match_in l.group) l.found (messages (drop l.item-index l.items))
      ≡ last_found (match_in l.group) (messages l.items);
  takes : finding_takes_memory (match_in l.group) match_takes_memory (messages (drop l.item-index l.items))
      → finding_takes_memory (match_in l.group) match_takes_memory (messages l.items);
}
