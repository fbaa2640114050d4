use Rattle.std.proofs.Common.{◌≡◌, option_map, string_bytes}
use Rattle.std.specs.Vec.Iter.{into_iter_items}
use Rattle.neli_resolvers.specs.Items.{last_found}
use Rattle.neli_resolvers.specs.Resolvers.{names_take_memory, names_told}
use Rattle.neli_resolvers.proofs.Lists.{last_from}
use Rattle.neli_resolvers.proofs.resolvers.lookup_id.Given as goal

-- the last of all is the last of the rest, or else the result so far
abbrev pub invariant-loop-item : goal.invariant-loop-item
invariant-loop-item l = record {
  can_next : (goal.iterator-loop-item).can_next l.item-iterator;
  is_finite : (goal.iterator-loop-item).is_finite l.item-iterator;
  last : last_from (names_told l.id) (option_map (λ p. (string_bytes p.0, string_bytes p.1)) l.found)
      (into_iter_items l.item-iterator)
      ≡ last_found (names_told l.id) l.fn.items.items;
  takes : names_take_memory l.id (into_iter_items l.item-iterator) → names_take_memory l.id l.fn.items.items;
}
