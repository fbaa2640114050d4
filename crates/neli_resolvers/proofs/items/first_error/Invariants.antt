use Rattle.std.proofs.Common.{◌≡◌}
use Rattle.std.specs.Vec.Iter.{into_iter_items}
use Rattle.neli_resolvers.specs.Items.{first_error}
use Rattle.neli_resolvers.proofs.items.first_error.Given as goal

-- the first error is in the rest
abbrev pub invariant-loop-item : goal.invariant-loop-item
invariant-loop-item l = record {
  can_next : (goal.iterator-loop-item).can_next l.item-iterator;
  is_finite : (goal.iterator-loop-item).is_finite l.item-iterator;
  error : first_error (into_iter_items l.item-iterator) ≡ first_error l.fn.items.items;
}
