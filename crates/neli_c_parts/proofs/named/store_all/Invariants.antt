use Rattle.std.proofs.Common.{◌≡◌, ◌+◌, [], ◌∷◌, length}
use Rattle.neli_c_parts.specs.NamedItems.{items_from, items_text}
use Rattle.neli_c_parts.specs.Rooms.{put_at}
use Rattle.neli_c_parts.proofs.named.store_all.Given as goal

-- with what is left of the walk, all items and all texts are stored
abbrev pub invariant-loop-item : goal.invariant-loop-item
invariant-loop-item l = record {
  can_next : (goal.iterator-loop-item).can_next l.walk;
  is_finite : (goal.iterator-loop-item).is_finite l.walk;
  items : put_at l.stored.count (items_from l.table l.begins.items l.stored.size l.walk) l.items
      ≡ put_at 0 (items_from l.table (l.fn.start ∷ []) 0 l.fn.walk) l.fn.items;
  text : put_at l.stored.size (items_text l.table l.walk) l.out
      ≡ put_at 0 (items_text l.table l.fn.walk) l.fn.out;
  count : l.stored.count + length (items_from l.table l.begins.items l.stored.size l.walk)
      ≡ length (items_from l.table (l.fn.start ∷ []) 0 l.fn.walk);
  size : l.stored.size + length (items_text l.table l.walk) ≡ length (items_text l.table l.fn.walk);
}
