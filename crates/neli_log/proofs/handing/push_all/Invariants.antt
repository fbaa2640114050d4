use Rattle.std.proofs.Common.{◌≡◌, ◌++◌, ℕ, Option, length, option_map}
use Rattle.std.specs.Vec.Iter.{into_iter_items}
use Rattle.neli_log.specs.Places.{HasRoom, IsTrimmed, entries_of, pending_of}
use Rattle.neli_log.specs.Routes.{items_for}
use Rattle.neli_log.specs.Staged.{HaveReaders}
use Rattle.neli_log.proofs.handing.push_all.Given as goal

-- there is room for the rest, and with it the lists reach their final state
abbrev pub invariant-loop-entry : goal.invariant-loop-entry
invariant-loop-entry l = record {
  can_next : (goal.iterator-loop-entry).can_next l.entry-iterator;
  is_finite : (goal.iterator-loop-entry).is_finite l.entry-iterator;
  trimmed : IsTrimmed l.places;
  room : HasRoom (length (into_iter_items l.entry-iterator)) l.places;
  readers : HaveReaders (pending_of l.places) (into_iter_items l.entry-iterator);
  entries : entries_of l.places ++ into_iter_items l.entry-iterator ≡ entries_of l.fn.places ++ l.fn.entries.items;
  more : (w : Option ℕ) → option_map (λ xs. xs ++ items_for w (into_iter_items l.entry-iterator))
      (pending_of l.places w)
      ≡ option_map (λ xs. xs ++ items_for w l.fn.entries.items) (pending_of l.fn.places w);
}
