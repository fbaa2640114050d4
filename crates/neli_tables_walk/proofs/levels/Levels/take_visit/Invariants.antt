use Rattle.std.proofs.Common.{◌≡◌, [], length}
use Rattle.neli_tables_walk.specs.Walks.{open_items}
use Rattle.neli_tables_walk.specs.Shapes.{context_view}
use Rattle.neli_tables_walk.proofs.levels.Levels.take_visit.Given as goal

abbrev pub decreases-loop-level : goal.decreases-loop-level
decreases-loop-level l = length l.self.open.items

-- nothing was left of the lists that were taken out
abbrev pub invariant-loop-level : goal.invariant-loop-level
invariant-loop-level l =
    (l.self.context ≡ l.fn.self.context)
    × (open_items (context_view l.fn.self.context) [] [] l.fn.self.open.items
    ≡ open_items (context_view l.fn.self.context) [] [] l.self.open.items)
