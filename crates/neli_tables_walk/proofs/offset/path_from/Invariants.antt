use Rattle.std.proofs.Common.{◌≡◌, ◌-◌, length}
use Rattle.neli_tables_walk.specs.Found.{place_view}
use Rattle.neli_tables_walk.specs.Shapes.{context_view}
use Rattle.neli_tables_walk.proofs.Offsets.{Follows}
use Rattle.neli_tables_walk.proofs.offset.path_from.Given as goal

abbrev pub decreases-loop-levels : goal.decreases-loop-levels
decreases-loop-levels l = 10 - length l.steps.items

-- the steps so far, and then those from this place
abbrev pub invariant-loop-levels : goal.invariant-loop-levels
invariant-loop-levels l =
    (l.levels.context ≡ l.fn.context) × (length l.levels.open.items ≡ length l.steps.items)
    × Follows (context_view l.fn.context) (place_view l.fn.place) l.steps.items l.levels.open.items
    (place_view l.place)
