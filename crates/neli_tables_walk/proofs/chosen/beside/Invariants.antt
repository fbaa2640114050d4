use Rattle.std.proofs.Common.{◌≡◌}
use Rattle.neli_tables_walk.specs.Shapes.{beside}
use Rattle.neli_tables_walk.proofs.Neighbours.{sought}
use Rattle.neli_tables_walk.proofs.chosen.beside.Given as goal

abbrev pub decreases-loop-left : goal.decreases-loop-left
decreases-loop-left l = l.left

abbrev pub invariant-loop-left : goal.invariant-loop-left
invariant-loop-left l = beside l.list l.number ≡ sought l.left l.number l.cursor.rest
