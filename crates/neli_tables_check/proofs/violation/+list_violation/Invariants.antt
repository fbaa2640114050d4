use Rattle.std.proofs.Common.{◌≡◌, ◌-◌, length}
use Rattle.neli_tables_walk.specs.Shapes.{context_view}
use Rattle.neli_tables_check.specs.Violations.{deeper_at, left_wrong, list_wrong, listed_view}
use Rattle.neli_tables_check.proofs.violation.+list_violation.Given as goal

-- the lists that may still be opened in this one
abbrev pub decreases-list_violation : goal.decreases-list_violation
decreases-list_violation l = 9 - length l.path.steps.items

-- nothing is wrong so far: what is left is wrong as the whole is
abbrev pub invariant-loop-left : goal.invariant-loop-left
invariant-loop-left l =
    list_wrong (context_view l.fn.context) (9 - length l.fn.path.steps.items) l.fn.validation
    l.fn.path.steps.items (listed_view l.fn.list)
    ≡ left_wrong (deeper_at (context_view l.fn.context) (9 - length l.fn.path.steps.items))
    (context_view l.fn.context) l.fn.validation l.fn.path.steps.items (listed_view l.fn.list)
    l.left l.bytes

abbrev pub decreases-loop-left : goal.decreases-loop-left
decreases-loop-left l = l.left
