use Rattle.std.proofs.Common.{◌≡◌}
use Rattle.neli_tables_check.specs.Policies.{deeper_at, left_unmet, list_unmet}
use Rattle.neli_tables_check.proofs.policies.+list_unmet.Given as goal

-- the lists that may still be opened in this one
abbrev pub decreases-list_unmet : goal.decreases-list_unmet
decreases-list_unmet l = l.depth

-- nothing is wrong so far: what is left is wrong as the whole is
abbrev pub invariant-loop-left : goal.invariant-loop-left
invariant-loop-left l =
    list_unmet l.fn.replies l.fn.depth l.fn.ruled l.fn.end l.fn.bytes
    ≡ left_unmet (deeper_at l.fn.replies l.fn.depth) l.fn.replies l.fn.ruled l.fn.end l.left l.rest

abbrev pub decreases-loop-left : goal.decreases-loop-left
decreases-loop-left l = l.left
