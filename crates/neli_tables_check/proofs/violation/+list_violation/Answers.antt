use Rattle.std.proofs.Common.{◌≡◌, ◌-◌, Some, sym, ◌∙◌, arith}
use Rattle.neli_tables_check.specs.Cuts.{entry_size}
use Rattle.neli_tables_check.specs.Violations.{front_of, listed_view}
use Rattle.neli_tables_check.proofs.Steps.{left_some, mapped_some}
use Rattle.neli_tables_check.proofs.violation.+list_violation.Goals as goal

pub returns-in-Err : goal.returns-in-Err
returns-in-Err n c =
    let sized : entry_size (front_of (listed_view c.args.list)) c.loop-left.bytes.now
    ≡ Some c.in-Some.size = cc in
    let is = rw c.behind-rest.ensures at c.in-Err.ensures.wrong in
    sym (c.loop-left.invariant ∙ left_some _ _ _ _ _ c.loop-left.left (c.loop-left.left - 1)
    c.in-Some.size c.loop-left.bytes.now _ (omega arith) sized is)

pub returns-in-Some-list_violation : goal.returns-in-Some-list_violation
returns-in-Some-list_violation n c =
    let sized : entry_size (front_of (listed_view c.args.list)) c.loop-left.bytes.now
    ≡ Some c.in-Some.size = cc in
    let is = rw c.behind-rest.ensures at (rw c.in-Ok-Some.field-0-is at c.in-Ok-Some.ensures.inner) in
    let found = sym c.list_violation.ensures
    ∙ mapped_some c.list_violation.result c.in-Some-list_violation.violation c.in-Some-list_violation.is in
    sym (c.loop-left.invariant ∙ left_some _ _ _ _ _ c.loop-left.left (c.loop-left.left - 1)
    c.in-Some.size c.loop-left.bytes.now _ (omega arith) sized (is ∙ found))
