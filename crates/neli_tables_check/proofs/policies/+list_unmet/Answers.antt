use Rattle.std.proofs.Common.{◌≡◌, ◌-◌, Some, sym, ◌∙◌, arith}
use Rattle.neli_tables_check.specs.Cuts.{entry_size}
use Rattle.neli_tables_check.proofs.ByPolicy.{left_some}
use Rattle.neli_tables_check.proofs.policies.+list_unmet.Goals as goal

pub returns-in-Err : goal.returns-in-Err
returns-in-Err t c =
    let sized : entry_size 4 c.loop-left.rest.now ≡ Some c.in-Some.size = cc in
    sym (c.loop-left.invariant ∙ left_some _ _ _ _ c.loop-left.left (c.loop-left.left - 1) c.in-Some.size
    c.loop-left.rest.now _ (omega arith) sized c.in-Err.ensures.wrong)

pub returns-in-Some-list_unmet : goal.returns-in-Some-list_unmet
returns-in-Some-list_unmet t c =
    let sized : entry_size 4 c.loop-left.rest.now ≡ Some c.in-Some.size = cc in
    let is = rw c.in-Ok-Some.field-0-is at c.in-Ok-Some.ensures.inner in
    sym (c.loop-left.invariant ∙ left_some _ _ _ _ c.loop-left.left (c.loop-left.left - 1) c.in-Some.size
    c.loop-left.rest.now _ (omega arith) sized (is ∙ sym c.list_unmet.ensures ∙ c.in-Some-list_unmet.is))
