use Rattle.std.proofs.Common.{◌-◌, sym, ◌∙◌, arith}
use Rattle.neli_tables_check.proofs.Steps.{among-next, among-none, among-zero}
use Rattle.neli_tables_check.proofs.cut.last_payload.Goals as goal

pub returns-in_default : goal.returns-in_default
returns-in_default c =
    sym (c.loop-left.invariant ∙ among-none _ _ _ _ (sym c.entry_size.ensures.size ∙ c.in_default.is))

pub loop-left-preserved : goal.loop-left-preserved
loop-left-preserved c =
    c.loop-left.invariant
    ∙ among-next _ (c.loop-left.left - 1) _ c.in-Some.size _ _ (omega arith)
    (sym c.entry_size.ensures.size ∙ c.in-Some.is)
    ∙ cc

pub returns : goal.returns
returns c = sym (c.loop-left.invariant ∙ among-zero _ _ _ _ (omega arith))
