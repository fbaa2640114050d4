use Rattle.std.proofs.Common.{◌∙◌, sym}
use Rattle.neli_tables.proofs.Passed.{slot_here}
use Rattle.neli_tables.proofs.setting.has_slot.Goals as goal

pub returns-then-same_slot : goal.returns-then-same_slot
returns-then-same_slot c =
    sym (slot_here c.args.said _ c.args.settings.now c.loop-setting.setting-index _ _
    c.loop-setting.invariant c.loop-setting-test.true (sym c.same_slot.ensures ∙ c.if-same_slot.true))

pub loop-setting-preserved : goal.loop-setting-preserved
loop-setting-preserved c =
    slot_here c.args.said _ c.args.settings.now c.loop-setting.setting-index _ _
    c.loop-setting.invariant c.loop-setting-test.true (sym c.same_slot.ensures ∙ c.if-same_slot.false)
