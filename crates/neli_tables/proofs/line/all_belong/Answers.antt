use Rattle.std.proofs.Common.{◌∙◌, sym}
use Rattle.neli_tables.proofs.Passed.{belongs_here}
use Rattle.neli_tables.proofs.line.all_belong.Goals as goal

pub returns-then-not-belongs : goal.returns-then-not-belongs
returns-then-not-belongs c =
    sym (belongs_here c.args.word c.args.class _ c.args.settings.now c.loop-setting.setting-index _ _
    c.loop-setting.invariant c.loop-setting-test.true (sym c.belongs.ensures ∙ c.if-not-belongs.true))

pub loop-setting-preserved : goal.loop-setting-preserved
loop-setting-preserved c =
    belongs_here c.args.word c.args.class _ c.args.settings.now c.loop-setting.setting-index _ _
    c.loop-setting.invariant c.loop-setting-test.true (sym c.belongs.ensures ∙ c.if-not-belongs.false)
