use Rattle.std.proofs.Common.{sym}
use Rattle.neli_tables.proofs.Passed.{kind_here}
use Rattle.neli_tables.proofs.line.kind_in.Goals as goal

pub returns-in-Some : goal.returns-in-Some
returns-in-Some c =
    sym (kind_here _ c.args.settings.now c.loop-setting.setting-index _ _ c.loop-setting.invariant
    c.loop-setting-test.true (sym c.in-Some.ensures))

pub loop-setting-preserved : goal.loop-setting-preserved
loop-setting-preserved c =
    kind_here _ c.args.settings.now c.loop-setting.setting-index _ _ c.loop-setting.invariant
    c.loop-setting-test.true (sym c.in_default.ensures)
