use Rattle.std.proofs.Common.{sym}
use Rattle.neli_tables.proofs.PassedRows.{word_here}
use Rattle.neli_tables.proofs.options.first_word.Goals as goal

pub returns-in-Some : goal.returns-in-Some
returns-in-Some c =
    sym (word_here _ c.args.settings.now c.loop-setting.setting-index _ _ c.loop-setting.invariant
    c.loop-setting-test.true c.in-Some.ensures)

pub loop-setting-preserved : goal.loop-setting-preserved
loop-setting-preserved c =
    word_here _ c.args.settings.now c.loop-setting.setting-index _ _ c.loop-setting.invariant
    c.loop-setting-test.true c.in_default.ensures
