use Rattle.neli_tables.specs.Settings.{setting_view}
use Rattle.neli_tables.specs.Options.{options_from}
use Rattle.neli_tables.proofs.PassedRows.{turn}
use Rattle.neli_tables.proofs.options.options_in.Goals as goal

pub loop-setting-preserved : goal.loop-setting-preserved
loop-setting-preserved c =
    rw c.note.ensures (turn setting_view (options_from c.loop-setting.options) _ c.args.settings.now
    c.loop-setting.setting-index _ c.loop-setting.invariant c.loop-setting-test.true)
