use Rattle.std.proofs.Common.{◌≡◌, drop, map}
use Rattle.neli_tables.specs.Settings.{setting_view}
use Rattle.neli_tables.specs.Options.{options_from, options_in}
use Rattle.neli_tables.proofs.options.options_in.Given as goal

-- the options passed are noted
abbrev pub invariant-loop-setting : goal.invariant-loop-setting
invariant-loop-setting l =
    options_in (map setting_view l.settings)
    ≡ options_from l.options (drop l.setting-index (map setting_view l.settings))
