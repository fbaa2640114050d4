use Rattle.std.proofs.Common.{◌≡◌, drop, map}
use Rattle.neli_tables.specs.Lines.{all_belong}
use Rattle.neli_tables.specs.Settings.{setting_view}
use Rattle.neli_tables.proofs.line.all_belong.Given as goal

-- all options so far are allowed there
abbrev pub invariant-loop-setting : goal.invariant-loop-setting
invariant-loop-setting l =
    all_belong l.word l.class (map setting_view l.settings)
    ≡ all_belong l.word l.class (drop l.setting-index (map setting_view l.settings))
