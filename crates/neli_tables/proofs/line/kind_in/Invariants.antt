use Rattle.std.proofs.Common.{◌≡◌, drop, map}
use Rattle.neli_tables.specs.Lines.{kind_in}
use Rattle.neli_tables.specs.Settings.{setting_view}
use Rattle.neli_tables.proofs.line.kind_in.Given as goal

-- no option so far is a kind
abbrev pub invariant-loop-setting : goal.invariant-loop-setting
invariant-loop-setting l =
    kind_in (map setting_view l.settings) ≡ kind_in (drop l.setting-index (map setting_view l.settings))
