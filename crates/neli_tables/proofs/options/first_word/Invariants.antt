use Rattle.std.proofs.Common.{◌≡◌, drop, map}
use Rattle.neli_tables.specs.Settings.{setting_view}
use Rattle.neli_tables.specs.Options.{first_word}
use Rattle.neli_tables.proofs.options.first_word.Given as goal

-- no option passed has a word
abbrev pub invariant-loop-setting : goal.invariant-loop-setting
invariant-loop-setting l =
    first_word (map setting_view l.settings) ≡ first_word (drop l.setting-index (map setting_view l.settings))
