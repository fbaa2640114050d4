use Rattle.std.proofs.Common.{◌≡◌, drop, map}
use Rattle.neli_tables.specs.Names.{finds}
use Rattle.neli_tables.specs.Settings.{settings_from, settings_in, settings_view}
use Rattle.neli_tables.proofs.setting.settings_of.Given as goal

-- the options so far stand before those to come
abbrev pub invariant-loop-word : goal.invariant-loop-word
invariant-loop-word l =
    let words = map (λ word. word.now) l.words in
    settings_in (finds l.names) words
    ≡ settings_from (finds l.names) (settings_view l.settings) (drop l.word-index words)
