use Rattle.std.proofs.Common.{◌≡◌, drop, map}
use Rattle.neli_tables.specs.Settings.{has_slot, setting_view}
use Rattle.neli_tables.proofs.setting.has_slot.Given as goal

-- none of those so far has the number
abbrev pub invariant-loop-setting : goal.invariant-loop-setting
invariant-loop-setting l =
    has_slot (map setting_view l.settings) l.fn.said ≡ has_slot (drop l.setting-index (map setting_view l.settings)) l.fn.said
