use Rattle.std.proofs.Common.{◌≡◌, drop, map}
use Rattle.std.specs.Option.{option_or}
use Rattle.neli_tables.specs.Lines.{line_view}
use Rattle.neli_tables.specs.Index.{finds}
use Rattle.neli_tables.specs.RowKeys.{Key, place_from, place_of}
use Rattle.neli_tables.proofs.index.Index.of.Given as goal

-- the lines passed are noted
abbrev pub invariant-loop-place : goal.invariant-loop-place
invariant-loop-place l =
    (key : Key) → place_of key (map line_view l.lines)
    ≡ option_or (finds l.index key) (place_from key l.section l.place (drop l.place (map line_view l.lines)))
