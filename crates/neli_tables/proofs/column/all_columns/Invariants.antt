use Rattle.std.proofs.Common.{◌≡◌, map, take}
use Rattle.std.specs.Option.{option_map}
use Rattle.neli_tables.specs.Columns.{column_of, column_view}
use Rattle.neli_tables.specs.Lines.{line_view}
use Rattle.neli_tables.proofs.column.all_columns.Given as goal

-- the columns of the lines passed
abbrev pub invariant-loop-line : goal.invariant-loop-line
invariant-loop-line l =
    map (option_map column_view) l.columns.items ≡ map column_of (map line_view (take l.line-index l.lines))
