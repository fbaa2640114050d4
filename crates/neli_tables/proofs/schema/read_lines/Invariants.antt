use Rattle.std.proofs.Common.{◌≡◌, drop, map, None}
use Rattle.neli_tables.specs.Lines.{line_view}
use Rattle.neli_tables.specs.Names.{finds}
use Rattle.neli_tables.specs.Schemas.{before, lines_from}
use Rattle.neli_tables.specs.Text.{worded_view}
use Rattle.neli_tables.proofs.schema.read_lines.Given as goal

-- the lines so far stand before those to come
abbrev pub invariant-loop-line : goal.invariant-loop-line
invariant-loop-line l =
    lines_from (finds l.names) None (map worded_view l.worded)
    ≡ before (map line_view l.lines.items)
    (lines_from (finds l.names) l.section (drop l.line-index (map worded_view l.worded)))
