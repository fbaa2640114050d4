use Rattle.std.proofs.Common.{◌≡◌, map, take}
use Rattle.neli_tables.specs.Lines.{line_view}
use Rattle.neli_tables.specs.Plain.{name_view, plain_name}
use Rattle.neli_tables.proofs.plain.plain_names.Given as goal

-- the names of the lines passed
abbrev pub invariant-loop-line : goal.invariant-loop-line
invariant-loop-line l = map name_view l.names.items ≡ map plain_name (map line_view (take l.line-index l.lines))
