use Rattle.std.proofs.Common.{◌≡◌, map, take}
use Rattle.neli_tables.specs.Lines.{line_view}
use Rattle.neli_tables.specs.Options.{options_of}
use Rattle.neli_tables.proofs.options.all_options.Given as goal

-- what the options of the lines passed say
abbrev pub invariant-loop-line : goal.invariant-loop-line
invariant-loop-line l = l.all.items ≡ map options_of (map line_view (take l.line-index l.lines))
