use Rattle.std.proofs.Common.{◌≡◌, map, take}
use Rattle.neli_tables.specs.FoundRows.{size_before, sizes_of}
use Rattle.neli_tables.specs.Lines.{line_view}
use Rattle.neli_tables.proofs.table.all_sizes.Given as goal

-- the sizes of the sections that the lines passed begin, and the last of them
abbrev pub invariant-loop-place : goal.invariant-loop-place
invariant-loop-place l =
    (l.sizes.items ≡ take l.place (sizes_of (map line_view l.lines)))
    × (l.size ≡ size_before (map line_view l.lines) l.place)
