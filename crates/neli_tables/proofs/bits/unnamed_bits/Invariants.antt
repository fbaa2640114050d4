use Rattle.std.proofs.Common.{◌≡◌, drop, map}
use Rattle.neli_tables.specs.Lines.{line_view}
use Rattle.neli_tables.specs.Bits.{unnamed_bits}
use Rattle.neli_tables.proofs.bits.unnamed_bits.Given as goal

-- the rows passed took their bits
abbrev pub invariant-loop-row : goal.invariant-loop-row
invariant-loop-row l =
    unnamed_bits l.bits l.bits (map line_view l.rows)
    ≡ unnamed_bits l.bits l.left (drop l.row-index (map line_view l.rows))
