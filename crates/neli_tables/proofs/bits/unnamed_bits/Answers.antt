use Rattle.neli_tables.specs.Lines.{line_view}
use Rattle.neli_tables.specs.Bits.{unnamed_bits}
use Rattle.neli_tables.proofs.PassedRows.{turn_at}
use Rattle.neli_tables.proofs.bits.unnamed_bits.Goals as goal

pub loop-row-preserved : goal.loop-row-preserved
loop-row-preserved c =
    rw c.left_by-left.ensures (turn_at line_view (unnamed_bits c.args.bits c.loop-row.left) _ c.args.rows.now
    c.loop-row.row-index c.row-item.result c.loop-row.invariant c.loop-row-test.true c.row-item.is)
