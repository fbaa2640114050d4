use Rattle.std.proofs.Common.{sym}
use Rattle.neli_tables.specs.RowKeys.{way_number}
use Rattle.neli_tables.proofs.PassedRows.{message_here}
use Rattle.neli_tables.proofs.tables.message_from.Goals as goal

pub returns-in-Some : goal.returns-in-Some
returns-in-Some c =
    sym (message_here c.args.protocol (way_number c.args.way) c.args.first c.args.number _ c.args.tables.now
    c.loop-index.index c.index-tables-index.result _ c.loop-index.invariant c.loop-index-test.true
    c.index-tables-index.is c.in-Some.ensures)

pub loop-index-preserved : goal.loop-index-preserved
loop-index-preserved c =
    message_here c.args.protocol (way_number c.args.way) c.args.first c.args.number _ c.args.tables.now
    c.loop-index.index c.index-tables-index.result _ c.loop-index.invariant c.loop-index-test.true
    c.index-tables-index.is c.in_default.ensures
