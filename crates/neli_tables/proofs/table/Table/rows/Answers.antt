use Rattle.std.proofs.Common.{sym}
use Rattle.neli_tables.proofs.PassedRows.{rows_seen}
use Rattle.neli_tables.proofs.table.Table.rows.Goals as goal

pub returns : goal.returns
returns c =
    rw (c.deref.ensures.value, sym c.self.view_is) (rows_seen c.self.inside.lines.items c.size-size.result c.args.section
    (rw c.self.view_is c.size-size.ensures.size))
