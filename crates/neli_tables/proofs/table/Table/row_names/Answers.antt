use Rattle.std.proofs.Common.{map, sym}
use Rattle.neli_tables.specs.Lines.{line_view}
use Rattle.neli_tables.specs.Plain.{name_view, plain_name}
use Rattle.neli_tables.proofs.PassedRows.{rows_viewed}
use Rattle.neli_tables.proofs.table.Table.row_names.Goals as goal

pub returns : goal.returns
returns c =
    rw (c.deref.ensures.value, sym c.self.view_is) (rows_viewed name_view plain_name c.self.inside.names.items
    (map line_view c.self.inside.lines.items) c.size-size.result c.args.section c.self.invariant.3
    (rw c.self.view_is c.size-size.ensures.size))
