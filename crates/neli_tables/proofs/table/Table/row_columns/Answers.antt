use Rattle.std.proofs.Common.{map, sym}
use Rattle.std.specs.Option.{option_map}
use Rattle.neli_tables.specs.Lines.{line_view}
use Rattle.neli_tables.specs.Columns.{column_of, column_view}
use Rattle.neli_tables.proofs.PassedRows.{rows_viewed}
use Rattle.neli_tables.proofs.table.Table.row_columns.Goals as goal

pub returns : goal.returns
returns c =
    rw (c.deref.ensures.value, sym c.self.view_is) (rows_viewed (option_map column_view) column_of c.self.inside.columns.items
    (map line_view c.self.inside.lines.items) c.size-size.result c.args.section c.self.invariant.4
    (rw c.self.view_is c.size-size.ensures.size))
