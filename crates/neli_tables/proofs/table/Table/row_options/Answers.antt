use Rattle.std.proofs.Common.{map, sym}
use Rattle.neli_tables.specs.Lines.{line_view}
use Rattle.neli_tables.specs.Options.{options_of}
use Rattle.neli_tables.proofs.PassedRows.{rows_kept}
use Rattle.neli_tables.proofs.table.Table.row_options.Goals as goal

pub returns : goal.returns
returns c =
    rw (c.deref.ensures.value, sym c.self.view_is) (rows_kept options_of c.self.inside.options.items
    (map line_view c.self.inside.lines.items) c.size-size.result c.args.section c.self.invariant.2
    (rw c.self.view_is c.size-size.ensures.size))
