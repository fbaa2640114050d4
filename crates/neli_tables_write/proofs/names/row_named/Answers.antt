use Rattle.std.proofs.Common.{Some, None}
use Rattle.neli_tables_write.proofs.NamedRows.{named_found}
use Rattle.neli_tables_write.proofs.names.row_named.Goals as goal

pub returns-in-Some : goal.returns-in-Some
returns-in-Some c =
    named_found c.rows.result.now c.args.table.now c.args.section c.args.name.now (Some c.in-Some.index)
    c.in-Some.ensures.value c.rows.ensures

pub returns-in-None : goal.returns-in-None
returns-in-None c =
    named_found c.rows.result.now c.args.table.now c.args.section c.args.name.now None c.in-None.ensures.value
    c.rows.ensures
