use Rattle.std.proofs.Common.{Some, None}
use Rattle.neli_tables.proofs.PassedRows.{rows_here}
use Rattle.neli_tables.proofs.table.rows_among.Goals as goal

pub returns-in-Some-clause-rows : goal.returns-in-Some-clause-rows
returns-in-Some-clause-rows c = rows_here c.args.lines.now (Some c.in-Some.index) c.in-Some.ensures.value

pub returns-in-None-clause-rows : goal.returns-in-None-clause-rows
returns-in-None-clause-rows c = rows_here c.args.lines.now None c.in-None.ensures.value
