use Rattle.std.proofs.Common.{Some, None, map}
use Rattle.neli_tables.specs.Lines.{line_view}
use Rattle.neli_tables.proofs.PassedRows.{case_found}
use Rattle.neli_tables.proofs.table.case_at.Goals as goal

pub returns-in-Some : goal.returns-in-Some
returns-in-Some c =
    case_found c.rows_of-rows.result.now (map line_view c.args.lines.now) c.args.choice c.args.text.now
    (Some c.in-Some.index) c.in-Some.ensures.value c.rows_of-rows.ensures.rows

pub returns-in-None : goal.returns-in-None
returns-in-None c =
    case_found c.rows_of-rows.result.now (map line_view c.args.lines.now) c.args.choice c.args.text.now
    None c.in-None.ensures.value c.rows_of-rows.ensures.rows
