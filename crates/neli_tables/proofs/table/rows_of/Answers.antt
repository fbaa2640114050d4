use Rattle.std.proofs.Common.{◌∙◌}
use Rattle.neli_tables.proofs.PassedRows.{rows_below}
use Rattle.neli_tables.proofs.table.rows_of.Goals as goal

pub returns-then-section-lines-clause-rows : goal.returns-then-section-lines-clause-rows
returns-then-section-lines-clause-rows c = c.rows_among.ensures.rows ∙ rows_below c.args.lines.now c.args.section
