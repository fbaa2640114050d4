use Rattle.std.proofs.Common.{sym}
use Rattle.neli_tables_walk.proofs.Columns.{kind_alone}
use Rattle.neli_tables_walk.proofs.numbered.digits_by.Goals as goal

pub digits_as-requires-clause-kind : goal.digits_as-requires-clause-kind
digits_as-requires-clause-kind c =
    kind_alone c.args.options.now c.in_ok-plain_kind.field-0 (sym c.in_ok-plain_kind.ensures)
