use Rattle.std.proofs.Common.{◌∙◌, ap}
use Rattle.std.specs.Option.{option_map}
use Rattle.neli_errno.specs.Errnos.{row_view}
use Rattle.neli_errno.proofs.Rows.{find_seen}
use Rattle.neli_errno.proofs.table.row_of.Goals as goal

pub returns : goal.returns
returns c = ap (option_map row_view) (c.copied.ensures ∙ c.find_row.ensures)
    ∙ find_seen c.errno_rows.result.now c.args.number c.errno_rows.ensures
