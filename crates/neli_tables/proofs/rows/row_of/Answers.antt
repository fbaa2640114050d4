use Rattle.std.proofs.Common.{◌∙◌, ap}
use Rattle.std.specs.Option.{option_map}
use Rattle.std.specs.Str.{bytes_eq}
use Rattle.neli_tables.specs.Rows.{row_view}
use Rattle.neli_tables.proofs.Found.{find_viewed}
use Rattle.neli_tables.proofs.rows.row_of.Goals as goal

pub returns : goal.returns
returns g c = ap (option_map row_view) (c.copied.ensures ∙ c.find_row.ensures)
    ∙ find_viewed row_view (λ row. bytes_eq row.0 c.args.name.now) c.args.rows.now
