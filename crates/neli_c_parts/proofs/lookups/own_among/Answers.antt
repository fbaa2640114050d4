use Rattle.neli_tables.specs.Lines.{line_view}
use Rattle.neli_c_parts.specs.Lookups.{is_own}
use Rattle.neli_c_parts.proofs.Looked.{first-seen}
use Rattle.neli_c_parts.proofs.lookups.own_among.Goals as goal

pub returns : goal.returns
returns c =
    first-seen line_view (is_own c.args.name.now) c.args.lines.now c.first_own.result c.first_own.ensures
