use Rattle.neli_tables.specs.Lines.{line_view}
use Rattle.neli_c_parts.specs.Lookups.{has_number}
use Rattle.neli_c_parts.proofs.Looked.{first-seen}
use Rattle.neli_c_parts.proofs.lookups.numbered_among.Goals as goal

pub returns : goal.returns
returns c =
    first-seen line_view (has_number c.args.number) c.args.lines.now c.first_numbered.result
    c.first_numbered.ensures
