use Rattle.neli_tables.specs.Lines.{line_view}
use Rattle.neli_c_parts.specs.Lookups.{is_named}
use Rattle.neli_c_parts.proofs.Looked.{first-seen}
use Rattle.neli_c_parts.proofs.lookups.named_among.Goals as goal

pub returns : goal.returns
returns c =
    first-seen line_view (is_named c.args.name.now) c.args.lines.now c.first_named.result c.first_named.ensures
