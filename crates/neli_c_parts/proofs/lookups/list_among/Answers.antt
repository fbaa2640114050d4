use Rattle.std.proofs.Common.{◌∙◌, sym}
use Rattle.neli_tables.specs.Lines.{line_view}
use Rattle.neli_c_parts.specs.Lookups.{is_list}
use Rattle.neli_c_parts.proofs.Looked.{position-map}
use Rattle.neli_c_parts.proofs.lookups.list_among.Goals as goal

pub returns : goal.returns
returns c =
    c.first_list.ensures ∙ sym (position-map line_view (is_list c.args.name.now) c.args.lines.now)
