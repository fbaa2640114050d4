use Rattle.std.proofs.Common.{◌∙◌, ap, find}
use Rattle.std.specs.Str.{bytes_eq}
use Rattle.neli_tables_generic.specs.Tables.{name_of}
use Rattle.neli_tables_generic.proofs.table.GenericTable.named.Goals as goal

pub returns : goal.returns
returns c = c.copied.ensures ∙ c.find_table.ensures
    ∙ ap (find (λ t. bytes_eq (name_of t) c.args.name.now)) c.all.ensures
