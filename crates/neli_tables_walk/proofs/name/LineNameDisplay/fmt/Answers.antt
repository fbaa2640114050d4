use Rattle.std.proofs.Common.{ap, sym, ◌∙◌}
use Rattle.std.specs.Prelude.{slice_get}
use Rattle.std.proofs.Output.{has_written_of_eq}
use Rattle.neli_tables.specs.Plain.{name_view}
use Rattle.neli_tables_walk.proofs.ValueTexts.{kept_name}
use Rattle.neli_tables_walk.proofs.name.LineNameDisplay.fmt.Goals as goal

pub returns-in-Some-clause-writes : goal.returns-in-Some-clause-writes
returns-in-Some-clause-writes g c = λ plain ok.
    has_written_of_eq _ _ _ _ _
    (kept_name (slice_get c.args.self.now.table.now c.args.self.now.place) _
    (ap name_view (sym c.in-Some.is) ∙ c.plain_name.ensures))
    (c.write_str.ensures.writes plain ok)
