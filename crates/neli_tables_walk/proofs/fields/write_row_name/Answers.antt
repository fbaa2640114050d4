use Rattle.std.proofs.Common.{ap, sym, ◌∙◌}
use Rattle.std.proofs.Output.{has_written_of_eq}
use Rattle.neli_tables.specs.Lines.{line_view}
use Rattle.neli_tables.specs.Plain.{name_view}
use Rattle.neli_tables_walk.proofs.ValueTexts.{kept_text}
use Rattle.neli_tables_walk.proofs.fields.write_row_name.Goals as goal

pub returns-in-Some : goal.returns-in-Some
returns-in-Some g c = record {
  writes = λ plain ok.
      has_written_of_eq _ _ _ _ _
      (kept_text (line_view c.args.row.now) _ (ap name_view (sym c.in-Some.is) ∙ c.requires))
      (c.write_str.ensures.writes plain ok);
}
