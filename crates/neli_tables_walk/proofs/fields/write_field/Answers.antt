use Rattle.std.proofs.Common.{◌∙◌, ap, rules, sym}
use Rattle.std.specs.Fmt.{HasWritten}
use Rattle.std.specs.String.{string_bytes}
use Rattle.std.proofs.Output.{has_written_append, has_written_of_eq}
use Rattle.neli_tables.specs.Columns.{column_view}
use Rattle.neli_tables.specs.Lines.{line_view}
use Rattle.neli_tables_walk.specs.Numbers.{plain_number_json}
use Rattle.neli_tables_walk.specs.Rows.{columns_view}
use Rattle.neli_tables_walk.proofs.Columns.{field_numbered}
use Rattle.neli_tables_walk.proofs.fields.write_field.Goals as goal

pub returns-in-Some-number : goal.returns-in-Some-number
returns-in-Some-number g c = record {
  writes = λ plain ok.
      let column = c.in-Some.column.now in
      let number = c.in-Some-number.number in
      let name : HasWritten g.W.Write.write_str_gives c.args.f.now (string_bytes column.text) c.write_str.new.self = search rules in
      let digits : HasWritten g.W.Write.write_str_gives c.write_str.new.self (plain_number_json number) c.fmt.new.f = search rules in
      has_written_of_eq _ _ _ _ _
      (field_numbered g.V.FieldPrinter.printed g.V.FieldPrinter.before c.args.table.now (line_view c.args.row.line.now)
      (column_view column) c.args.bytes.now number (sym c.requires.row.column ∙ ap columns_view c.in-Some.is)
      c.in-Some-number.ensures c.requires.blank)
      (has_written_append _ _ _ _ _ _ name digits);
}
