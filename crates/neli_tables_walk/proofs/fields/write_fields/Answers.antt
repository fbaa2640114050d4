use Rattle.std.proofs.Common.{◌++◌, [], ap, rules, ◌∙◌}
use Rattle.std.specs.Fmt.{HasWritten}
use Rattle.std.specs.List.{flat_map}
use Rattle.std.specs.Option.{option_map}
use Rattle.std.proofs.Output.{has_written_append}
use Rattle.neli_tables.specs.Columns.{column_of, column_view}
use Rattle.neli_tables.specs.Lines.{line_view}
use Rattle.neli_tables.specs.Options.{no_options}
use Rattle.neli_tables_walk.specs.FieldLists.{field_text_by}
use Rattle.neli_tables_walk.proofs.FieldRows.{kept_here, lent_column, name_here, options_here}
use Rattle.neli_tables_walk.proofs.ValueLists.{rows-flat-step}
use Rattle.neli_tables_walk.proofs.fields.write_fields.Goals as goal

pub loop-index-init : goal.loop-index-init
loop-index-init g c = λ plain.
    let f = field_text_by g.V.FieldPrinter.printed c.args.fields.table.now c.args.fields.bytes.now in
    ([], search rules, ap (flat_map f) c.rows-rows.ensures)

pub write_field-requires-clause-row : goal.write_field-requires-clause-row
write_field-requires-clause-row g c =
    let row = c.index-rows-index.result in
    let rows = c.rows-rows.result.now in
    let at = c.loop-index.index in
    let within = c.loop-index-test.true in record {
      options = options_here rows c.row_options-all.result.now _ at row no_options c.rows-rows.ensures
          c.row_options-all.ensures within c.index-rows-index.is;
      column = lent_column c.as_ref.result c.index-columns-index.result c.as_ref.ensures.value
          ∙ kept_here (option_map column_view) column_of rows c.row_columns-columns.result.now _ at row
          c.index-columns-index.result c.rows-rows.ensures c.row_columns-columns.ensures within
          c.index-rows-index.is c.index-columns-index.is;
      name = name_here rows c.row_names-names.result.now _ at row c.rows-rows.ensures c.row_names-names.ensures
          within c.index-rows-index.is;
    }

pub loop-index-preserved : goal.loop-index-preserved
loop-index-preserved g c = λ plain.
    let i = c.loop-index.invariant plain in
    let f = field_text_by g.V.FieldPrinter.printed c.args.fields.table.now c.args.fields.bytes.now in
    let row = c.index-rows-index.result in
    let text = f (line_view row) in
    let field : HasWritten g.W.Write.write_str_gives c.loop-index.f text c.write_field.new.f = search rules in (
      i.0 ++ text,
      has_written_append _ _ _ _ _ _ i.1 field,
      rows-flat-step f line_view c.rows-rows.result.now c.loop-index.index row i.0 _ c.loop-index-test.true
          c.index-rows-index.is i.2,
    )
