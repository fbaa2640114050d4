use Rattle.std.proofs.Common.{◌∙◌, ap, refl, sym}
use Rattle.neli_tables.specs.Columns.{column_view}
use Rattle.neli_tables.specs.Lines.{line_view}
use Rattle.neli_tables_walk.specs.Cells.{value_json, value_text}
use Rattle.neli_tables_walk.proofs.Columns.{column_says, field_there, if_some_from}
use Rattle.neli_tables_walk.proofs.fields.number_at.Goals as goal

pub digits_as-requires-clause-kind : goal.digits_as-requires-clause-kind
digits_as-requires-clause-kind c =
    ap (λ o. o.kind) c.requires.options
    ∙ (column_says (line_view c.args._row.now) (column_view c.args.column.now) c.requires.column).kind

pub returns-clause-text : goal.returns-clause-text
returns-clause-text c =
    let row = line_view c.args._row.now in
    let column = column_view c.args.column.now in
    let part = c.in_ok-part.part.now in
    let there = c.in_ok-part.ensures.lookup.0 in
    if_some_from c.digits_as.result (λ n is. (
      part,
      field_there row column c.args.bytes.now part (column_says row column c.requires.column) there.0 there.1 there.2
          (c.digits_as.ensures.whole (rw is refl)),
      λ table. ap (λ o. value_text table o part) (sym c.requires.options) ∙ (rw is at c.digits_as.ensures.text) table,
    ))

pub returns-clause-json : goal.returns-clause-json
returns-clause-json c =
    let row = line_view c.args._row.now in
    let column = column_view c.args.column.now in
    let part = c.in_ok-part.part.now in
    let there = c.in_ok-part.ensures.lookup.0 in
    if_some_from c.digits_as.result (λ n is. (
      part,
      field_there row column c.args.bytes.now part (column_says row column c.requires.column) there.0 there.1 there.2
          (c.digits_as.ensures.whole (rw is refl)),
      λ table. ap (λ o. value_json table o part) (sym c.requires.options) ∙ (rw is at c.digits_as.ensures.json) table,
    ))
