use Rattle.std.proofs.Common.{◌++◌, [], codes, get_or, Some, None, List, ℕ, ap, sym, refl, ◌∙◌, rules, append_assoc}
use Rattle.std.specs.Fmt.{HasWritten}
use Rattle.std.specs.List.{flat_map}
use Rattle.std.specs.Option.{option_map}
use Rattle.std.specs.String.{string_bytes}
use Rattle.std.proofs.Output.{has_written_append, has_written_of_eq}
use Rattle.neli_tables.specs.Columns.{column_of, column_view}
use Rattle.neli_tables.specs.Lines.{line_view}
use Rattle.neli_tables.specs.Options.{no_options}
use Rattle.neli_tables_walk.specs.FieldLists.{member_by, member_json_with}
use Rattle.neli_tables_walk.specs.Lists.{joined}
use Rattle.neli_tables_walk.specs.Names.{name_json}
use Rattle.neli_tables_walk.specs.Numbers.{plain_number_json}
use Rattle.neli_tables_walk.proofs.Columns.{member_numbered}
use Rattle.neli_tables_walk.proofs.FieldRows.{kept_here, member_has, member_printed, name_here, options_here}
use Rattle.neli_tables_walk.proofs.ValueLists.{after-first, rows-after-skip, rows-after-step}
use Rattle.neli_tables_walk.proofs.fields.write_members.Goals as goal
use Rattle.neli_tables_walk.proofs.fields.write_members.Goals.{in-Some-field_bytes+in_ok-write_key+in_ok-print, in_default-field_bytes}

pub loop-index-init : goal.loop-index-init
loop-index-init g c =
    let m = member_by g.V.FieldPrinter.printed c.args.fields.table.now c.args.fields.bytes.now in (
      search rules,
      λ plain. ([], search rules, after-first (codes ",") _ ∙ ap (λ ls. joined (codes ",") (flat_map m ls)) c.rows-rows.ensures),
    )

pub number-requires-clause-options : goal.number-requires-clause-options
number-requires-clause-options g c =
    options_here c.rows-rows.result.now c.row_options-all.result.now _ c.loop-index.index c.index-rows-index.result
    no_options c.rows-rows.ensures c.row_options-all.ensures c.loop-index-test.true c.index-rows-index.is

pub number-requires-clause-column : goal.number-requires-clause-column
number-requires-clause-column g c =
    sym (kept_here (option_map column_view) column_of c.rows-rows.result.now c.row_columns-columns.result.now _
    c.loop-index.index c.index-rows-index.result c.index-columns-index.result c.rows-rows.ensures
    c.row_columns-columns.ensures c.loop-index-test.true c.index-rows-index.is c.index-columns-index.is)
    ∙ ap (option_map column_view) c.in-Some.is

pub loop-index-preserved-in-Some-number : goal.loop-index-preserved-in-Some-number
loop-index-preserved-in-Some-number g c = (
  search rules,
  λ plain.
      let i = c.loop-index.invariant.1 plain in
      let by = g.V.FieldPrinter.printed in
      let table = c.args.fields.table.now in
      let bytes = c.args.fields.bytes.now in
      let row = c.index-rows-index.result in
      let comma = c.loop-index.comma.now in
      let key = string_bytes c.in-Some.column.json in
      let digits = plain_number_json c.in-Some-number.number in
      let first : HasWritten g.W.Write.write_str_gives c.loop-index.f comma c.write_str.new.self = search rules in
      let second : HasWritten g.W.Write.write_str_gives c.write_str.new.self key c.write_str-in-Some-number.new.self = search rules in
      let here =
      sym (kept_here (option_map column_view) column_of c.rows-rows.result.now c.row_columns-columns.result.now _
      c.loop-index.index row c.index-columns-index.result c.rows-rows.ensures c.row_columns-columns.ensures
      c.loop-index-test.true c.index-rows-index.is c.index-columns-index.is)
      ∙ ap (option_map column_view) c.in-Some.is in
      let third : HasWritten g.W.Write.write_str_gives c.write_str-in-Some-number.new.self digits c.fmt.new.f = search rules in (
        i.0 ++ (comma ++ (key ++ digits)),
        has_written_append _ _ _ _ _ _ i.1
            (has_written_append _ _ _ _ _ _ first (has_written_append _ _ _ _ _ _ second third)),
        rows-after-step (member_by by table bytes) (λ (ts : List (List ℕ)). ts) line_view c.rows-rows.result.now
            c.loop-index.index row c.loop-index-test.true c.index-rows-index.is (codes ",") comma i.0 _
            (key ++ digits) (key ++ digits)
            (member_numbered by g.V.FieldPrinter.before table (line_view row) (column_view c.in-Some.column) bytes
            c.in-Some-number.number here c.in-Some-number.ensures c.requires.blank)
            (λ ts. refl) i.2,
      ),
)

pub loop-index-preserved : goal.loop-index-preserved
loop-index-preserved g c =
    let by = g.V.FieldPrinter.printed in
    let table = c.args.fields.table.now in
    let bytes = c.args.fields.bytes.now in
    let row = c.index-rows-index.result in
    let rows = c.rows-rows.result.now in
    let at = c.loop-index.index in
    let o = get_or c.row_options-all.result.now at no_options in
    let same = options_here rows c.row_options-all.result.now _ at row no_options c.rows-rows.ensures
    c.row_options-all.ensures c.loop-index-test.true c.index-rows-index.is in
    let h = λ (ts : List (List ℕ)). ts in
    elim c.match-field_bytes.branch [
      | in-Some-field_bytes+in_ok-write_key+in_ok-print w ↦ rw (w.f-is, w.comma-is) (
        search rules,
        λ plain.
            let i = c.loop-index.invariant.1 plain in
            let part = w.in-Some-field_bytes.part.now in
            let comma = c.loop-index.comma.now in
            let text = member_json_with by table row.name.now o part in
            let whole = append_assoc comma (name_json row.name.now ++ codes ":") (by table o part)
            ∙ ap (λ t. comma ++ t) (sym (member_printed by table bytes (line_view row) o same part)) in
            let name : HasWritten g.W.Write.write_str_gives c.loop-index.f (comma ++ (name_json row.name.now ++ codes ":")) w.write_key.new.f = search rules in
            let value : HasWritten g.W.Write.write_str_gives w.write_key.new.f (by table o part) w.print.new.f = search rules in (
              i.0 ++ (comma ++ text),
              has_written_append _ _ _ _ _ _ i.1 (has_written_of_eq _ _ _ _ _ whole (has_written_append _ _ _ _ _ _ name value)),
              rows-after-step (member_by by table bytes) h line_view rows at row c.loop-index-test.true
                  c.index-rows-index.is (codes ",") comma i.0 _ text text
                  (member_has by table bytes (line_view row) o same (Some part) w.in-Some-field_bytes.ensures) (λ ts. refl) i.2,
            ),
      )
      | in_default-field_bytes w ↦ rw (w.f-is, w.comma-is) (
        c.loop-index.invariant.0,
        λ plain.
            let i = c.loop-index.invariant.1 plain in (
              i.0,
              i.1,
              rows-after-skip (member_by by table bytes) h line_view rows at row c.loop-index-test.true
                  c.index-rows-index.is (codes ",") c.loop-index.comma.now i.0 _
                  (member_has by table bytes (line_view row) o same None w.in_default-field_bytes.ensures) i.2,
            ),
      )
    ]

pub write_key-requires : goal.write_key-requires
write_key-requires g c =
    name_here c.rows-rows.result.now c.row_names-names.result.now _ c.loop-index.index c.index-rows-index.result
    c.rows-rows.ensures c.row_names-names.ensures c.loop-index-test.true c.index-rows-index.is
