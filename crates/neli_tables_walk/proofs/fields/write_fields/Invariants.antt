use Rattle.std.proofs.Common.{◌≡◌, List, ℕ, ◌++◌, drop, map}
use Rattle.std.specs.Fmt.{HasWritten, IsPlainFormatter}
use Rattle.std.specs.List.{flat_map}
use Rattle.neli_tables.specs.Lines.{line_view}
use Rattle.neli_tables_walk.specs.FieldLists.{field_text_by, fields_text_by}
use Rattle.neli_tables_walk.proofs.fields.write_fields.Given as goal

-- what is written, and the fields of the rows that are left, are all fields
abbrev pub invariant-loop-index : goal.invariant-loop-index
invariant-loop-index g l =
    let by = g.V.FieldPrinter.printed in
    IsPlainFormatter l.initial.f
    → (done : List ℕ) × HasWritten g.W.Write.write_str_gives l.initial.f done l.f
    × (done ++ flat_map (field_text_by by l.fields.table.now l.fields.bytes.now) (drop l.index (map line_view l.rows))
    ≡ fields_text_by by l.fields.table.now l.fields.place l.fields.bytes.now)
