use Rattle.std.proofs.Common.{◌≡◌, ℕ, List, ◌++◌, codes, drop, map}
use Rattle.std.specs.Fmt.{HasWritten, IsPlainFormatter}
use Rattle.std.specs.List.{flat_map}
use denote.Text.{Utf8}
use denote.Shadow.{shadow}
use Rattle.neli_tables.specs.Lines.{line_view}
use Rattle.neli_tables_walk.specs.FieldLists.{member_by, members_by}
use Rattle.neli_tables_walk.specs.Lists.{joined}
use Rattle.neli_tables_walk.proofs.ValueLists.{after}
use Rattle.neli_tables_walk.proofs.fields.write_members.Given as goal

-- what is written, and the members of the rows that are left, are all members
abbrev pub invariant-loop-index : goal.invariant-loop-index
invariant-loop-index g l =
    let by = g.V.FieldPrinter.printed in
    shadow (Utf8 l.comma) ×
    (IsPlainFormatter l.initial.f
    → (done : List ℕ) × HasWritten g.W.Write.write_str_gives l.initial.f done l.f
    × (done ++ after (codes ",") l.comma
    (flat_map (member_by by l.fields.table.now l.fields.bytes.now) (drop l.index (map line_view l.rows)))
    ≡ joined (codes ",") (members_by by l.fields.table.now l.fields.place l.fields.bytes.now)))
