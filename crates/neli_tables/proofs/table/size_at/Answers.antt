use Rattle.std.proofs.Common.{◌∙◌, ◌<◌, ◌-◌, ap, arith, length, map, sym}
use Rattle.std.proofs.lemmas.Bool.Decides.{nat_tests}
use Rattle.std.proofs.lemmas.List.{length-map}
use Rattle.neli_tables.specs.FoundRows.{size_before}
use Rattle.neli_tables.specs.Lines.{line_view}
use Rattle.neli_tables.proofs.PassedRows.{size_next, sizes_get}
use Rattle.neli_tables.proofs.table.size_at.Goals as goal

pub returns-then-before-gt0 : goal.returns-then-before-gt0
returns-then-before-gt0 c =
    let lines = map line_view c.args.lines.now in
    let is = c.requires.before in
    let some : 0 < size_before lines c.args.place = grind (arith, nat_tests, is) in
    ap (λ n. n - 1) is ∙ size_next lines c.args.place some

pub returns-else-before-gt0 : goal.returns-else-before-gt0
returns-else-before-gt0 c =
    let lines = map line_view c.args.lines.now in
    let within : c.args.place < length lines = omega (arith, c.requires.within, length-map c.args.lines.now line_view) in
    sym (length-map c.rows_of.result.now line_view) ∙ ap length c.rows_of.ensures.rows
    ∙ sym (sizes_get lines c.args.place 0 within)
