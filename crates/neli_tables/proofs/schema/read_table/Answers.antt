use Rattle.std.proofs.Common.{◌≡◌, ◌∙◌, None, map, sym, ap}
use Rattle.neli_tables.specs.Names.{finds, place_in}
use Rattle.neli_tables.specs.Schemas.{lines_from, table_in}
use Rattle.neli_tables.specs.Text.{worded_in, worded_view}
use Rattle.neli_tables.proofs.Reading.{found_so}
use Rattle.neli_tables.proofs.schema.read_table.Goals as goal

pub returns-clause-lines : goal.returns-clause-lines
returns-clause-lines c =
    let first = ap (map worded_view) c.deref.ensures.value ∙ c.in_ok-worded.ensures in
    let second = ap (map worded_view) c.deref-2.ensures.value ∙ c.in_ok-worded.ensures in
    let same : table_in c.args.text.now ≡ lines_from (finds c.in_ok-names.names) None (map worded_view c.deref-2.result.now) =
    sym (found_so (finds c.in_ok-names.names) (λ w name. place_in w name 0 (worded_in c.args.text.now)) None _
    (λ w name. c.in_ok-names.ensures w name ∙ ap (place_in w name 0) first)
    ∙ ap (lines_from (λ w name. place_in w name 0 (worded_in c.args.text.now)) None) second) in
    rw same c.read_lines.ensures.lines

pub returns-clause-refused : goal.returns-clause-refused
returns-clause-refused c =
    let first = ap (map worded_view) c.deref.ensures.value ∙ c.in_ok-worded.ensures in
    let second = ap (map worded_view) c.deref-2.ensures.value ∙ c.in_ok-worded.ensures in
    let same : table_in c.args.text.now ≡ lines_from (finds c.in_ok-names.names) None (map worded_view c.deref-2.result.now) =
    sym (found_so (finds c.in_ok-names.names) (λ w name. place_in w name 0 (worded_in c.args.text.now)) None _
    (λ w name. c.in_ok-names.ensures w name ∙ ap (place_in w name 0) first)
    ∙ ap (lines_from (λ w name. place_in w name 0 (worded_in c.args.text.now)) None) second) in
    rw same c.read_lines.ensures.refused
