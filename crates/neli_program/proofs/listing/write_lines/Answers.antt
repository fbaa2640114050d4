use Rattle.std.proofs.Common.{rules, ◌≡◌, ◌≢◌, [], true, false, length, sym, ◌∙◌}
use Rattle.std.proofs.lemmas.Bool.{eqb-true}
use Rattle.neli_reader.specs.laws.Cuts.{empty_is}
use Rattle.neli_program.proofs.Listings.{line_refused, line_shorter, printed_end, printed_error, printed_more}
use Rattle.neli_program.proofs.PlainBodies.{listed-named}
use Rattle.neli_program.proofs.listing.write_lines.Goals as goal

pub loop-cursor-smaller : goal.loop-cursor-smaller
loop-cursor-smaller g c = line_shorter _ _ c.in-Ok.line c.in-Ok.ensures.value

pub loop-cursor-preserved : goal.loop-cursor-preserved
loop-cursor-preserved g c =
    printed_more c.args.bytes.now _ _ _ _ _ c.in-Ok.line c.loop-cursor.invariant c.in-Ok.ensures.value
    c.in_ok-writeln-in-Ok.ensures.bytes

pub returns-in-Err-clause-lists : goal.returns-in-Err-clause-lists
returns-in-Err-clause-lists g c =
    let left = c.loop-cursor.cursor.rest in
    let none : (true ≡ false → left ≡ []) × (left ≡ [] → true ≡ false) = search rules in
    let any : left ≢ [] = λ e. let f = none.1 e in cc in
    rw c.ending_at.ensures (printed_error c.args.bytes.now _ _ left c.in-Err.error c.loop-cursor.invariant any
    (line_refused left c.in-Err.error (λ begins. let no = c.in-Err.ensures.body begins in cc)
    c.in-Err.ensures.refused))

pub returns-in-Err-clause-named : goal.returns-in-Err-clause-named
returns-in-Err-clause-named g c =
    let lists = returns-in-Err-clause-lists g c in
    listed-named c.args.bytes.now lists.0 c.ending_at.result lists.1

pub returns-clause-lists : goal.returns-clause-lists
returns-clause-lists g c =
    let count : length c.rest.result.now ≡ 0 = eqb-true _ _ (sym c.is_empty.ensures ∙ c.loop-cursor-test.false) in
    printed_end c.args.bytes.now _ _ c.loop-cursor.cursor.rest c.loop-cursor.invariant (sym c.rest.ensures
    ∙ empty_is c.rest.result.now count)
