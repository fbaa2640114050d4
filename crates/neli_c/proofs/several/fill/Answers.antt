use Rattle.std.proofs.Common.{rules}
use Rattle.neli_c_parts.specs.Several.{StepOf}
use Rattle.neli_c_parts.proofs.Steps.{each-stored, rest-stored, within-stored}
use Rattle.neli_c.proofs.several.fill.Goals as goal

pub loop-given-preserved : goal.loop-given-preserved
loop-given-preserved g c =
    let k = c.loop-given.given in
    let xs = c.loop-given.items in
    let was = c.loop-given.invariant in
    let r = c.next-code in
    let Step = StepOf (g.T.Walked.code_at c.args.bytes.now) (g.T.Walked.Gives c.args.bytes.now) in
    let step : Step c.loop-given.walk r.new.walk r.new.place =
    (first_of (search rules, cc), r.ensures.given (first_of (search rules, cc))) in (
      within-stored xs k _ c.loop-given-test.true,
      each-stored Step _ _ _ xs k _ c.loop-given-test.true was.1 step,
      rest-stored xs _ k _ was.2,
    )
