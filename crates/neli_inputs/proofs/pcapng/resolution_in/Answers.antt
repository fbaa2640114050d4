use Rattle.std.proofs.Common.{◌∙◌, ◌≤◌, ◌<◌, ◌+◌, length, drop, arith, length-drop, ap, sym}
use Rattle.std.proofs.lemmas.List.{take_rest}
use Rattle.neli_inputs.specs.Pcapng.{padded}
use Rattle.neli_inputs.proofs.Blocks.{options-last, options-more}
use Rattle.neli_inputs.proofs.pcapng.resolution_in.Goals as goal

pub returns-then-rest-size : goal.returns-then-rest-size
returns-then-rest-size c =
    let all = take_rest c.args.options.now c.loop-place.place in
    let code = rw all at c.half_in.ensures in
    let again = rw all at c.half_in-in-loop-place.ensures in
    let size = rw all at c.half_in-in-loop-place-2.ensures in
    let large : 5 ≤ length (drop c.loop-place.place c.args.options.now) = rw all at c.if-rest-lt5.false in
    let past : length (drop c.loop-place.place c.args.options.now) < 4 + c.padded-size.result =
    rw all at c.if-rest-size.true in
    options-last c.args.order c.args.options.now c.loop-place.place c.padded-size.result large
    (rw code at c.if-half_in-eq0.false) (rw again at c.if-half_in-eq9.false)
    (c.padded-size.ensures.value ∙ ap padded size) past
    ∙ sym c.loop-place.invariant.same

pub loop-place-preserved : goal.loop-place-preserved
loop-place-preserved c =
    let all = take_rest c.args.options.now c.loop-place.place in
    let code = rw all at c.half_in.ensures in
    let again = rw all at c.half_in-in-loop-place.ensures in
    let size = rw all at c.half_in-in-loop-place-2.ensures in
    let large : 5 ≤ length (drop c.loop-place.place c.args.options.now) = rw all at c.if-rest-lt5.false in
    let there : 4 + c.padded-size.result ≤ length (drop c.loop-place.place c.args.options.now) =
    rw all at c.if-rest-size.false in record {
      within = omega (arith, there, length-drop c.loop-place.place c.args.options.now);
      same =
          c.loop-place.invariant.same
          ∙ options-more c.args.order c.args.options.now c.loop-place.place c.padded-size.result large
          (rw code at c.if-half_in-eq0.false) (rw again at c.if-half_in-eq9.false)
          (c.padded-size.ensures.value ∙ ap padded size);
    }
