use Rattle.std.proofs.Common.{◌≡◌, ◌≤◌, ◌*◌, ◌^◌, sym, ◌∙◌, ap, arith}
use Rattle.neli_inputs.proofs.Powers.{fits, too_soon}
use Rattle.neli_inputs.proofs.time.power.Goals as goal

pub returns-in_err-power-clause-value : goal.returns-in_err-power-clause-value
returns-in_err-power-clause-value c =
    let large : 2 ^ 64 ≤ c.args.base ^ c.loop.counter * c.args.base =
    rw (sym c.loop.invariant.power) (omega (arith, c.in_err-power.ensures)) in
    c.from_residual.ensures ∙ sym (too_soon c.args.base c.loop.counter c.args.exponent c.requires c.loop-test.true large)

pub returns-clause-value : goal.returns-clause-value
returns-clause-value c =
    let all : c.loop.counter ≡ c.args.exponent = omega (arith, c.loop-test.false) in
    let power : c.loop.power ≡ c.args.base ^ c.args.exponent = c.loop.invariant.power ∙ ap (λ i. c.args.base ^ i) all in
    sym (rw (sym power) (fits c.loop.power c.loop.invariant.fits))
