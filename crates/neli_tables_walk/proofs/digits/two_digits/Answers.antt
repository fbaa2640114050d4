use Rattle.std.proofs.Common.{◌≡◌, ℕ, ◌+◌, ◌-◌, ◌*◌, take, drop, ap, ◌∙◌, arith}
use Rattle.neli_tables_walk.specs.declared.digits.TheConstants.{PAIRS}
use Rattle.neli_tables_walk.proofs.Pairs.{IsAscii-pairs, pair_is}
use Rattle.neli_tables_walk.proofs.digits.two_digits.Goals as goal

pub range-requires-clause-start_boundary : goal.range-requires-clause-start_boundary
range-requires-clause-start_boundary c =
    λ _. (omega arith, λ a b. absurd (omega (arith, IsAscii-pairs (c.args.number * 2))))

pub range-requires-clause-end_boundary : goal.range-requires-clause-end_boundary
range-requires-clause-end_boundary c =
    (omega arith, λ a b. absurd (omega (arith, IsAscii-pairs (c.args.number * 2 + 2))))

pub returns : goal.returns
returns c =
    let at = c.args.number * 2 in
    let width : at + 2 - at ≡ 2 = omega arith in
    c.range.ensures.value
    ∙ ap (λ (size : ℕ). take size (drop at PAIRS.now)) width
    ∙ pair_is c.args.number c.requires
