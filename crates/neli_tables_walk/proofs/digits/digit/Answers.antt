use Rattle.std.proofs.Common.{◌≡◌, ℕ, ◌+◌, ◌-◌, ◌*◌, take, drop, ap, ◌∙◌, arith}
use Rattle.neli_tables_walk.specs.declared.digits.TheConstants.{PAIRS}
use Rattle.neli_tables_walk.proofs.Pairs.{digit_is}
use Rattle.neli_tables_walk.proofs.digits.digit.Goals as goal

pub returns : goal.returns
returns c =
    let at = c.args.number * 2 + 1 in
    let width : at + 1 - at ≡ 1 = omega arith in
    c.range.ensures.value
    ∙ ap (λ (size : ℕ). take size (drop at PAIRS.now)) width
    ∙ digit_is c.args.number c.requires
