use Rattle.std.proofs.Common.{◌≡◌, ℕ, ◌+◌, ◌-◌, ◌*◌, take, drop, ap, ◌∙◌, arith}
use Rattle.neli_tables_walk.specs.declared.hex.TheConstants.{HEX_PAIRS}
use Rattle.neli_tables_walk.proofs.Pairs.{IsAscii-hex_pairs, hex_pair_is}
use Rattle.neli_tables_walk.proofs.hex.byte_text.Goals as goal

pub range-requires-clause-start_boundary : goal.range-requires-clause-start_boundary
range-requires-clause-start_boundary c =
    λ _. (omega arith, λ a b. absurd (omega (arith, IsAscii-hex_pairs (c.args.byte * 2))))

pub range-requires-clause-end_boundary : goal.range-requires-clause-end_boundary
range-requires-clause-end_boundary c =
    (omega arith, λ a b. absurd (omega (arith, IsAscii-hex_pairs (c.args.byte * 2 + 2))))

pub returns : goal.returns
returns c =
    let at = c.args.byte * 2 in
    let width : at + 2 - at ≡ 2 = omega arith in
    c.range.ensures.value
    ∙ ap (λ (size : ℕ). take size (drop at HEX_PAIRS.now)) width
    ∙ hex_pair_is c.args.byte (omega arith)
