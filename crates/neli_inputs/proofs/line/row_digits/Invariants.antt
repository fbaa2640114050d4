use Rattle.std.proofs.Common.{◌≡◌, ◌++◌, drop, map}
use Rattle.std.specs.Option.{option_map}
use Rattle.neli_inputs.specs.Lines.{row_digits}
use Rattle.neli_inputs.proofs.line.row_digits.Given as goal

-- the digits so far stand before those to come
abbrev pub invariant-loop-index : goal.invariant-loop-index
invariant-loop-index l =
    row_digits 0 (map (λ w. w.now) l.words)
    ≡ option_map (λ digits. l.digits.items ++ digits)
    (row_digits l.index (map (λ w. w.now) (drop l.index l.words)))
