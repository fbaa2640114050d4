use Rattle.std.proofs.Common.{◌≡◌, drop, map}
use Rattle.neli_inputs.specs.Lines.{is_addressed}
use Rattle.neli_inputs.proofs.text.is_addressed.Given as goal

-- the lines so far do not show it
abbrev pub invariant-loop-text : goal.invariant-loop-text
invariant-loop-text l =
    is_addressed (map (λ t. t.now) l.texts) ≡ is_addressed (map (λ t. t.now) (drop l.text-index l.texts))
