use Rattle.std.proofs.Common.{◌≡◌, length}
use Rattle.neli_inputs.specs.Lines.{skip_blanks}
use Rattle.neli_inputs.proofs.line.skip_blanks.Given as goal

-- only blanks were passed
abbrev pub invariant-loop-text : goal.invariant-loop-text
invariant-loop-text l = skip_blanks l.text ≡ skip_blanks l.fn.text

abbrev pub decreases-loop-text : goal.decreases-loop-text
decreases-loop-text l = length l.text
