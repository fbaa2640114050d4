use Rattle.std.proofs.Common.{◌≡◌, ◌++◌, false, drop}
use Rattle.neli_inputs.specs.Lines.{first_words}
use Rattle.neli_inputs.proofs.line.first_words.Given as goal

-- the digits so far stand before those to come
abbrev pub invariant-loop-byte : goal.invariant-loop-byte
invariant-loop-byte l =
    first_words false l.text ≡ l.digits.items ++ first_words l.after_blank (drop l.byte-index l.text)
