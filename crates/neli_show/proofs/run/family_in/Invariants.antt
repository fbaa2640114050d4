use Rattle.std.proofs.Common.{◌≡◌, drop, find, is_some, map, string_bytes}
use Rattle.neli_show.specs.Families.{family_in}
use Rattle.neli_show.proofs.run.family_in.Given as goal

-- the words so far name none
abbrev pub invariant-loop-word : goal.invariant-loop-word
invariant-loop-word l =
    find (λ word. is_some (family_in word)) (map string_bytes l.words)
    ≡ find (λ word. is_some (family_in word)) (map string_bytes (drop l.word-index l.words))
