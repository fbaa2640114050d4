use Rattle.std.proofs.Common.{◌≢◌, All, take}
use Rattle.neli_c.proofs.number.first_zero.Given as goal

-- none of the bytes so far is zero
abbrev pub invariant-loop-i : goal.invariant-loop-i
invariant-loop-i l = All (λ b. b ≢ 0) (take l.i l.fn.bytes)
