use Rattle.std.proofs.Common.{◌≡◌, take, Some, fold}
use Rattle.neli_tables.specs.Numbers.{with_digit}
use Rattle.neli_tables.proofs.number.digits_in.Given as goal

abbrev pub invariant-loop-byte : goal.invariant-loop-byte
invariant-loop-byte l = l.number ≡ fold (with_digit l.base) (Some 0) (take l.byte-index l.digits)
