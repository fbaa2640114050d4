use Rattle.std.proofs.Common.{◌≡◌}
use Rattle.std.specs.List.{filter, range_with_len}
use Rattle.neli_util.specs.BitArrays.{has_bit}
use Rattle.neli_util.proofs.bit_array.NetlinkBitArray.to_vec.Given as goal

-- the numbers of the bits passed
abbrev pub invariant-loop-bit : goal.invariant-loop-bit
invariant-loop-bit l = l.numbers.items ≡ filter (has_bit l.self-inside.words.items) (range_with_len 1 l.bit)
