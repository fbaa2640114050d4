use Rattle.std.proofs.Common.{◌≡◌}
use Rattle.std.specs.List.{filter, range_with_len}
use Rattle.neli_util.specs.Masks.{is_masked}
use Rattle.neli_util.proofs.masks.mask_to_vec.Given as goal

-- the groups of the bits passed
abbrev pub invariant-loop-bit : goal.invariant-loop-bit
invariant-loop-bit l = l.groups.items ≡ filter (is_masked l.mask) (range_with_len 1 l.bit)
