use Rattle.std.proofs.Common.{◌≡◌}
use Rattle.std.specs.List.{filter, range_with_len}
use Rattle.neli_util.specs.Groups.{with_added}
use Rattle.neli_util.specs.Masks.{is_masked}
use Rattle.neli_util.proofs.groups.add_masked.Given as goal

-- the list is the first one with the groups of the bits passed added
abbrev pub invariant-loop-bit : goal.invariant-loop-bit
invariant-loop-bit l = l.list.items ≡ with_added (filter (is_masked l.mask) (range_with_len 1 l.bit)) l.fn.list.items
