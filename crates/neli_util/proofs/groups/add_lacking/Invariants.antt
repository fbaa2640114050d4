use Rattle.std.proofs.Common.{◌≡◌, take}
use Rattle.neli_util.specs.Groups.{with_added}
use Rattle.neli_util.proofs.groups.add_lacking.Given as goal

-- the list is the first one with the numbers passed added
abbrev pub invariant-loop-number : goal.invariant-loop-number
invariant-loop-number l = l.list.items ≡ with_added (take l.number-index l.added) l.fn.list.items
