use Rattle.std.proofs.Common.{◌≡◌, length}
use Rattle.neli_short.specs.Look.{below}
use Rattle.neli_short.proofs.found.below.Given as goal

-- what is left of the path leads from the place to where the whole leads from the payload
abbrev pub invariant-loop-number : goal.invariant-loop-number
invariant-loop-number l = below l.fn.path l.fn.payload ≡ below l.rest l.place

abbrev pub decreases-loop-number : goal.decreases-loop-number
decreases-loop-number l = length l.rest
