use Rattle.std.proofs.Common.{◌≡◌, [], take}
use Rattle.neli_util.specs.Masks.{IsMaskOf, past_mask}
use Rattle.neli_util.proofs.masks.slice_to_mask.Given as goal

-- the mask of the groups passed, none of which is past it
abbrev pub invariant-loop-group : goal.invariant-loop-group
invariant-loop-group l = IsMaskOf (take l.group-index l.groups) l.mask × (past_mask (take l.group-index l.groups) ≡ [])
