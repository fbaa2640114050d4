use Rattle.std.proofs.Common.{◌≡◌, take}
use Rattle.neli_list.proofs.frame_list.FrameList.try_clone.Given as goal

-- the copies so far are the values passed
abbrev pub invariant-loop-item : goal.invariant-loop-item
invariant-loop-item g l = l.items.items ≡ take l.item-index l.item-items
