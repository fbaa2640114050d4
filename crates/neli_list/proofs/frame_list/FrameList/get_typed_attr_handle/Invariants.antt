use Rattle.std.proofs.Common.{◌≡◌, take}
use Rattle.std.specs.Prelude.{map}
use Rattle.neli_list.proofs.frame_list.FrameList.get_typed_attr_handle.Given as goal

-- the copies so far are the attributes passed, each with its number's meaning
abbrev pub invariant-loop-attr : goal.invariant-loop-attr
invariant-loop-attr g l = l.attrs.items ≡ map g.I.ToTyped.typed (take l.attr-index l.items)
