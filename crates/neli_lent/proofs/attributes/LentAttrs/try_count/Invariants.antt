use Rattle.std.proofs.Common.{◌≡◌, ◌≤◌, length}
use Rattle.neli_lent.specs.Attributes.{attributes_at}
use Rattle.neli_lent.specs.Walks.{count_of}
use Rattle.neli_lent.proofs.Walks.{counted_after}
use Rattle.neli_lent.proofs.attributes.LentAttrs.try_count.Given as goal

abbrev pub decreases-loop-item : goal.decreases-loop-item
decreases-loop-item g l = length l.attrs.rest

-- those so far, and then the rest; each took at least a byte
abbrev pub invariant-loop-item : goal.invariant-loop-item
invariant-loop-item g l =
    (count_of (attributes_at g.K.Constant.wire_value l.fn.self)
    ≡ counted_after l.count (count_of (attributes_at g.K.Constant.wire_value l.attrs)))
    × (l.count ≤ length l.attrs.before)
