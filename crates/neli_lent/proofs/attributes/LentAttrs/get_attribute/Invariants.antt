use Rattle.std.proofs.Common.{◌≡◌, length}
use Rattle.neli_lent.specs.Attributes.{attributes_at}
use Rattle.neli_lent.specs.Walks.{find_in}
use Rattle.neli_lent.proofs.attributes.LentAttrs.get_attribute.Given as goal

abbrev pub decreases-loop-item : goal.decreases-loop-item
decreases-loop-item g l = length l.attrs.rest

-- no attribute so far is selected
abbrev pub invariant-loop-item : goal.invariant-loop-item
invariant-loop-item g l =
    find_in (λ a. g.S.AttrSelector.selects l.t a.0.kind) (attributes_at g.K.Constant.wire_value l.fn.self)
    ≡ find_in (λ a. g.S.AttrSelector.selects l.t a.0.kind) (attributes_at g.K.Constant.wire_value l.attrs)
