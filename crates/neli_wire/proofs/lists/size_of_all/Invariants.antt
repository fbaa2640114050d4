use Rattle.std.proofs.Common.{◌≡◌, take}
use Rattle.std.specs.Prelude.{min, sum_by}
use Rattle.neli_wire.proofs.lists.size_of_all.Given as goal

abbrev pub invariant-loop-item : goal.invariant-loop-item
invariant-loop-item g l = l.total ≡ min (sum_by g.T.Size.wire_length (take l.item-index l.items)) 18446744073709551615
