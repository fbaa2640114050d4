use Rattle.neli_wire.proofs.Writes.{Writes}
use Rattle.neli_wire.proofs.lists.write_each.Given as goal

abbrev pub invariant-loop-item : goal.invariant-loop-item
invariant-loop-item g l = Writes g.T.ToBytes.wire l.fn.buffer.items l.items l.item-index l.buffer.items
