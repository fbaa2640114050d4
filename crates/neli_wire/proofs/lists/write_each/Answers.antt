use Rattle.std.proofs.Common.{arith}
use Rattle.neli_wire.proofs.Writes.{Writes-refused}
use Rattle.neli_wire.specs.laws.Writing.{refuses_by}
use Rattle.neli_wire.proofs.lists.write_each.Goals as goal

-- the refusal of one value is that of all
pub returns-in_err-to_bytes-clause-refused : goal.returns-in_err-to_bytes-clause-refused
returns-in_err-to_bytes-clause-refused g c =
    let e = c.in_err-to_bytes.field-0.0 in
    refuses_by c.from_residual.result _ e c.from_residual.ensures.1
    (Writes-refused g.T.ToBytes.wire c.args.buffer.now.items c.args.items.now c.loop-item.item-index
    c.loop-item.buffer.items c.loop-item.invariant c.item-item.result e
    (omega arith) c.item-item.is c.in_err-to_bytes.ensures.refused)
