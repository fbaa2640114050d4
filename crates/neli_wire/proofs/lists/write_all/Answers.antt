use Rattle.std.proofs.Common.{arith}
use Rattle.std.specs.Prelude.{sum_by}
use Rattle.neli_wire.proofs.Writes.{takes-room}
use Rattle.neli_wire.specs.declared.errors.SerError.TheVariants.{Memory}
use Rattle.neli_wire.specs.Writing.{wire_all}
use Rattle.neli_wire.specs.laws.Lists.{wire_all-length}
use Rattle.neli_wire.specs.laws.Writing.{refuses_by}
use Rattle.neli_wire.proofs.lists.write_all.Goals as goal

-- room is reserved only where the values take a byte
pub returns-in_err-reserve-clause-refused : goal.returns-in_err-reserve-clause-refused
returns-in_err-reserve-clause-refused g c =
    let items = c.args.items.now in
    let all = wire_all g.T.ToBytes.wire items in
    refuses_by c.from_residual.result all Memory c.from_residual.ensures.1
    (takes-room all (sum_by g.T.Size.wire_length items) (omega (arith, c.size_of_all-room.ensures, c.if-room-gt0.true))
    (wire_all-length g.T.ToBytes.wire g.T.Size.wire_length g.met.T.ToBytes.length_is items))
