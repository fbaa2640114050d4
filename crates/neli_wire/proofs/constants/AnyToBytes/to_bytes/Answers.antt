use Rattle.std.proofs.Common.{Ok, arith}
use Rattle.neli_wire.specs.declared.errors.SerError.TheVariants.{Memory}
use Rattle.neli_wire.specs.laws.Writing.{refuses_by}
use Rattle.neli_wire.specs.Writing.{Wire}
use Rattle.neli_wire.proofs.constants.AnyToBytes.to_bytes.Goals as goal

-- a number has as many bytes as its type
pub returns-in_err-append-clause-refused : goal.returns-in_err-append-clause-refused
returns-in_err-append-clause-refused g c =
    let bytes : Wire = Ok (g.T.Number.WireNumber.bytes_of (g.T.Constant.wire_number c.args.self.now)) in
    refuses_by c.from_residual.result bytes Memory c.from_residual.ensures.1
    (omega (
      arith,
      g.met.T.Number.WireNumber.count_is (g.T.Constant.wire_number c.args.self.now),
      c.in_err-append.ensures.memory,
    ))
