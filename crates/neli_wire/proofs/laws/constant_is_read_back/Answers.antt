use Rattle.std.proofs.Common.{refl}
use Rattle.neli_wire.specs.laws.Reading.{value_at-append}
use Rattle.neli_wire.proofs.laws.constant_is_read_back.Goals as goal

pub returns : goal.returns
returns g c = λ v rest fits.
    let laws = g.met.T.Number.WireNumber in
    rw (
      value_at-append g.T.Number.WireNumber.byte_count _ (g.T.Number.WireNumber.bytes_of
          (g.T.Constant.wire_number v)) rest (laws.count_is (g.T.Constant.wire_number v)),
      laws.reads_back (g.T.Constant.wire_number v) fits,
    ) refl
