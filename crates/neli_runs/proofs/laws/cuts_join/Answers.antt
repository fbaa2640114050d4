use Rattle.std.proofs.Common.{arith}
use Rattle.neli_reader.specs.Messages.{message_layout}
use Rattle.neli_reader.specs.laws.Messages.{layout_with-placed}
use Rattle.neli_reader.specs.laws.Cuts.{cut_of-join}
use Rattle.neli_runs.proofs.Regrouping.{untyped-join}
use Rattle.neli_runs.proofs.laws.cuts_join.Goals as goal

pub returns-clause-typed : goal.returns-clause-typed
returns-clause-typed g c =
    cut_of-join (message_layout g.T.Constant.wire_value g.T.Constant.wire_number g.P.FromBytesWithInput.read)
    (layout_with-placed g.T.Constant.wire_value _) (omega arith)

pub returns-clause-untyped : goal.returns-clause-untyped
returns-clause-untyped g c = untyped-join
