use Rattle.std.specs.Prelude.{⊤}
use Rattle.neli_runs.specs.Outcomes.{IsAnswered, IsSent}
use Rattle.neli_runs.proofs.Alike.{answered-same, sent-same}
use Rattle.neli_runs.proofs.Regrouping.{regrouped-each}
use Rattle.neli_runs.proofs.laws.regrouping_leaves_outcomes.Goals as goal

pub returns-clause-sent : goal.returns-clause-sent
returns-clause-sent g c = λ port.
    regrouped-each port (IsSent g.ST.Constant.wire_number g.SP.ToBytes.wire g.SP.Size.wire_length port)
    (sent-same port (λ k. ⊤) g.ST.Constant.wire_number g.SP.ToBytes.wire g.SP.Size.wire_length)

pub returns-clause-read : goal.returns-clause-read
returns-clause-read g c = λ port.
    regrouped-each port (IsAnswered g.RT.Constant.wire_value g.RT.Constant.wire_number g.RP.FromBytesWithInput.view
    g.RP.Size.wire_length g.RP.FromBytesWithInput.read port)
    (λ h h' s c o. answered-same port (λ k. ⊤) g.RT.Constant.wire_value g.RT.Constant.wire_number
    g.RP.FromBytesWithInput.view g.RP.Size.wire_length g.RP.FromBytesWithInput.read h h' s c o (λ k _. tt))
