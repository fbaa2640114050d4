use Rattle.std.specs.Prelude.{⊤, ◌≡◌, ◌≢◌, false}
use Rattle.neli_runs.specs.History.{reads}
use Rattle.neli_runs.specs.Outcomes.{IsAnswered, IsSent}
use Rattle.neli_runs.proofs.Alike.{answered-same, sent-same}
use Rattle.neli_runs.proofs.OtherReads.{each-read, reads_others}
use Rattle.neli_runs.proofs.laws.reads_of_others_leave_outcomes.Goals as goal

pub returns-clause-sent : goal.returns-clause-sent
returns-clause-sent g c port j o before later commands outcomes unsent =
    each-read port j (λ c. ⊤) (IsSent g.ST.Constant.wire_number g.SP.ToBytes.wire g.SP.Size.wire_length port)
    (λ h h' s c o _. sent-same port (λ k. k ≢ j) g.ST.Constant.wire_number g.SP.ToBytes.wire g.SP.Size.wire_length h h'
    s c o)
    o before later commands outcomes unsent (λ i d within. tt)

pub returns-clause-read : goal.returns-clause-read
returns-clause-read g c port j o before later commands outcomes unsent none =
    each-read port j (λ c. reads j c ≡ false) (IsAnswered g.RT.Constant.wire_value g.RT.Constant.wire_number
    g.RP.FromBytesWithInput.view g.RP.Size.wire_length g.RP.FromBytesWithInput.read port)
    (λ h h' s c o unread. answered-same port (λ k. k ≢ j) g.RT.Constant.wire_value g.RT.Constant.wire_number
    g.RP.FromBytesWithInput.view g.RP.Size.wire_length g.RP.FromBytesWithInput.read h h' s c o
    (reads_others j c unread))
    o before later commands outcomes unsent none
