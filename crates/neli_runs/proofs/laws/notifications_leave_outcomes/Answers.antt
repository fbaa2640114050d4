use Rattle.std.specs.Prelude.{⊤, ◌≡◌, ◌≢◌, false}
use Rattle.neli_runs.specs.History.{reads}
use Rattle.neli_runs.specs.Outcomes.{IsAnswered, IsSent}
use Rattle.neli_runs.proofs.Alike.{answered-same, sent-same}
use Rattle.neli_runs.proofs.Notifications.{each-notified, notified-deliveries}
use Rattle.neli_runs.proofs.OtherReads.{reads_others}
use Rattle.neli_runs.proofs.laws.notifications_leave_outcomes.Goals as goal

pub returns-clause-deliveries : goal.returns-clause-deliveries
returns-clause-deliveries g c port k group groups b before later whole =
    notified-deliveries port b group groups whole k before later

pub returns-clause-sent : goal.returns-clause-sent
returns-clause-sent g c port group groups b before later commands outcomes whole =
    each-notified port b group groups whole (λ c. ⊤) (IsSent g.ST.Constant.wire_number g.SP.ToBytes.wire
    g.SP.Size.wire_length port)
    (λ h h' s c o _. sent-same port (λ k. k ≢ 0) g.ST.Constant.wire_number g.SP.ToBytes.wire g.SP.Size.wire_length h h'
    s c o)
    before later commands outcomes (λ i d within. tt)

pub returns-clause-read : goal.returns-clause-read
returns-clause-read g c port group groups b before later commands outcomes whole none =
    each-notified port b group groups whole (λ c. reads 0 c ≡ false) (IsAnswered g.RT.Constant.wire_value
    g.RT.Constant.wire_number g.RP.FromBytesWithInput.view g.RP.Size.wire_length g.RP.FromBytesWithInput.read port)
    (λ h h' s c o unread. answered-same port (λ k. k ≢ 0) g.RT.Constant.wire_value g.RT.Constant.wire_number
    g.RP.FromBytesWithInput.view g.RP.Size.wire_length g.RP.FromBytesWithInput.read h h' s c o
    (reads_others 0 c unread))
    before later commands outcomes none
