-- A list that C keeps: whether it is current, as two numbers; and verdicts by their codes.
use Rattle.std.specs.Prelude.{◌≡◌, ℕ, ℤ, ◌==◌, if◌then◌else◌, pos}
use Rattle.std.specs.Ordering.{int_eq}
use Rattle.neli_session.specs.Freshness.{Event, then_is}
use Rattle.neli_session.specs.declared.freshness.Freshness.{Freshness}
use Rattle.neli_session.specs.declared.freshness.Freshness.TheVariants as list
use Rattle.neli_session.specs.declared.loss.Loss.TheVariants as loss
use Rattle.neli_session.specs.declared.request.Verdict.{Verdict}
use Rattle.neli_session.specs.declared.request.Verdict.TheVariants as stands
use Rattle.neli_c_parts.specs.Codes.{interrupted, kernel_error, link, ok, short, waits}
use Rattle.neli_c_session.specs.declared.list.NeliList.{NeliList}

-- 1 while it is read, by the request with that number, and 2 once it is current; a list with any other state is stale
abbrev pub freshness_in : NeliList → Freshness
freshness_in l =
    if l.state == 1 then list.Read l.number
    else (if l.state == 2 then list.Current else list.Stale)

-- the list after this happened to it
abbrev pub Follows : Event → NeliList → NeliList → Type 0
Follows e old new = freshness_in new ≡ then_is e (freshness_in old)

-- the verdict with this code and this error; of a loss any, and of another code that nothing answered
abbrev pub verdict_by : ℤ → ℤ → Verdict
verdict_by code error =
    if int_eq code ok then stands.Complete
    else (if int_eq code waits then stands.Pending
    else (if int_eq code interrupted then stands.Interrupted
    else (if int_eq code kernel_error then stands.Failed error
    else (if int_eq code link then stands.Lost (loss.Link error)
    else (if int_eq code short then stands.Lost loss.Datagram else stands.Unanswered)))))
