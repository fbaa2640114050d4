-- A kernel that runs one dump of a socket at a time, and refuses another one with EBUSY.
use Rattle.std.specs.Prelude.{◌≡◌, ℕ, Bool, false, ◌&&◌, ◌||◌, ◌==◌, if◌then◌else◌, List, [], ◌∷◌, ◌++◌, Option, Some, None}
use Rattle.std.specs.Prelude.{is_some}
use Rattle.neli_answers.specs.declared.answering.Answering.TheVariants as answered
use Rattle.neli_lent.specs.Messages.{Lent}
use Rattle.neli_session.specs.declared.session.Session.{Session}
use Rattle.neli_session.specs.Histories.{Call, IsHistory, IsNew, Moment, NotSent, Outgoing, Quiet, Receive, Send}
use Rattle.neli_session.specs.Mails.{Mail, answers_at_once, running_with}
use Rattle.neli_session.specs.Messages.{messages_of}
use Rattle.neli_session.specs.Sessions.{is_own}
use Rattle.neli_session.specs.Requests.{ends}
use Rattle.neli_session_laws.specs.Served.{Exchange}

-- ---- which dump runs, by its number: it begins when its request goes out, and ends when its last message comes

-- after a message: it may be the last of that dump
abbrev pub runs_past : ℕ → Lent ℕ → Option ℕ → Option ℕ
runs_past port m None = None
runs_past port m (Some q) =
    if is_own port m && ((m.0.sequence_number == q) && ends answered.Dump m) then None else Some q

abbrev pub runs_past_all : ℕ → List (Lent ℕ) → Option ℕ → Option ℕ
runs_past_all port [] runs = runs
runs_past_all port (m ∷ ms) runs = runs_past_all port ms (runs_past port m runs)

-- a datagram with a dump is on its way
abbrev pub carries_dump : Option Mail → Bool
carries_dump None = false
carries_dump (Some p) = is_some p.dump

-- after a call of this session: one that was not sent has not begun, and where the kernel answers at once a link is empty
-- only when no dump runs
abbrev pub runs_after : Session → Call → Option ℕ → Option ℕ
runs_after s (Outgoing o) runs = running_with o runs
runs_after s (NotSent errno) runs = if carries_dump s.leaving then None else runs
runs_after s (Receive group joined datagram) runs = runs_past_all s.port (messages_of datagram) runs
runs_after s Quiet runs = if answers_at_once s.protocol then None else runs
runs_after s c runs = runs

-- ---- what it refuses

-- a dump arrives while one runs: a datagram with a request that is answered by one, as the caller says or by the table
abbrev pub is_busy : Call → Option ℕ → Bool
is_busy (Outgoing (Some p)) runs = is_some p.dump && is_some runs
is_busy c runs = false

-- one of them does; the calls follow one another from this session on
abbrev pub is_ever_busy : Session → Option ℕ → List Moment → Bool
is_ever_busy s runs [] = false
is_ever_busy s runs (m ∷ ms) = is_busy m.call runs || is_ever_busy m.session (runs_after s m.call runs) ms

-- all calls of the session that sent this request
abbrev pub calls_of : Exchange → List Moment
calls_of x = x.has_sent.calls ++ (record { call = Send x.by x.bytes; session = x.sent }) ∷ x.later

-- while they were made the kernel refused no dump because another one ran
abbrev pub NoneIsRefused : Exchange → Type 0
NoneIsRefused x = is_ever_busy x.new None (calls_of x) ≡ false

-- ---- the law

-- whatever else happens, also faults of the link, no request of a session is refused with EBUSY
abbrev pub NoDumpIsRefused : Type 0
NoDumpIsRefused =
    (s : Session) (ms : List Moment) → IsNew s → IsHistory s ms → is_ever_busy s None ms ≡ false
