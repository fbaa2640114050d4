-- What is sent: requests more, and what a session's calls change of it.
use Rattle.std.specs.Prelude.{◌≡◌, ◌≢◌, ◌≤◌, ◌<◌, ◌+◌, ◌%◌, ⊤, ℕ, Bool, true, false, not, ◌&&◌, ◌==◌, if◌then◌else◌, List, [], ◌∷◌, ◌++◌}
use Rattle.std.specs.Prelude.{length, Option, Some, None, Ok, is_some}
use Rattle.neli_consts.specs.declared.nlm_f.NlmF.{NlmF}
use Rattle.neli_session.specs.declared.entry.Entry.{Entry}
use Rattle.neli_session.specs.declared.request.Request.{Request}
use Rattle.neli_session.specs.declared.sending.SendError.{SendError}
use Rattle.neli_session.specs.declared.sending.SendError.TheVariants as refused
use Rattle.neli_session.specs.declared.session.Session.{Session}
use Rattle.neli_session.specs.Mails.{Mail, answers_at_once, dumps_of, entries_of, is_dump, is_none_waiting, mail_of, next_out, numbers_of}
use Rattle.neli_session.specs.Mails.{request_length, request_wire}
use Rattle.neli_session.specs.Messages.{IsWhole}
use Rattle.neli_session.specs.Requests.{is_awaited}
use Rattle.neli_session.specs.Sessions.{at, queued}

-- ---- requests more

-- the request with the number q after this one was added
abbrev pub with_entry : Entry → ℕ → Option Request → Option Request
with_entry e q o = if e.number == q then Some (queued e.answering e.echoes) else o

-- and after all of these were, in order
abbrev pub with_entries : List Entry → ℕ → Option Request → Option Request
with_entries [] q o = o
with_entries (e ∷ es) q o = with_entries es q (with_entry e q o)

-- the request with the number q, if it is none of these
abbrev pub without_entries : List Entry → ℕ → Option Request → Option Request
without_entries [] q o = o
without_entries (e ∷ es) q o = without_entries es q (if e.number == q then None else o)

-- the first of these numbers that is in use, by an earlier one of them too
abbrev pub first_taken : (ℕ → Option Request) → List Entry → Option ℕ
first_taken requests [] = None
first_taken requests (e ∷ es) =
    if is_some (requests e.number) then Some e.number
    else first_taken (λ q. with_entry e q (requests q)) es

-- ---- which numbers are free

-- the number that comes so many after this one, in 32 bits
abbrev pub number_after : ℕ → ℕ → ℕ
number_after start k = (start + k) % 4294967296

-- the first number that is free, from this one on; or none is free
abbrev pub IsFirstFree : (ℕ → Option Request) → ℕ → Option ℕ → Type 0
IsFirstFree requests start (Some n) =
    (k : ℕ) × (n ≡ number_after start k) × (requests n ≡ None)
    × ((j : ℕ) → j < k → is_some (requests (number_after start j)) ≡ true)
IsFirstFree requests start None = (q : ℕ) → q < 4294967296 → is_some (requests q) ≡ true

-- ---- the dump that runs

-- this request is answered by a dump, and is awaited
abbrev pub is_running : Option Request → Bool
is_running None = false
is_running (Some r) = is_dump r.answering && is_awaited r.stage

-- the dump with this number runs
abbrev pub runs_now : Option ℕ → (ℕ → Option Request) → Bool
runs_now None requests = false
runs_now (Some n) requests = is_running (requests n)

-- ---- the rest of a session

-- its protocol, its port, and the number to try first are the same
abbrev pub SameNames : Session → Session → Type 0
SameNames old new =
    (new.protocol ≡ old.protocol) × (new.port ≡ old.port) × (new.next_number ≡ old.next_number)

-- so is what is to be sent, what is on its way, and the dump that went out last
abbrev pub SameMails : Session → Session → Type 0
SameMails old new =
    (new.outbox ≡ old.outbox) × (new.leaving ≡ old.leaving) × (new.running ≡ old.running)

-- so is all that a session sends or has sent: its requests and readers may be others
abbrev pub SameSending : Session → Session → Type 0
SameSending old new =
    SameNames old new × SameMails old new × (new.awaited ≡ old.awaited) × (new.is_congested ≡ old.is_congested)

-- so is what waits for multicast and the unasked
abbrev pub SameReaders : Session → Session → Type 0
SameReaders old new = (new.multicast ≡ old.multicast) × (new.unasked ≡ old.unasked)

-- ---- a send

-- these requests wait to be sent: their numbers were free, and are awaited from now on
abbrev pub Adds : List ℕ → List Entry → Session → Session → Type 0
Adds bytes es old new =
    (first_taken (at old.requests) es ≡ None)
    × ((q : ℕ) → at new.requests q ≡ with_entries es q (at old.requests q))
    × (new.awaited.items ≡ old.awaited.items ++ numbers_of es)
    × (new.outbox.items ≡ old.outbox.items ++ mail_of bytes es ∷ [])

-- these bytes were sent: they are whole messages, of which one at most is answered by a dump
abbrev pub IsQueued : List ℕ → List Entry → Session → Session → Type 0
IsQueued bytes es old new =
    IsWhole bytes × (es ≢ []) × (length (dumps_of es) ≤ 1) × Adds bytes es old new

-- why they were not
abbrev pub RefusesSend : List ℕ → List Entry → Session → SendError → Type 0
RefusesSend bytes es old refused.Unreadable = IsWhole bytes → es ≡ []
RefusesSend bytes es old refused.TwoDumps = 1 < length (dumps_of es)
RefusesSend bytes es old (refused.InUse n) = first_taken (at old.requests) es ≡ Some n
RefusesSend bytes es old refused.Memory = ⊤
RefusesSend bytes es old e = true ≡ false

-- a request was sent with this number, the first that was free
abbrev pub IsRequested : ℕ → NlmF → List ℕ → ℕ → Session → Session → Type 0
IsRequested type flags body number old new =
    (at old.requests number ≡ None) × IsFirstFree (at old.requests) old.next_number (Some number) × (bytes : List ℕ)
    × (request_wire old.port number type flags body ≡ Ok bytes)
    × IsQueued bytes (entries_of old.protocol None bytes) old new

-- why no request of this type, with these flags and this body, was sent: no number is free; its length exceeds 32 bits; or
-- the first free number was taken, and its bytes were refused
abbrev pub RefusesRequest : ℕ → NlmF → List ℕ → Session → SendError → Type 0
RefusesRequest type flags body old refused.NoNumber = IsFirstFree (at old.requests) old.next_number None
RefusesRequest type flags body old refused.Length = 4294967295 < request_length body
RefusesRequest type flags body old refused.Memory = ⊤
RefusesRequest type flags body old e =
    (n : ℕ) × (bytes : List ℕ) × IsFirstFree (at old.requests) old.next_number (Some n)
    × (request_wire old.port n type flags body ≡ Ok bytes) × RefusesSend bytes (entries_of old.protocol None bytes) old e

-- nothing was sent
abbrev pub NothingQueued : Session → Session → Type 0
NothingQueued old new =
    ((q : ℕ) → at new.requests q ≡ at old.requests q)
    × (new.awaited.items ≡ old.awaited.items) × (new.outbox.items ≡ old.outbox.items)

-- what a send never changes
abbrev pub SameBesides : Session → Session → Type 0
SameBesides old new =
    SameNames old new × SameReaders old new × (new.leaving ≡ old.leaving) × (new.running ≡ old.running)
    × (new.is_congested ≡ old.is_congested)

-- ---- what goes out

-- what a session's next datagram is
abbrev pub next_of : Session → Option Mail
next_of s = next_out s.is_congested s.leaving (runs_now s.running (at s.requests)) s.outbox.items

-- the numbers of the requests for which nothing more comes once the link was seen empty, if they were sent
abbrev pub ends_now : Session → List ℕ
ends_now s = if answers_at_once s.protocol then s.awaited.items else []

-- nothing waits to be sent, and nothing is on its way
abbrev pub is_idle : Session → Bool
is_idle s = is_none_waiting s.outbox.items && not (is_some s.leaving)
