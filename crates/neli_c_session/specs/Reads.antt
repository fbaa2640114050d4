-- What the reads of a session return, in C's terms.
use Rattle.std.specs.Prelude.{◌≡◌, ℕ, ℤ, Bool, true, false, ◌==◌, if◌then◌else◌, Option, Some, None, pos, option_map}
use Rattle.std.specs.Ordering.{int_eq}
use Rattle.neli_lent.specs.Messages.{Lent, code_or_zero, message_view}
use Rattle.neli_session.specs.Mails.{Mail}
use Rattle.neli_session.specs.declared.reading.Next.{Next}
use Rattle.neli_session.specs.declared.reading.Next.TheVariants as next
use Rattle.neli_session.specs.declared.reading.Reader.{Reader}
use Rattle.neli_session.specs.declared.reading.Reader.TheVariants as reader
use Rattle.neli_session.specs.declared.request.Verdict.{Verdict}
use Rattle.neli_session.specs.declared.session.Session.{Session}
use Rattle.neli_session.specs.Lines.{first_in, is_in}
use Rattle.neli_session.specs.Readiness.{is_reader_ready, read_in, ready_at}
use Rattle.neli_session.specs.Requests.{verdict_of}
use Rattle.neli_session.specs.Sends.{SameReaders, SameSending}
use Rattle.neli_session.specs.Sessions.{IsReplyOf, IsReplyOfQueue, at, filtered_at, passed_at, without_first}
use Rattle.neli_c_parts.specs.Codes.{item, kernel_error, no_handle, ok, waits}
use Rattle.neli_c_parts.specs.Lending.{IsStored}
use Rattle.neli_c_parts.specs.declared.lending.NeliLent.{NeliLent}
use Rattle.neli_c_parts.specs.declared.session.NeliVerdict.{NeliVerdict}
use Rattle.neli_c_session.specs.declared.reading.NeliBytes.{NeliBytes}
use Rattle.neli_c_session.specs.Calls.{SameOthers}
use Rattle.neli_c_session.specs.Outcomes.{loss_code, loss_errno, stands_code, stands_error}

-- ---- one read

-- the reader of this kind: of the answer to the request with a number (0), of multicast (1), of the unasked (2)
abbrev pub reader_of : ℕ → ℕ → Option Reader
reader_of kind number =
    if kind == 0 then Some (reader.Request number)
    else (if kind == 1 then Some reader.Multicast
    else (if kind == 2 then Some reader.Unasked else None))

-- what that reader reads; nobody reads of another kind
abbrev pub IsNextOf : Option Reader → Session → Next → Type 0
IsNextOf None s n = n ≡ next.Closed
IsNextOf (Some (reader.Request q)) s n = IsReplyOf (at s.requests q) n
IsNextOf (Some reader.Multicast) s n = IsReplyOfQueue s.multicast n
IsNextOf (Some reader.Unasked) s n = IsReplyOfQueue s.unasked n

-- the code of an error message (NLMSG_ERROR, 2); 0 of another one, and of one that is too short
abbrev pub error_code : Lent ℕ → ℤ
error_code m = if m.0.message_type == 2 then code_or_zero m.1 else pos 0

-- a request's answer is an error by its code; what another reader reads never is
abbrev pub shown_error : Bool → Lent ℕ → ℤ
shown_error true m = error_code m
shown_error false m = pos 0

-- the code of what is read, of a request or of another reader
abbrev pub next_code : Bool → Next → ℤ
next_code answers (next.Message m) =
    if int_eq (shown_error answers (message_view m)) (pos 0) then item else kernel_error
next_code answers (next.Loss l) = loss_code l
next_code answers next.End = ok
next_code answers next.Waits = waits
next_code answers next.Closed = no_handle

-- a message is stored with its error, of a loss the errno alone, and of anything else nothing
abbrev pub Stores : Bool → Next → NeliLent → NeliLent → Type 0
Stores answers (next.Message m) old new = IsStored m (shown_error answers (message_view m)) new
Stores answers (next.Loss l) old new = new ≡ record old { error = loss_errno l }
Stores answers n old new = new ≡ old

-- the next item of the reader of this kind is lent
abbrev pub LendsNext : ℤ → ℕ → ℕ → Session → NeliLent → NeliLent → Type 0
LendsNext code kind number s old new =
    (n : Next) × IsNextOf (reader_of kind number) s n × (code ≡ next_code (kind == 0) n) × Stores (kind == 0) n old new

-- ---- who has something

-- the reader of this kind has something to read; of another kind there is none
abbrev pub is_ready_of : Option Reader → Session → Bool
is_ready_of None s = false
is_ready_of (Some r) s = is_reader_ready s.multicast s.unasked (at s.requests) r

-- the number of the first request in line is told, if one has something
abbrev pub TellsFirst : ℤ → Option ℕ → ℕ → ℕ → Type 0
TellsFirst code None old new = (code ≡ waits) × (new ≡ old)
TellsFirst code (Some n) old new = (code ≡ item) × (new ≡ n)

-- that of a session, whose line has exactly the requests that have something
abbrev pub TellsReady : ℤ → Session → ℕ → ℕ → Type 0
TellsReady code s old new =
    TellsFirst code (first_in s.requests.line) old new × ((q : ℕ) → is_in q s.requests.line ≡ ready_at (at s.requests q))

-- ---- the step past it

-- a reader's next item is gone, and nothing else changes
abbrev pub PassesBy : Option Reader → Session → Session → Type 0
PassesBy None s t = t ≡ s
PassesBy (Some (reader.Request q)) s t =
    (at t.requests q ≡ passed_at (at s.requests q)) × SameOthers q s t
    × (t.requests.line ≡ read_in (ready_at (at t.requests q)) q s.requests.line) × SameReaders s t × SameSending s t
PassesBy (Some reader.Multicast) s t =
    (t.multicast ≡ without_first s.multicast) × (t.requests ≡ s.requests) × (t.unasked ≡ s.unasked) × SameSending s t
PassesBy (Some reader.Unasked) s t =
    (t.unasked ≡ without_first s.unasked) × (t.requests ≡ s.requests) × (t.multicast ≡ s.multicast) × SameSending s t

abbrev pub PassesNext : ℕ → ℕ → Session → Session → Type 0
PassesNext kind number s t = PassesBy (reader_of kind number) s t

-- ---- the verdict

-- a flag as a byte
abbrev pub byte_of : Bool → ℕ
byte_of b = if b then 1 else 0

-- a verdict is told, if there is one, and whether the kernel filtered what was read
abbrev pub TellsOf : ℤ → Option Verdict → Bool → NeliVerdict → NeliVerdict → Type 0
TellsOf code None filtered old new = (code ≡ no_handle) × (new ≡ old)
TellsOf code (Some v) filtered old new =
    (code ≡ stands_code v) × (new ≡ record { error = stands_error v; filtered = byte_of filtered })

-- that on the answer to the request with this number
abbrev pub TellsVerdict : ℤ → ℕ → Session → NeliVerdict → NeliVerdict → Type 0
TellsVerdict code number s old new =
    TellsOf code (option_map verdict_of (at s.requests number)) (filtered_at (at s.requests number)) old new

-- ---- the datagram to send

-- a datagram is lent, if there is one
abbrev pub LendsMail : ℤ → Option Mail → NeliBytes → NeliBytes → Type 0
LendsMail code None old new = (code ≡ waits) × (new ≡ old)
LendsMail code (Some p) old new = (code ≡ item) × (new.bytes.now ≡ p.bytes)

-- that which is on its way
abbrev pub LendsOutgoing : ℤ → Session → NeliBytes → NeliBytes → Type 0
LendsOutgoing code s old new = LendsMail code s.leaving old new
