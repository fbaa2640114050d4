-- What the calls of a session do to it, as neli_session says it of its own calls, and the codes that they return.
use Rattle.std.specs.Prelude.{◌≡◌, ◌≢◌, ◌⊎◌, ◌≤◌, ◌<◌, ◌||◌, ◌&&◌, ℕ, ℤ, pos, Bool, not, ◌==◌, nat_eq, nat_le, true, false}
use Rattle.std.specs.Prelude.{List, [], ◌∷◌, length, take, Option, Some, None, Err, if◌then◌else◌, is_some, option_map}
use Rattle.std.specs.Ordering.{int_eq}
use Rattle.neli_answers.specs.declared.answering.Answering.{Answering}
use Rattle.neli_consts.specs.declared.nlm_f.NlmF.{NlmF}
use Rattle.neli_consts_system.specs.declared.socket.NlFamily.{NlFamily}
use Rattle.neli_wire.specs.declared.errors.DeError.{DeError}
use Rattle.neli_lent.specs.Messages.{messages_in}
use Rattle.neli_session.specs.Mails.{answers_at_once, entries_of, numbers_in, on_its_way, request_length, running_with, still_waiting}
use Rattle.neli_session.specs.declared.loss.Loss.TheVariants as loss
use Rattle.neli_session.specs.declared.sending.SendError.{SendError}
use Rattle.neli_session.specs.declared.request.Request.{Request}
use Rattle.neli_session.specs.declared.session.Session.{Session}
use Rattle.neli_session.specs.Lines.{without}
use Rattle.neli_session.specs.Messages.{IsWhole, messages_of}
use Rattle.neli_session.specs.Readiness.{line_after_all, line_among, line_received}
use Rattle.neli_session.specs.Requests.{left_at, lost, sent_at, settled, unsent}
use Rattle.neli_session.specs.Sends.{IsFirstFree, IsQueued, IsRequested, NothingQueued, RefusesSend, SameBesides, SameNames}
use Rattle.neli_session.specs.Sends.{SameMails, SameReaders, SameSending, ends_now, is_idle, next_of, runs_now}
use Rattle.neli_session.specs.Sessions.{HaveCome, HaveComeBeforeLoss, among, at, closed_at, gains, kept, kept_queue}
use Rattle.neli_c_parts.specs.Codes.{bad_length, in_use, item, kind, memory, ok, waits}
use Rattle.neli_c_parts.specs.Expecting.{answering_of_number}
use Rattle.neli_c_session.specs.Outcomes.{send_code}

-- a byte that is a flag: 0 is not set
abbrev pub is_set : ℕ → Bool
is_set byte = not (byte == 0)

-- a new session: no number is in use, nothing waits to be sent, and nothing waits for multicast or the unasked
abbrev pub IsNew : NlFamily → ℕ → Bool → Session → Type 0
IsNew protocol port keeps s =
    (s.protocol ≡ protocol) × (s.port ≡ port) × (s.next_number ≡ 0) × ((q : ℕ) → at s.requests q ≡ None)
    × (s.requests.line ≡ [])
    × (s.awaited.items ≡ []) × (s.outbox.items ≡ []) × (s.leaving ≡ None) × (s.running ≡ None)
    × (s.is_congested ≡ false) × (s.multicast ≡ Some []) × (s.unasked ≡ kept_queue keeps)

-- ---- what is sent

-- all but the number to try first is the same
abbrev pub SameButNumber : Session → Session → Type 0
SameButNumber s t =
    (t.requests ≡ s.requests) × SameReaders s t × SameMails s t × (t.awaited ≡ s.awaited)
    × (t.is_congested ≡ s.is_congested) × (t.port ≡ s.port) × (t.protocol ≡ s.protocol)

-- this number is tried first for the next request
abbrev pub SetsNumber : ℕ → Session → Session → Type 0
SetsNumber number s t = (t.next_number ≡ number) × SameButNumber s t

-- the first number that is free is taken; or none is free
abbrev pub TakesNumber : ℤ → Session → Session → ℕ → ℕ → Type 0
TakesNumber code s t old new =
    ((code ≡ ok) ⊎ (code ≡ in_use)) × (code ≡ ok → IsFirstFree (at s.requests) s.next_number (Some new))
    × (code ≡ in_use → IsFirstFree (at s.requests) s.next_number None) × (code ≢ ok → new ≡ old) × SameButNumber s t

-- the requests that have something to read stand as they did
abbrev pub SameLine : Session → Session → Type 0
SameLine s t = t.requests.line ≡ s.requests.line

-- why these bytes are not sent, as requests that are answered so, or by the table
abbrev pub RefusesFor : ℤ → Option Answering → List ℕ → Session → Type 0
RefusesFor code by bytes s =
    (e : SendError) × (code ≡ send_code e) × RefusesSend bytes (entries_of s.protocol by bytes) s e

-- these bytes wait to be sent, as such requests; or they are refused, and nothing is sent
abbrev pub Queues : ℤ → Option Answering → List ℕ → Session → Session → Type 0
Queues code by bytes s t =
    (code ≡ ok → IsQueued bytes (entries_of s.protocol by bytes) s t)
    × (code ≢ ok → RefusesFor code by bytes s × NothingQueued s t) × SameLine s t × SameBesides s t

-- the way to answer that has this number, if one has
abbrev pub answering_in : ℕ → Option Answering
answering_in number = if nat_le number 3 then Some (answering_of_number number) else None

-- the same of requests that are answered so; without a way to answer nothing changes
abbrev pub QueuesAs : ℤ → Option Answering → List ℕ → Session → Session → Type 0
QueuesAs code None bytes s t = (code ≡ kind) × (t ≡ s)
QueuesAs code (Some a) bytes s t = Queues code (Some a) bytes s t

-- what a request leaves as it is
abbrev pub SameAround : Session → Session → Type 0
SameAround s t =
    SameReaders s t × (t.leaving ≡ s.leaving) × (t.running ≡ s.running) × (t.is_congested ≡ s.is_congested)
    × (t.port ≡ s.port) × (t.protocol ≡ s.protocol)

-- a request waits to be sent, with this number; or it is refused, and nothing is sent
abbrev pub SendsRequest : ℤ → ℕ → NlmF → List ℕ → Session → Session → ℕ → ℕ → Type 0
SendsRequest code type flags body s t old new =
    (code ≡ ok → IsRequested type flags body new s t)
    × (code ≢ ok → NothingQueued s t × (new ≡ old))
    × (code ≡ bad_length → 4294967295 < request_length body)
    × SameLine s t × SameAround s t

-- the line after this happened to the requests with these numbers, in order
abbrev pub LineIsChanged : List ℕ → (Request → Request) → Session → Session → Type 0
LineIsChanged numbers f s t =
    t.requests.line ≡ line_among numbers (λ o. kept (option_map f o)) (at s.requests) s.requests.line

-- a request after this, if there is one
abbrev pub changed_in : {R : Type 0} → Option R → (R → R) → Option R
changed_in o f = option_map f o

-- what goes out next is on its way, if anything does, and answers of its requests may come
abbrev pub ChoosesNext : Session → Session → Type 0
ChoosesNext s t =
    (t.leaving ≡ on_its_way s.leaving (next_of s))
    × (t.outbox.items ≡ still_waiting (next_of s) (runs_now s.running (at s.requests)) s.outbox.items)
    × (t.running ≡ running_with (next_of s) s.running)
    × ((q : ℕ) → at t.requests q ≡ among (numbers_in (next_of s))
    (λ o. kept (changed_in o (λ r. record r { stage = left_at r.stage }))) q (at s.requests q))
    × LineIsChanged (numbers_in (next_of s)) (λ r. record r { stage = left_at r.stage }) s t
    × (t.awaited ≡ s.awaited) × SameNames s t × SameReaders s t × (t.is_congested ≡ s.is_congested)

-- the same, and whether something is on its way then
abbrev pub Chooses : ℤ → Session → Session → Type 0
Chooses code s t = (code ≡ (if is_some t.leaving then item else waits)) × ChoosesNext s t

-- nothing is on its way any more, and but for its requests all is the same
abbrev pub IsGone : Session → Session → Type 0
IsGone s t =
    (t.leaving ≡ None) × (t.outbox ≡ s.outbox) × (t.running ≡ s.running) × (t.awaited ≡ s.awaited) × SameNames s t
    × SameReaders s t × (t.is_congested ≡ s.is_congested)

-- what was on its way was sent
abbrev pub IsSent : Session → Session → Type 0
IsSent s t =
    ((q : ℕ) → at t.requests q ≡ among (numbers_in s.leaving)
    (λ o. kept (changed_in o (λ r. record r { stage = sent_at r.stage }))) q (at s.requests q))
    × LineIsChanged (numbers_in s.leaving) (λ r. record r { stage = sent_at r.stage }) s t × IsGone s t

-- it was not: its requests lose that
abbrev pub IsUnsent : ℤ → Session → Session → Type 0
IsUnsent errno s t =
    ((q : ℕ) → at t.requests q ≡ among (numbers_in s.leaving) (λ o. kept (option_map (unsent errno) o)) q
    (at s.requests q)) × LineIsChanged (numbers_in s.leaving) (unsent errno) s t × IsGone s t

-- ---- what comes

-- requests and readers after a datagram was taken in: its messages, and then a loss if it has a fault
abbrev pub HasCome : List ℕ → ℕ → Bool → Session → Session → Type 0
HasCome bytes group joined s t =
    (IsWhole bytes → HaveCome s.port group joined (messages_of bytes) (at s.requests) (at t.requests)
    s.multicast t.multicast s.unasked t.unasked)
    × ((e : DeError) → (messages_in {K = ℕ} (λ n. n) bytes).1 ≡ Some e
    → HaveComeBeforeLoss s.port group joined (messages_of bytes) s.awaited.items (at s.requests) (at t.requests)
    s.multicast t.multicast s.unasked t.unasked)
    × (t.requests.line ≡ line_received s.port group bytes s.awaited.items (at s.requests) s.requests.line)

-- after the messages of its first bytes, so many
abbrev pub HasComeInPart : List ℕ → ℕ → ℕ → Bool → Session → Session → Type 0
HasComeInPart bytes n group joined s t =
    (n ≤ length bytes) × IsWhole (take n bytes)
    × HaveCome s.port group joined (messages_of (take n bytes)) (at s.requests) (at t.requests)
    s.multicast t.multicast s.unasked t.unasked
    × (t.requests.line ≡ line_after_all s.port group (messages_of (take n bytes)) (at s.requests) s.requests.line)

-- a datagram is taken in; or memory ran out, and its first messages are
abbrev pub TakesIn : ℤ → List ℕ → ℕ → Bool → Session → Session → ℕ → Type 0
TakesIn code bytes group joined s t taken =
    ((code ≡ ok) ⊎ (code ≡ memory))
    × (code ≡ ok → (taken ≡ length bytes) × HasCome bytes group joined s t)
    × (code ≡ memory → HasComeInPart bytes taken group joined s t)
    × SameSending s t

-- a fault of the link is a loss for all who wait, and after ENOBUFS (105) nothing goes out
abbrev pub Fails : ℤ → Session → Session → Type 0
Fails errno s t =
    ((q : ℕ) → at t.requests q ≡ among s.awaited.items
    (λ o. kept (option_map (lost (loss.Link errno)) o)) q (at s.requests q))
    × LineIsChanged s.awaited.items (lost (loss.Link errno)) s t
    × (t.multicast ≡ gains (Err (loss.Link errno) ∷ []) s.multicast)
    × (t.unasked ≡ gains (Err (loss.Link errno) ∷ []) s.unasked)
    × (t.is_congested ≡ (int_eq errno (pos 105) || s.is_congested))

-- that is so; or memory ran out, and nothing changes
abbrev pub TakesFault : ℤ → ℤ → Session → Session → Type 0
TakesFault code errno s t =
    ((code ≡ ok) ⊎ (code ≡ memory))
    × (code ≡ ok → Fails errno s t)
    × (code ≡ memory → (t.requests ≡ s.requests) × SameReaders s t × (t.is_congested ≡ s.is_congested))
    × SameNames s t × SameMails s t × (t.awaited ≡ s.awaited)

-- the link was seen empty
abbrev pub FallsQuiet : Session → Session → Type 0
FallsQuiet s t =
    ((q : ℕ) → at t.requests q ≡ among (ends_now s)
    (λ o. kept (changed_in o (λ r. record r { stage = settled r.stage }))) q (at s.requests q))
    × LineIsChanged (ends_now s) (λ r. record r { stage = settled r.stage }) s t
    × (t.awaited.items ≡ (if answers_at_once s.protocol && is_idle s then [] else s.awaited.items))
    × (t.is_congested ≡ false)
    × SameNames s t × SameMails s t × SameReaders s t

-- ---- what is closed

-- the requests with other numbers are the same
abbrev pub SameOthers : ℕ → Session → Session → Type 0
SameOthers number s t = (q : ℕ) → nat_eq number q ≡ false → at t.requests q ≡ at s.requests q

-- nobody reads this request any more
abbrev pub Closes : ℕ → Session → Session → Type 0
Closes number s t =
    (at t.requests number ≡ closed_at (at s.requests number)) × SameOthers number s t
    × (t.requests.line ≡ without number s.requests.line) × SameReaders s t × SameSending s t

-- nobody reads multicast any more
abbrev pub ClosesMulticast : Session → Session → Type 0
ClosesMulticast s t =
    (t.multicast ≡ None) × (t.requests ≡ s.requests) × (t.unasked ≡ s.unasked) × SameSending s t
