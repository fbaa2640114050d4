-- Histories: the calls of a session, one after the other, and what they are for one request.
use Rattle.std.specs.Prelude.{◌≡◌, ⊤, ℕ, ℤ, pos, Bool, true, false, ◌&&◌, ◌||◌, ◌==◌, nat_eq, if◌then◌else◌, List, []}
use Rattle.std.specs.Prelude.{◌∷◌, ◌++◌, map, Option, Some, None, Err, is_some}
use Rattle.std.specs.Bool.{beq}
use Rattle.std.specs.Ordering.{int_eq}
use Rattle.neli_answers.specs.Answers.{has_all}
use Rattle.neli_answers.specs.declared.answering.Answering.{Answering}
use Rattle.neli_wire.specs.declared.errors.DeError.{DeError}
use Rattle.neli_consts_system.specs.declared.socket.NlFamily.{NlFamily}
use Rattle.neli_lent.specs.Messages.{Lent, messages_in}
use Rattle.neli_session.specs.declared.change.Change.{Change}
use Rattle.neli_session.specs.declared.change.Change.TheVariants as change
use Rattle.neli_session.specs.declared.loss.Loss.TheVariants as loss
use Rattle.neli_session.specs.declared.request.Request.{Request}
use Rattle.neli_session.specs.declared.session.Session.{Session}
use Rattle.neli_session.specs.Happenings.{Changed, Happening, Read, after_happenings, answer, came_for, item_list, left}
use Rattle.neli_session.specs.Happenings.{returned_by}
pub use Rattle.neli_session.specs.Lines.{is_in}
use Rattle.neli_session.specs.Messages.{IsWhole, messages_of}
use Rattle.neli_session.specs.Requests.{first_item, is_over, next_item}
use Rattle.neli_session.specs.Mails.{Mail, answering_by, answers_at_once, entries_of, mail_of, numbers_in, on_its_way}
use Rattle.neli_session.specs.Mails.{running_with, still_waiting}
use Rattle.neli_session.specs.Sends.{IsQueued, NothingQueued, SameNames, SameMails, SameReaders, SameSending}
use Rattle.neli_session.specs.Sends.{ends_now, is_idle, is_running, next_of, runs_now}
use Rattle.neli_session.specs.Sessions.{HaveCome, HaveComeBeforeLoss, among, at, closed_at, gains, heard_of, kept_queue}
use Rattle.neli_session.specs.Sessions.{passed_at, queued, unasked_of, when, without_first}
use Rattle.neli_session.specs.Waiting.{Item}

-- ---- calls

-- a call, with its arguments and what came of it
pub data Call : Type 0 where
  -- these bytes were sent by `send`, `send_expecting` or `request`, to be answered so, or as the table says
  Send : Option Answering → List ℕ → Call
  -- a call was refused and changed nothing, a number was taken or set, or the session was asked
  Ask : Call
  -- `next_outgoing` chose this to go out, or nothing more
  Outgoing : Option Mail → Call
  -- `sent`, and `not_sent` with its errno
  Sent : Call
  NotSent : ℤ → Call
  -- `receive`: the group, whether the session is in it, the datagram, or what of it was taken in before memory ran out
  Receive : ℕ → Bool → List ℕ → Call
  -- `fault` with its errno, and `quiet`
  Fault : ℤ → Call
  Quiet : Call
  -- `pass_answer` of this number, `pass_multicast` and `pass_unasked`
  PassAnswer : ℕ → Call
  PassMulticast : Call
  PassUnasked : Call
  -- `close` of this number, and `close_multicast`
  Close : ℕ → Call
  CloseMulticast : Call

-- ---- what a call does: the clauses of its contract

-- protocol, port, readers, and what is on its way are the same
abbrev pub SameButQueued : Session → Session → Type 0
SameButQueued old new =
    (new.protocol ≡ old.protocol) × (new.port ≡ old.port) × SameReaders old new × (new.leaving ≡ old.leaving)
    × (new.running ≡ old.running) × (new.is_congested ≡ old.is_congested)

-- names, readers, and which requests are awaited are the same
abbrev pub SameButOutgoing : Session → Session → Type 0
SameButOutgoing old new =
    SameNames old new × SameReaders old new × (new.awaited ≡ old.awaited) × (new.is_congested ≡ old.is_congested)

-- this went out, or nothing more
abbrev pub GoesOut : Option Mail → Session → Session → Type 0
GoesOut o old new =
    (next_of old ≡ o) × (new.leaving ≡ on_its_way old.leaving o)
    × (new.outbox.items ≡ still_waiting o (runs_now old.running (at old.requests)) old.outbox.items)
    × (new.running ≡ running_with o old.running)
    × ((q : ℕ) → at new.requests q ≡ among (numbers_in o) (when change.Leave) q (at old.requests q))
    × SameButOutgoing old new

-- what was on its way was sent, or not
abbrev pub IsGone : Change → Session → Session → Type 0
IsGone by old new =
    (new.leaving ≡ None)
    × ((q : ℕ) → at new.requests q ≡ among (numbers_in old.leaving) (when by) q (at old.requests q))
    × (new.outbox ≡ old.outbox) × (new.running ≡ old.running) × SameButOutgoing old new

-- a datagram came: whole messages, or with a fault
abbrev pub IsReceived : ℕ → Bool → List ℕ → Session → Session → Type 0
IsReceived group joined datagram old new =
    (IsWhole datagram → HaveCome old.port group joined (messages_of datagram) (at old.requests) (at new.requests)
    old.multicast new.multicast old.unasked new.unasked)
    × ((e : DeError) → (messages_in {K = ℕ} (λ n. n) datagram).1 ≡ Some e
    → HaveComeBeforeLoss old.port group joined (messages_of datagram) old.awaited.items (at old.requests)
    (at new.requests) old.multicast new.multicast old.unasked new.unasked)
    × SameSending old new

-- the link reported a fault
abbrev pub IsLost : ℤ → Session → Session → Type 0
IsLost errno old new =
    ((q : ℕ) → at new.requests q
    ≡ among old.awaited.items (when (change.Lose (loss.Link errno))) q (at old.requests q))
    × (new.multicast ≡ gains (Err (loss.Link errno) ∷ []) old.multicast)
    × (new.unasked ≡ gains (Err (loss.Link errno) ∷ []) old.unasked)
    × (new.is_congested ≡ (int_eq errno (pos 105) || old.is_congested))
    × SameNames old new × SameMails old new × (new.awaited ≡ old.awaited)

-- the link was seen empty
abbrev pub IsQuiet : Session → Session → Type 0
IsQuiet old new =
    ((q : ℕ) → at new.requests q ≡ among (ends_now old) (when change.Settle) q (at old.requests q))
    × (new.awaited.items ≡ (if answers_at_once old.protocol && is_idle old then [] else old.awaited.items))
    × (new.is_congested ≡ false)
    × SameNames old new × SameMails old new × SameReaders old new

-- this happened to one request, and nothing to the others
abbrev pub IsOfOne : ℕ → (Option Request → Option Request) → Session → Session → Type 0
IsOfOne p f old new =
    (at new.requests p ≡ f (at old.requests p))
    × ((q : ℕ) → nat_eq p q ≡ false → at new.requests q ≡ at old.requests q)
    × (new.multicast ≡ old.multicast) × (new.unasked ≡ old.unasked) × SameSending old new

-- the session before and after a call
abbrev pub IsStep : Call → Session → Session → Type 0
IsStep (Send by bytes) old new = IsQueued bytes (entries_of old.protocol by bytes) old new × SameButQueued old new
IsStep Ask old new = NothingQueued old new × SameButQueued old new
IsStep (Outgoing o) old new = GoesOut o old new
IsStep Sent old new = IsGone change.Sent old new
IsStep (NotSent errno) old new = IsGone (change.Unsent errno) old new
IsStep (Receive group joined datagram) old new = IsReceived group joined datagram old new
IsStep (Fault errno) old new = IsLost errno old new
IsStep Quiet old new = IsQuiet old new
IsStep (PassAnswer p) old new = IsOfOne p passed_at old new
IsStep PassMulticast old new =
    (new.multicast ≡ without_first old.multicast) × (new.requests ≡ old.requests) × (new.unasked ≡ old.unasked)
    × SameSending old new
IsStep PassUnasked old new =
    (new.unasked ≡ without_first old.unasked) × (new.requests ≡ old.requests) × (new.multicast ≡ old.multicast)
    × SameSending old new
IsStep (Close p) old new = IsOfOne p closed_at old new
IsStep CloseMulticast old new =
    (new.multicast ≡ None) × (new.requests ≡ old.requests) × (new.unasked ≡ old.unasked) × SameSending old new

-- ---- one call after the other

-- a call, and the session after it
pub record Moment : Type 0 where
  pub call : Call
  pub session : Session

-- a session that was just made
abbrev pub IsNew : Session → Type 0
IsNew s =
    ((q : ℕ) → at s.requests q ≡ None) × (s.awaited.items ≡ []) × (s.outbox.items ≡ []) × (s.leaving ≡ None)
    × (s.running ≡ None) × (s.is_congested ≡ false) × (s.multicast ≡ Some []) × (keeps : Bool)
    × (s.unasked ≡ kept_queue keeps)

-- these calls follow one another, from this session on
abbrev pub IsHistory : Session → List Moment → Type 0
IsHistory s [] = ⊤
IsHistory s (m ∷ ms) = IsStep m.call s m.session × IsHistory m.session ms

-- the session after them
abbrev pub last : Session → List Moment → Session
last s [] = s
last s (m ∷ ms) = last m.session ms

-- ---- what the calls are for the request with one number

-- it happens, or does not
abbrev pub if_so : Bool → Happening → List Happening
if_so true h = h ∷ []
if_so false h = []

-- by one call: of a session of this protocol with this port, for the request with the number q
abbrev pub happens : NlFamily → ℕ → ℕ → Call → List Happening
happens protocol port q (Outgoing o) = if_so (is_in q (numbers_in o)) (Changed change.Leave)
happens protocol port q Sent = Changed change.Sent ∷ []
happens protocol port q (NotSent errno) = Changed (change.Unsent errno) ∷ []
happens protocol port q (Receive group joined datagram) =
    came_for port group q (messages_of datagram)
    ++ if_so (is_some (messages_in {K = ℕ} (λ n. n) datagram).1) (Changed (change.Lose loss.Datagram))
happens protocol port q (Fault errno) = Changed (change.Lose (loss.Link errno)) ∷ []
happens protocol port q Quiet = if_so (answers_at_once protocol) (Changed change.Settle)
happens protocol port q (PassAnswer p) = if_so (p == q) Read
happens protocol port q c = []

-- by all of them, in order
abbrev pub happenings : NlFamily → ℕ → ℕ → List Moment → List Happening
happenings protocol port q [] = []
happenings protocol port q (m ∷ ms) = happens protocol port q m.call ++ happenings protocol port q ms

-- the request is closed by one of them
abbrev pub closes : ℕ → Call → Bool
closes q (Close p) = p == q
closes q c = false

abbrev pub is_closed : ℕ → List Moment → Bool
is_closed q [] = false
is_closed q (m ∷ ms) = closes q m.call || is_closed q ms

-- ---- what its reads return

-- the next item of its answer, if there is one
abbrev pub next_at : Option Request → List Item
next_at None = []
next_at (Some r) = item_list (next_item r)

-- the item that a call passes, if it reads this request
abbrev pub passes : ℕ → Session → Call → List Item
passes q s (PassAnswer p) = if p == q then next_at (at s.requests q) else []
passes q s c = []

-- all that its reads returned, in order
abbrev pub read_of : ℕ → Session → List Moment → List Item
read_of q s [] = []
read_of q s (m ∷ ms) = passes q s m.call ++ read_of q m.session ms

-- the request with the number q, which was `r`, is as these happenings leave it, and its reads returned the same
pub record IsFollowed (q : ℕ) (s : Session) (ms : List Moment) (hs : List Happening) (r : Request) : Type 0 where
  pub is : at (last s ms).requests q ≡ Some (after_happenings hs r)
  pub read : read_of q s ms ≡ returned_by hs r

-- ---- what the readers of multicast and of the unasked get

-- of a datagram with a fault: the loss of its rest
abbrev pub rest_lost : List ℕ → List Item
rest_lost datagram = if is_some (messages_in {K = ℕ} (λ n. n) datagram).1 then Err loss.Datagram ∷ [] else []

-- multicast, by one call of a session with this port
abbrev pub heard_by : ℕ → Call → List Item
heard_by port (Receive group joined datagram) = heard_of port group joined (messages_of datagram) ++ rest_lost datagram
heard_by port (Fault errno) = Err (loss.Link errno) ∷ []
heard_by port c = []

abbrev pub heard_in : ℕ → List Moment → List Item
heard_in port [] = []
heard_in port (m ∷ ms) = heard_by port m.call ++ heard_in port ms

-- the unasked, by one call of this session: what answers no request, as the requests are then
abbrev pub unasked_by : Session → Call → List Item
unasked_by s (Receive group joined datagram) =
    unasked_of s.port group (at s.requests) (messages_of datagram) ++ rest_lost datagram
unasked_by s (Fault errno) = Err (loss.Link errno) ∷ []
unasked_by s c = []

abbrev pub unasked_in : Session → List Moment → List Item
unasked_in s [] = []
unasked_in s (m ∷ ms) = unasked_by s m.call ++ unasked_in m.session ms

-- the next item of a queue, if there is one
abbrev pub next_in : Option (List Item) → List Item
next_in None = []
next_in (Some xs) = item_list (first_item xs None)

-- the item that a call passes
abbrev pub passes_multicast : Session → Call → List Item
passes_multicast s PassMulticast = next_in s.multicast
passes_multicast s c = []

abbrev pub passes_unasked : Session → Call → List Item
passes_unasked s PassUnasked = next_in s.unasked
passes_unasked s c = []

-- what was read of them, in order
abbrev pub multicast_read : Session → List Moment → List Item
multicast_read s [] = []
multicast_read s (m ∷ ms) = passes_multicast s m.call ++ multicast_read m.session ms

abbrev pub unasked_read : Session → List Moment → List Item
unasked_read s [] = []
unasked_read s (m ∷ ms) = passes_unasked s m.call ++ unasked_read m.session ms

-- multicast is closed by one of them
abbrev pub closes_multicast : Call → Bool
closes_multicast CloseMulticast = true
closes_multicast c = false

abbrev pub is_multicast_closed : List Moment → Bool
is_multicast_closed [] = false
is_multicast_closed (m ∷ ms) = closes_multicast m.call || is_multicast_closed ms

-- ---- a request that was sent

-- the message is one of these
abbrev pub IsOneOf : Lent ℕ → List (Lent ℕ) → Type 0
IsOneOf m ms = (front : List (Lent ℕ)) × (rest : List (Lent ℕ)) × (ms ≡ front ++ m ∷ rest)

-- the session s was just made; after some calls these bytes were sent, of which m is a message; t is the session then
pub record HasSent (s : Session) (by : Option Answering) (bytes : List ℕ) (m : Lent ℕ) (t : Session) : Type 0 where
  pub is_new : IsNew s
  pub calls : List Moment
  pub came : IsHistory s calls
  pub sent : IsStep (Send by bytes) (last s calls) t
  pub one : IsOneOf m (messages_of bytes)

-- one of these calls sends a request with the number q
abbrev pub sends : ℕ → Call → Bool
sends q (Send by bytes) = is_in q (map (λ m. m.0.sequence_number) (messages_of bytes))
sends q c = false

abbrev pub is_sent_again : ℕ → List Moment → Bool
is_sent_again q [] = false
is_sent_again q (m ∷ ms) = sends q m.call || is_sent_again q ms

-- nothing more comes of its answer, whatever happens
abbrev pub NothingComes : Answering → Bool → List Happening → Type 0
NothingComes a echoes hs =
    (is_over (after_happenings hs (queued a echoes)).stage ≡ true)
    × ((more : List Happening) → answer a echoes (hs ++ more) ≡ answer a echoes hs)

-- ---- what goes out

-- of these datagrams those with a dump, or those without
abbrev pub those : Bool → List Mail → List Mail
those dump [] = []
those dump (p ∷ ps) = if beq (is_some p.dump) dump then p ∷ those dump ps else those dump ps

-- what was sent by these calls, and what went out, in order
abbrev pub sent_by : Session → Call → List Mail
sent_by s (Send by bytes) = mail_of bytes (entries_of s.protocol by bytes) ∷ []
sent_by s c = []

abbrev pub sent_in : Session → List Moment → List Mail
sent_in s [] = []
sent_in s (m ∷ ms) = sent_by s m.call ++ sent_in m.session ms

abbrev pub out_by : Call → List Mail
out_by (Outgoing (Some p)) = p ∷ []
out_by c = []

abbrev pub out_in : List Moment → List Mail
out_in [] = []
out_in (m ∷ ms) = out_by m.call ++ out_in ms

-- ---- the laws

-- what went out, and then what waits, is what was sent, each datagram once and in order: those with a dump among
-- themselves, and so those without
abbrev pub DatagramsGoOutInOrder : Type 0
DatagramsGoOutInOrder =
    (s : Session) (ms : List Moment) (dump : Bool) → IsNew s → IsHistory s ms
    → those dump (out_in ms) ++ those dump (last s ms).outbox.items ≡ those dump (sent_in s ms)

-- at most one dump runs: of all requests one at most is answered by a dump and is awaited
abbrev pub OneDumpRuns : Type 0
OneDumpRuns =
    (s : Session) (ms : List Moment) → IsNew s → IsHistory s ms → (p q : ℕ)
    → is_running (at (last s ms).requests p) ≡ true → is_running (at (last s ms).requests q) ≡ true → p ≡ q

-- in the first session no dump runs, and in the second one that with the number n does
pub record BeginsAlone (n : ℕ) (s t : Session) : Type 0 where
  pub alone : (q : ℕ) → is_running (at s.requests q) ≡ false
  pub begins : is_running (at t.requests n) ≡ true

-- a datagram with a dump goes out only while no dump runs, and from then on its dump runs
abbrev pub DumpsTakeTurns : Type 0
DumpsTakeTurns =
    (s t : Session) (ms : List Moment) (p : Mail) (n : ℕ) → IsNew s → IsHistory s ms
    → IsStep (Outgoing (Some p)) (last s ms) t → p.dump ≡ Some n → BeginsAlone n (last s ms) t

-- a request that was sent and is not closed is as what happened to it since then leaves one that waits to be sent, by
-- what the later calls are for its number, and its reads returned the same
abbrev pub RequestsAreFollowed : Type 0
RequestsAreFollowed =
    (s t : Session) (by : Option Answering) (bytes : List ℕ) (m : Lent ℕ) (later : List Moment)
    → HasSent s by bytes m t → IsHistory t later → is_closed m.0.sequence_number later ≡ false
    → IsFollowed m.0.sequence_number t later (happenings s.protocol s.port m.0.sequence_number later)
    (queued (answering_by s.protocol by m) (has_all 8 m.0.flags))

-- of a request that was sent and is not closed, what its reads returned, and then what is still to be read, is its
-- answer, by what the later calls are for its number
abbrev pub AnswersAreRead : Type 0
AnswersAreRead =
    (s t : Session) (by : Option Answering) (bytes : List ℕ) (m : Lent ℕ) (later : List Moment)
    → HasSent s by bytes m t → IsHistory t later → is_closed m.0.sequence_number later ≡ false
    → (r : Request) × (at (last t later).requests m.0.sequence_number ≡ Some r)
    × (read_of m.0.sequence_number t later ++ left r
    ≡ answer (answering_by s.protocol by m) (has_all 8 m.0.flags)
    (happenings s.protocol s.port m.0.sequence_number later))

-- the numbers of what is sent were not in use
abbrev pub SentNumbersWereFree : Type 0
SentNumbersWereFree =
    (s t : Session) (by : Option Answering) (bytes : List ℕ) (m : Lent ℕ) → IsStep (Send by bytes) s t
    → IsOneOf m (messages_of bytes) → at s.requests m.0.sequence_number ≡ None

-- a number that was sent is free again only where its request was closed, and nothing more comes of its answer
abbrev pub NumbersStayInUse : Type 0
NumbersStayInUse =
    (s t : Session) (by : Option Answering) (bytes : List ℕ) (m : Lent ℕ) (later : List Moment)
    → HasSent s by bytes m t → IsHistory t later → is_sent_again m.0.sequence_number later ≡ false
    → at (last t later).requests m.0.sequence_number ≡ None
    → (is_closed m.0.sequence_number later ≡ true)
    × NothingComes (answering_by s.protocol by m) (has_all 8 m.0.flags)
    (happenings s.protocol s.port m.0.sequence_number later)

-- whole messages in one datagram with what follows them are as they are in a datagram of their own
abbrev pub RegroupingChangesNothing : Type 0
RegroupingChangesNothing =
    (s t u : Session) (group : ℕ) (joined : Bool) (one two : List ℕ) → IsWhole one
    → IsStep (Receive group joined one) s t → IsStep (Receive group joined two) t u
    → IsStep (Receive group joined (one ++ two)) s u

-- what was read of multicast, and then what waits there, is what came to groups, with each loss in its place
abbrev pub MulticastIsRead : Type 0
MulticastIsRead =
    (s : Session) (ms : List Moment) → IsNew s → IsHistory s ms → is_multicast_closed ms ≡ false
    → (xs : List Item) × ((last s ms).multicast ≡ Some xs) × (multicast_read s ms ++ xs ≡ heard_in s.port ms)

-- the same of the unasked, where they are kept
abbrev pub UnaskedAreRead : Type 0
UnaskedAreRead =
    (s : Session) (ms : List Moment) → s.unasked ≡ Some [] → IsHistory s ms
    → (xs : List Item) × ((last s ms).unasked ≡ Some xs) × (unasked_read s ms ++ xs ≡ unasked_in s ms)
