-- A kernel's answer to one request, as it comes in a session's history.
use Rattle.std.specs.Prelude.{◌≡◌, ⊤, ℕ, Bool, true, false, ◌&&◌, ◌||◌, ◌==◌, if◌then◌else◌, List, [], ◌∷◌, ◌++◌, Option}
use Rattle.neli_answers.specs.Answers.{has_all}
use Rattle.neli_answers.specs.declared.answering.Answering.{Answering}
use Rattle.neli_consts_system.specs.declared.socket.NlFamily.{NlFamily}
use Rattle.neli_lent.specs.Messages.{Lent}
use Rattle.neli_session.specs.declared.session.Session.{Session}
use Rattle.neli_session.specs.Histories.{Call, Fault, HasSent, IsHistory, Moment, NotSent, Outgoing, Quiet, Receive, Sent}
use Rattle.neli_session.specs.Histories.{is_closed, is_in}
use Rattle.neli_session.specs.Mails.{answering_by, answers_at_once, numbers_in}
use Rattle.neli_session.specs.Messages.{IsWhole, messages_of}
use Rattle.neli_session.specs.Sessions.{is_own}

-- ---- the request

-- a request that a session sent and that is not closed: the session when it was new and when it sent the request, which
-- is a message of these bytes, how the caller says that it is answered, if he does, and the calls since then
pub record Exchange : Type 0 where
  pub new : Session
  pub sent : Session
  pub by : Option Answering
  pub bytes : List ℕ
  pub message : Lent ℕ
  pub later : List Moment
  pub has_sent : HasSent new by bytes message sent
  pub is_history : IsHistory sent later
  pub is_open : is_closed message.0.sequence_number later ≡ false

-- its number; how it is answered; and its notifications are part of its answer, as it has ECHO (8)
abbrev pub number : Exchange → ℕ
number x = x.message.0.sequence_number

abbrev pub answering : Exchange → Answering
answering x = answering_by x.new.protocol x.by x.message

abbrev pub echoes : Exchange → Bool
echoes x = has_all 8 x.message.0.flags

-- ---- what comes

-- of these messages those with this port and this number
abbrev pub own_of : ℕ → ℕ → List (Lent ℕ) → List (Lent ℕ)
own_of port q [] = []
own_of port q (m ∷ ms) =
    if is_own port m && (m.0.sequence_number == q) then m ∷ own_of port q ms else own_of port q ms

-- what a call brings for the request with the number q: a datagram's messages for it, if it came to no group, or if
-- notifications are part of its answer
abbrev pub brought : ℕ → Bool → ℕ → Call → List (Lent ℕ)
brought port echoing q (Receive group joined datagram) =
    if (group == 0) || echoing then own_of port q (messages_of datagram) else []
brought port echoing q c = []

-- a call that may be before all of the answer has come, where the request was sent or is on its way: a datagram is whole
-- messages, the link has no fault, and is not seen empty once the request was sent, since the kernel answers while it
-- is sent
abbrev pub IsFine : NlFamily → Bool → Call → Type 0
IsFine protocol was_sent (Receive group joined datagram) = IsWhole datagram
IsFine protocol was_sent (Fault errno) = ⊥
IsFine protocol was_sent (NotSent errno) = was_sent ≡ true
IsFine protocol was_sent Quiet = (answers_at_once protocol && was_sent) ≡ false
IsFine protocol was_sent c = ⊤

-- the request was sent, once what is on its way was
abbrev pub sent_after : Call → Bool → Bool
sent_after Sent was_sent = true
sent_after c was_sent = was_sent

-- a request with the number q goes out
abbrev pub goes_out : ℕ → Call → Bool
goes_out q (Outgoing o) = is_in q (numbers_in o)
goes_out q c = false

module _ (protocol : NlFamily) (port : ℕ) (echoing : Bool) (q : ℕ) where
  -- what is due comes, whatever comes for others in between, until the rest is still due; once all has come, anything
  -- may happen
  abbrev pub Comes : Bool → List (Lent ℕ) → List Moment → List (Lent ℕ) → Type 0
  Comes was_sent [] ms rest = rest ≡ []
  Comes was_sent (d ∷ due) [] rest = rest ≡ d ∷ due
  Comes was_sent (d ∷ due) (m ∷ ms) rest =
      IsFine protocol was_sent m.call
      × (more : List (Lent ℕ)) × (d ∷ due ≡ brought port echoing q m.call ++ more)
      × Comes (sent_after m.call was_sent) more ms rest

  -- from when the request goes out its answer, `said`, comes, until the rest is still due; before, anything may happen
  abbrev pub ComesOnceOut : List (Lent ℕ) → List Moment → List (Lent ℕ) → Type 0
  ComesOnceOut said [] rest = rest ≡ said
  ComesOnceOut said (m ∷ ms) rest =
      (goes_out q m.call ≡ true → Comes false said ms rest)
      × (goes_out q m.call ≡ false → ComesOnceOut said ms rest)

-- these messages come as the answer to the request, the rest later
abbrev pub IsServed : Exchange → List (Lent ℕ) → List (Lent ℕ) → Type 0
IsServed x said rest = ComesOnceOut x.new.protocol x.new.port (echoes x) (number x) said x.later rest
