-- Requests by their messages, the datagrams that wait to be sent, and which of them goes next.
use Rattle.std.specs.Prelude.{ℕ, Bool, true, false, not, ◌&&◌, if◌then◌else◌, List, [], ◌∷◌, length, map}
use Rattle.std.specs.Prelude.{◌+◌, Option, Some, None, Ok, bit_or, is_some}
use Rattle.neli_answers.specs.Answers.{answering_of, has_all}
pub use Rattle.neli_answers.specs.Times.{answers_at_once}
use Rattle.neli_answers.specs.declared.answering.Answering.{Answering}
use Rattle.neli_answers.specs.declared.answering.Answering.TheVariants as answered
use Rattle.neli_consts.specs.declared.nlm_f.NlmF.{NlmF}
use Rattle.neli_consts_system.specs.declared.socket.NlFamily.{NlFamily}
use Rattle.neli_lent.specs.Messages.{Lent}
use Rattle.neli_reader.specs.Builders.{header_with}
use Rattle.neli_reader.specs.Headers.{flags_of}
use Rattle.neli_reader.specs.NlPayload.TheVariants as payload
use Rattle.neli_reader.specs.Wires.{message_wire}
use Rattle.neli_wire.specs.Sizes.{align}
use Rattle.neli_wire.specs.Writing.{Wire}
use Rattle.neli_session.specs.declared.entry.Entry.{Entry}
use Rattle.neli_session.specs.Messages.{messages_of}

-- ---- requests

-- as the caller says, or else by the table
abbrev pub answering_by : NlFamily → Option Answering → Lent ℕ → Answering
answering_by protocol None m = answering_of protocol m.0.message_type m.0.flags (length m.1)
answering_by protocol (Some a) m = a

-- a request by its message: its number, how it is answered, and whether it has ECHO (8)
abbrev pub entry_of : NlFamily → Option Answering → Lent ℕ → Entry
entry_of protocol by m = record {
  number = m.0.sequence_number;
  answering = answering_by protocol by m;
  echoes = has_all 8 m.0.flags;
}

-- the requests that these bytes are
abbrev pub entries_of : NlFamily → Option Answering → List ℕ → List Entry
entries_of protocol by bytes = map (entry_of protocol by) (messages_of bytes)

-- the numbers of these requests
abbrev pub numbers_of : List Entry → List ℕ
numbers_of es = map (λ e. e.number) es

-- a request that is answered by a dump
abbrev pub is_dump : Answering → Bool
is_dump answered.Dump = true
is_dump a = false

-- the numbers of those that are answered by a dump
abbrev pub dumps_of : List Entry → List ℕ
dumps_of [] = []
dumps_of (e ∷ es) = if is_dump e.answering then e.number ∷ dumps_of es else dumps_of es

-- the first of these, if there is one
abbrev pub first_of : List ℕ → Option ℕ
first_of [] = None
first_of (n ∷ ns) = Some n

-- ---- the bytes of a request

-- the length of a request with this body: header and body, rounded up to four
abbrev pub request_length : List ℕ → ℕ
request_length body = align (16 + length body)

-- the bytes of a request with this port and number, of this type, with these flags and REQUEST (1), and this body
abbrev pub request_wire : ℕ → ℕ → ℕ → NlmF → List ℕ → Wire
request_wire port number type flags body = message_wire (λ n. n) (λ b. Ok b) (record {
  header = header_with (request_length body) type (flags_of (bit_or flags.0 1)) number port;
  payload = payload.Payload body;
})

-- ---- datagrams that wait

-- a datagram to send: its bytes, its requests' numbers, and which of them is answered by a dump, if one is
pub record Mail : Type 0 where
  pub bytes : List ℕ
  pub numbers : List ℕ
  pub dump : Option ℕ

-- the datagram of these bytes, which have these requests
abbrev pub mail_of : List ℕ → List Entry → Mail
mail_of bytes es = record { bytes = bytes; numbers = numbers_of es; dump = first_of (dumps_of es) }

-- it may go out while a dump runs, or none does
abbrev pub may_go : Bool → Mail → Bool
may_go runs p = not (runs && is_some p.dump)

-- there is none
abbrev pub is_none_waiting : List Mail → Bool
is_none_waiting [] = true
is_none_waiting (p ∷ ps) = false

-- the first that may go out
abbrev pub next_mail : Bool → List Mail → Option Mail
next_mail runs [] = None
next_mail runs (p ∷ ps) = if may_go runs p then Some p else next_mail runs ps

-- the others
abbrev pub without_next : Bool → List Mail → List Mail
without_next runs [] = []
without_next runs (p ∷ ps) = if may_go runs p then ps else p ∷ without_next runs ps

-- its numbers, if there is one
abbrev pub numbers_in : Option Mail → List ℕ
numbers_in None = []
numbers_in (Some p) = p.numbers

-- a dump that goes out is the one that runs
abbrev pub running_with : Option Mail → Option ℕ → Option ℕ
running_with None o = o
running_with (Some p) o = if is_some p.dump then p.dump else o

-- ---- the session's next datagram

-- nothing goes out before what is on its way has gone, nor while the link drops what comes
abbrev pub next_out : Bool → Option Mail → Bool → List Mail → Option Mail
next_out congested (Some p) runs ps = None
next_out true None runs ps = None
next_out false None runs ps = next_mail runs ps

-- what is on its way: as before, or what goes out
abbrev pub on_its_way : Option Mail → Option Mail → Option Mail
on_its_way (Some p) next = Some p
on_its_way None next = next

-- what still waits, where this goes out
abbrev pub still_waiting : Option Mail → Bool → List Mail → List Mail
still_waiting None runs ps = ps
still_waiting (Some p) runs ps = without_next runs ps
