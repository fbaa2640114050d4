-- The simulator's answers to a request, as the messages that they are read as.
use Rattle.std.specs.Prelude.{◌≡◌, ◌≢◌, ◌⊎◌, ◌&&◌, ◌||◌, ◌==◌, ℕ, ℤ, pos, negsuc, Bool, true, false, All, FitsSigned, List, [], ◌∷◌}
use Rattle.std.specs.Prelude.{◌++◌, if◌then◌else◌, Ok}
use Rattle.std.specs.Int.{w32}
use Rattle.std.specs.Ordering.{int_eq}
use Rattle.neli_answers.specs.Answers.{ends_answer, has_all, is_part}
use Rattle.neli_answers.specs.declared.answering.Answering.{Answering}
use Rattle.neli_answers.specs.declared.answering.Answering.TheVariants as answered
use Rattle.neli_consts.specs.declared.nlm_f.NlmF.{NlmF}
use Rattle.neli_kernel.specs.Answers.{acknowledgement, capped_error, error, message_or_refusal}
use Rattle.neli_kernel.specs.Datagrams.{AreRead}
use Rattle.neli_kernel.specs.Delivered.{AreReadBack, IsAnswer, IsEnd, IsPlain}
use Rattle.neli_kernel.specs.Dumps.{Packed, datagrams_of, dump_end, finished}
use Rattle.neli_kernel.specs.declared.request.Request.{Request}
use Rattle.neli_lent.specs.Messages.{Lent}
use Rattle.neli_reader.specs.Answers.{Attributes}
use Rattle.neli_session.specs.declared.request.Verdict.{Verdict}
use Rattle.neli_session.specs.declared.request.Verdict.TheVariants as stands
use Rattle.neli_session.specs.Histories.{Receive}
use Rattle.neli_session_laws.specs.Answered.{IsAnswered, IsWholeAnswer, verdict_on}
use Rattle.neli_session_laws.specs.Busy.{NoneIsRefused}
use Rattle.neli_session_laws.specs.Served.{Exchange, IsServed, answering, brought}

-- a message for the request: with its number, to the port of its socket
abbrev pub IsFor : Request → Lent ℕ → Type 0
IsFor asked m = (m.0.sequence_number ≡ asked.header.sequence_number) × (m.0.port ≡ asked.port)

-- one with a body: neither an error or an acknowledgement (2) nor the end of a dump (3), and not marked as interrupted (16)
abbrev pub IsPart : Request → Lent ℕ → Type 0
IsPart asked m = IsFor asked m × IsPlain m.0.message_type × (has_all 16 m.0.flags ≡ false)

-- replies, as the notifications of a change that is echoed, or none, and then the acknowledgement
pub record IsAcknowledged (asked : Request) (said : List (Lent ℕ)) : Type 0 where
  pub replies : List (Lent ℕ)
  pub parts : All (IsPart asked) replies
  pub attrs : Attributes
  pub bytes : List ℕ
  pub is : IsAnswer asked (acknowledgement asked attrs) bytes
  pub last : Lent ℕ
  pub read : AreRead (bytes ∷ []) (last ∷ [])
  pub are : said ≡ replies ++ last ∷ []

-- an error with this code, negated, capped or with the whole request
pub record IsRefused (asked : Request) (code : ℤ) (said : List (Lent ℕ)) : Type 0 where
  pub some : code ≢ pos 0
  pub fits : FitsSigned w32 code
  pub attrs : Attributes
  pub bytes : List ℕ
  pub is : IsAnswer asked (capped_error asked code attrs) bytes ⊎ IsAnswer asked (error asked code attrs) bytes
  pub read : AreRead (bytes ∷ []) said

-- one reply, without MULTI
pub record IsReplied (asked : Request) (said : List (Lent ℕ)) : Type 0 where
  pub reply : Lent ℕ
  pub part : IsPart asked reply
  pub alone : is_part reply.0.flags ≡ false
  pub are : said ≡ reply ∷ []

-- a finished dump whose end has this code
pub record IsDumped (asked : Request) (code : ℤ) (said : List (Lent ℕ)) : Type 0 where
  pub limit : ℕ
  pub packed : Packed
  pub dumped : List (Lent ℕ)
  pub before : AreRead (datagrams_of packed) dumped
  pub parts : All (IsPart asked) dumped
  pub flags : NlmF
  pub unmarked : has_all 16 flags ≡ false
  pub attrs : Attributes
  pub text : List ℕ
  pub back : AreReadBack attrs text
  pub fits : IsEnd asked flags code
  pub datagrams : List (List ℕ)
  pub is : finished limit (message_or_refusal (λ n. n) (λ b. Ok b) (dump_end asked flags code attrs)) packed
      ≡ Ok datagrams
  pub read : AreRead datagrams said

-- the error ENOBUFS (105), as the socket's buffer was full when the dump began, and then the dump, whatever its end says
pub record IsDelayed (asked : Request) (said : List (Lent ℕ)) : Type 0 where
  pub refusal : List (Lent ℕ)
  pub refused : IsRefused asked (negsuc 104) refusal
  pub code : ℤ
  pub dump : List (Lent ℕ)
  pub dumped : IsDumped asked code dump
  pub are : said ≡ refusal ++ dump

-- an error with this code ends an answer of this kind, whatever its flags
abbrev pub Ends : Answering → ℤ → Type 0
Ends a code = (flags : NlmF) → ends_answer a 2 flags code ≡ true

-- the verdict on a dump whose end has this code
abbrev pub verdict_by : ℤ → Verdict
verdict_by code = if int_eq code (pos 0) then stands.Complete else stands.Failed code

-- the kernel answers by these messages a request that is answered so, and the verdict is that it is complete, or the code
-- by which the kernel refused it or ended its dump
pub data IsSimulated (asked : Request) (said : List (Lent ℕ)) : Answering → Verdict → Type 0 where
  Acknowledged : IsAcknowledged asked said → IsSimulated asked said answered.Acknowledgement stands.Complete
  Replied : IsReplied asked said → IsSimulated asked said answered.Reply stands.Complete
  Dumped : (code : ℤ) → IsDumped asked code said → IsSimulated asked said answered.Dump (verdict_by code)
  Refused : (a : Answering) (code : ℤ) → IsRefused asked code said → Ends a code
      → IsSimulated asked said a (stands.Failed code)
  Delayed : IsDelayed asked said → IsSimulated asked said answered.Dump (stands.Failed (negsuc 104))

-- ---- the laws

-- its answers are whole, with that verdict, and each of their messages is for the request
abbrev pub SimulatedAnswersAreWhole : Type 0
SimulatedAnswersAreWhole =
    (asked : Request) (said : List (Lent ℕ)) (a : Answering) (v : Verdict) → IsSimulated asked said a v
    → IsWholeAnswer a said × (verdict_on said ≡ v) × All (IsFor asked) said

-- each request that the simulator answers, as it is to be answered, reads that answer, with that verdict; where a dump was
-- refused because another one ran it would owe none
abbrev pub SimulatedRequestsAreAnswered : Type 0
SimulatedRequestsAreAnswered =
    (x : Exchange) (asked : Request) (said rest : List (Lent ℕ)) (v : Verdict)
    → (NoneIsRefused x → IsSimulated asked said (answering x) v) → IsServed x said rest → IsAnswered x said rest v

-- a datagram whose messages are for a request brings them to its number, if it came to no group, or if notifications are
-- part of its answer; and nothing to another number
abbrev pub DatagramsBringAnswers : Type 0
DatagramsBringAnswers =
    (asked : Request) (said : List (Lent ℕ)) (datagram : List ℕ) (group q : ℕ) (joined echoing : Bool)
    → AreRead (datagram ∷ []) said → All (IsFor asked) said
    → brought asked.port echoing q (Receive group joined datagram)
    ≡ (if ((group == 0) || echoing) && (asked.header.sequence_number == q) then said else [])
