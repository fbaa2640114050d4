-- A request that nothing answers to an end, as a change without an acknowledgement: it has ended when the link is seen
-- empty.
use Rattle.std.specs.Prelude.{◌≡◌, ◌⊎◌, ℕ, Bool, true, false, ◌&&◌, All, List, [], ◌∷◌, ◌++◌, Some}
use Rattle.neli_answers.specs.declared.answering.Answering.TheVariants as answered
use Rattle.neli_consts_system.specs.declared.socket.NlFamily.{NlFamily}
use Rattle.neli_lent.specs.Messages.{Lent}
use Rattle.neli_session.specs.declared.request.Request.{Request}
use Rattle.neli_session.specs.declared.request.Verdict.TheVariants as stands
use Rattle.neli_session.specs.Happenings.{left}
use Rattle.neli_session.specs.Histories.{Call, Moment, Quiet, last as session_after, read_of}
use Rattle.neli_session.specs.Mails.{answers_at_once}
use Rattle.neli_session.specs.Requests.{ends, verdict_of}
use Rattle.neli_session.specs.Sessions.{at, has_ended}
use Rattle.neli_session.specs.Verdicts.{IsClean}
use Rattle.neli_session.specs.Waiting.{as_items}
use Rattle.neli_session_laws.specs.Served.{Exchange, IsFine, answering, brought, echoes, goes_out, number, sent_after}

-- the link is seen empty once the request was sent, where the kernel answers while it is sent: nothing more comes
abbrev pub is_empty_by : NlFamily → Bool → Call → Bool
is_empty_by protocol was_sent Quiet = answers_at_once protocol && was_sent
is_empty_by protocol was_sent c = false

module _ (protocol : NlFamily) (port : ℕ) (echoing : Bool) (q : ℕ) where
  -- these messages come for it, or none, until the link is seen empty, where it is; then anything may happen
  abbrev pub ComesUntilEmpty : Bool → List (Lent ℕ) → List Moment → Bool → Type 0
  ComesUntilEmpty was_sent said [] is_empty = (said ≡ []) × (is_empty ≡ false)
  ComesUntilEmpty was_sent said (m ∷ ms) is_empty =
      (is_empty_by protocol was_sent m.call ≡ true → (said ≡ []) × (is_empty ≡ true))
      × (is_empty_by protocol was_sent m.call ≡ false → IsFine protocol was_sent m.call
      × (more : List (Lent ℕ)) × (said ≡ brought port echoing q m.call ++ more)
      × ComesUntilEmpty (sent_after m.call was_sent) more ms is_empty)

  -- the same from when the request goes out; before, anything may happen
  abbrev pub ComesOnceOutUntilEmpty : List (Lent ℕ) → List Moment → Bool → Type 0
  ComesOnceOutUntilEmpty said [] is_empty = (said ≡ []) × (is_empty ≡ false)
  ComesOnceOutUntilEmpty said (m ∷ ms) is_empty =
      (goes_out q m.call ≡ true → ComesUntilEmpty false said ms is_empty)
      × (goes_out q m.call ≡ false → ComesOnceOutUntilEmpty said ms is_empty)

-- these messages come for the request, as the notifications of its change if it has ECHO, or none, and then the link is
-- seen empty, or not yet
abbrev pub IsLeftAlone : Exchange → List (Lent ℕ) → Bool → Type 0
IsLeftAlone x said is_empty = ComesOnceOutUntilEmpty x.new.protocol x.new.port (echoes x) (number x) said x.later is_empty

-- a message that is no error, and decides no verdict
abbrev pub IsNotice : Lent ℕ → Type 0
IsNotice m = (ends answered.Silence m ≡ false) × IsClean m

-- what its reads returned, and what is still to be read, are these messages; once the link was seen empty it has ended, and
-- is complete
pub record IsDone (x : Exchange) (said : List (Lent ℕ)) (is_empty : Bool) : Type 0 where
  pub request : Request
  pub is : at (session_after x.sent x.later).requests (number x) ≡ Some request
  pub read : read_of (number x) x.sent x.later ++ left request ≡ as_items said
  pub ended : is_empty ≡ true → has_ended request ≡ true
  pub verdict : (verdict_of request ≡ stands.Pending) ⊎ (verdict_of request ≡ stands.Complete)
  pub at_last : is_empty ≡ true → left request ≡ [] → verdict_of request ≡ stands.Complete

-- ---- the law

-- each request that nothing is to answer to an end is complete once the link was seen empty
abbrev pub SilentRequestsAreComplete : Type 0
SilentRequestsAreComplete =
    (x : Exchange) (said : List (Lent ℕ)) (is_empty : Bool) → answering x ≡ answered.Silence → All IsNotice said
    → IsLeftAlone x said is_empty → IsDone x said is_empty
