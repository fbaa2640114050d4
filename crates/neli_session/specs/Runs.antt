-- A run: consecutive messages that are part of one answer.
use Rattle.std.specs.Prelude.{◌≡◌, ◌≤◌, ◌<◌, not, ◌&&◌, ◌==◌, ⊤, ℕ, Bool, true, false, if◌then◌else◌, List, [], ◌∷◌, ◌++◌, length, take}
use Rattle.std.specs.Prelude.{Option, Some, None}
use Rattle.neli_answers.specs.declared.answering.Answering.{Answering}
use Rattle.neli_lent.specs.Messages.{Lent}
use Rattle.neli_session.specs.declared.request.Request.{Request}
use Rattle.neli_session.specs.declared.request.Stage.TheVariants as stage
use Rattle.neli_session.specs.declared.run.Run.{Run}
use Rattle.neli_session.specs.Messages.{IsWhole, messages_of}
use Rattle.neli_session.specs.Readiness.{line_after_all}
use Rattle.neli_session.specs.Requests.{ends, keeps}
use Rattle.neli_session.specs.Sessions.{after_all, heard_of, kept, takes, unasked_of}
use Rattle.neli_session.specs.Waiting.{as_items}

-- the message k has the port and the sequence number of m
abbrev pub IsLike : Lent ℕ → Lent ℕ → Type 0
IsLike m k = (k.0.port ≡ m.0.port) × (k.0.sequence_number ≡ m.0.sequence_number)

-- these messages are like m, and none of them ends an answer of this kind
abbrev pub AreBefore : Answering → Lent ℕ → List (Lent ℕ) → Type 0
AreBefore a m [] = ⊤
AreBefore a m (k ∷ ks) = IsLike m k × (ends a k ≡ false) × AreBefore a m ks

-- messages like m, of which none but the last ends an answer of this kind; and whether the last does
pub record IsRun (a : Answering) (m : Lent ℕ) (ms : List (Lent ℕ)) (ended : Bool) : Type 0 where
  pub front : List (Lent ℕ)
  pub last : Lent ℕ
  pub messages : ms ≡ front ++ last ∷ []
  pub before : AreBefore a m front
  pub like : IsLike m last
  pub at_last : ends a last ≡ ended

-- bytes begin with a run, of so many bytes
pub record HasRun (a : Answering) (m : Lent ℕ) (bytes : List ℕ) (run : Run) : Type 0 where
  pub some : 0 < run.length
  pub within : run.length ≤ length bytes
  pub whole : IsWhole (take run.length bytes)
  pub messages : IsRun a m (messages_of (take run.length bytes)) run.ended

-- a request after a run of its answer
abbrev pub heard_run : List (Lent ℕ) → Bool → Request → Request
heard_run ms ended r = record r {
  waiting = if keeps r then r.waiting ++ as_items ms else r.waiting;
  stage = if ended then stage.Ended else r.stage;
}

-- the run at the front of bytes was taken by a request
abbrev pub HearsRun : ℕ → Lent ℕ → List ℕ → Run → Option Request → Option Request → Type 0
HearsRun group m bytes run None new = ⊥
HearsRun group m bytes run (Some r) new =
    HasRun r.answering m bytes run × (takes group (Some r) ≡ true)
    × (new ≡ kept (Some (heard_run (messages_of (take run.length bytes)) run.ended r)))

-- messages, of which the first is m, were taken by the request with its number
pub record AreTaken (group : ℕ) (m : Lent ℕ) (ms : List (Lent ℕ)) (old new : ℕ → Option Request)
    (line_before line_now : List ℕ) : Type 0 where
  pub requests : (q : ℕ) → new q ≡ after_all m.0.port group ms q (old q)
  pub line : line_now ≡ line_after_all m.0.port group ms old line_before
  pub unheard : (joined : Bool) → (not (group == 0) && joined) ≡ false → heard_of m.0.port group joined ms ≡ []
  pub unasked : unasked_of m.0.port group old ms ≡ []
