-- A request that is answered: what its reads return, and the verdict.
use Rattle.std.specs.Prelude.{◌≡◌, ◌⊎◌, ℕ, true, false, List, [], ◌∷◌, ◌++◌, All, Some, None}
use Rattle.neli_answers.specs.declared.answering.Answering.{Answering}
use Rattle.neli_lent.specs.Messages.{Lent}
use Rattle.neli_session.specs.declared.request.Request.{Request}
use Rattle.neli_session.specs.declared.request.Verdict.{Verdict}
use Rattle.neli_session.specs.declared.request.Verdict.TheVariants as stands
use Rattle.neli_session.specs.Happenings.{left}
use Rattle.neli_session.specs.Histories.{last as session_after, read_of}
use Rattle.neli_session.specs.Requests.{ends, verdict_at, verdict_of}
use Rattle.neli_session.specs.Sessions.{at, has_ended}
use Rattle.neli_session.specs.Verdicts.{verdict_after}
use Rattle.neli_session.specs.Waiting.{as_items}
use Rattle.neli_session_laws.specs.Served.{Exchange, IsServed, answering, number}

-- the messages of a whole answer: the last ends it, and no other does
pub record IsWholeAnswer (a : Answering) (said : List (Lent ℕ)) : Type 0 where
  pub front : List (Lent ℕ)
  pub last : Lent ℕ
  pub are : said ≡ front ++ last ∷ []
  pub not_before : All (λ m. ends a m ≡ false) front
  pub at_last : ends a last ≡ true

-- the verdict on a whole answer: the first that one of its messages decides, or else that it is complete
abbrev pub verdict_on : List (Lent ℕ) → Verdict
verdict_on said = verdict_at (verdict_after stands.Pending (as_items said)) None stands.Complete

-- after these calls, where the rest of the answer `said` is still due, whose verdict is `v`
pub record IsAnswered (x : Exchange) (said rest : List (Lent ℕ)) (v : Verdict) : Type 0 where
  pub request : Request
  pub is : at (session_after x.sent x.later).requests (number x) ≡ Some request
  -- its reads returned what has come of it, but for what is still to be read: each message once and in order
  pub came : List (Lent ℕ)
  pub all : said ≡ came ++ rest
  pub read : read_of (number x) x.sent x.later ++ left request ≡ as_items came
  -- once all has come it has ended
  pub ended : rest ≡ [] → has_ended request ≡ true
  -- its verdict is that one once all was read, and pending or that one before
  pub verdict : (verdict_of request ≡ stands.Pending) ⊎ (verdict_of request ≡ v)
  pub at_last : rest ≡ [] → left request ≡ [] → verdict_of request ≡ v

-- ---- the law

-- each request that a kernel answers by a whole answer reads that answer, whatever else comes or happens
abbrev pub RequestsAreAnswered : Type 0
RequestsAreAnswered =
    (x : Exchange) (said rest : List (Lent ℕ)) → IsWholeAnswer (answering x) said → IsServed x said rest
    → IsAnswered x said rest (verdict_on said)
