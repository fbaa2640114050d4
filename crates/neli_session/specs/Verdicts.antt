-- When the verdict on an answer is that it is complete.
use Rattle.std.specs.Prelude.{◌≡◌, ◌≢◌, ℕ, Bool, true, false, List, [], ◌∷◌, ◌++◌}
use Rattle.std.specs.List.{All}
use Rattle.neli_answers.specs.declared.answering.Answering.{Answering}
use Rattle.neli_answers.specs.declared.answering.Answering.TheVariants as answered
use Rattle.neli_lent.specs.Messages.{Lent}
use Rattle.neli_session.specs.declared.request.Verdict.{Verdict}
use Rattle.neli_session.specs.declared.request.Verdict.TheVariants as stands
use Rattle.neli_session.specs.Happenings.{Happening, after_happenings, answer, returned_by}
use Rattle.neli_session.specs.Requests.{ends, message_verdict, verdict_of, verdict_with}
use Rattle.neli_session.specs.Sessions.{queued}
use Rattle.neli_session.specs.Waiting.{Item, as_items}

-- it decides no verdict: it is not marked as interrupted, and has no other code than 0
abbrev pub IsClean : Lent ℕ → Type 0
IsClean m = message_verdict m ≡ stands.Pending

-- messages, and no loss; none decides a verdict
abbrev pub AreClean : List Item → Type 0
AreClean xs = (ms : List (Lent ℕ)) × (xs ≡ as_items ms) × All IsClean ms

-- all of an answer: messages that decide no verdict, of which the last ends it and no other does
pub record IsWholeAnswer (a : Answering) (xs : List Item) : Type 0 where
  pub front : List (Lent ℕ)
  pub last : Lent ℕ
  pub messages : xs ≡ as_items (front ++ last ∷ [])
  pub clean : All IsClean (front ++ last ∷ [])
  pub not_before : All (λ m. ends a m ≡ false) front
  pub at_last : ends a last ≡ true

-- a verdict after these items were read: the first that is not pending stays
abbrev pub verdict_after : Verdict → List Item → Verdict
verdict_after v [] = v
verdict_after v (x ∷ xs) = verdict_after (verdict_with v x) xs

-- ---- the laws

-- what its reads returned is noted, and nothing else
abbrev pub ReadsAreNoted : Type 0
ReadsAreNoted =
    (a : Answering) (echoes : Bool) (hs : List Happening)
    → (after_happenings hs (queued a echoes)).noted ≡ verdict_after stands.Pending (returned_by hs (queued a echoes))

-- where the verdict is that an answer is complete, its reads returned the answer, and nothing of it was lost or decides
-- another verdict; unless none was expected, it is whole
abbrev pub CompleteAnswersAreWhole : Type 0
CompleteAnswersAreWhole =
    (a : Answering) (echoes : Bool) (hs : List Happening)
    → verdict_of (after_happenings hs (queued a echoes)) ≡ stands.Complete
    → (returned_by hs (queued a echoes) ≡ answer a echoes hs) × AreClean (answer a echoes hs)
    × (a ≢ answered.Silence → IsWholeAnswer a (answer a echoes hs))

-- where an answer is whole and its reads returned it, the verdict is that it is complete
abbrev pub WholeAnswersAreComplete : Type 0
WholeAnswersAreComplete =
    (a : Answering) (echoes : Bool) (hs : List Happening)
    → IsWholeAnswer a (answer a echoes hs) → returned_by hs (queued a echoes) ≡ answer a echoes hs
    → verdict_of (after_happenings hs (queued a echoes)) ≡ stands.Complete
