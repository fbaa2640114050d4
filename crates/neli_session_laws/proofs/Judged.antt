-- The verdict on an answer, by what was read of it.
use Rattle.std.proofs.Common.{ℕ, ◌≡◌, Bool, true, false, false, List, [], ◌∷◌, ◌++◌, Option, Some, None, Ok}
use Rattle.std.proofs.Common.{refl, sym, ap, ◌∙◌, append_assoc, append-nil, inl, inr}
use Rattle.std.specs.Prelude.{◌⊎◌}
use Rattle.std.proofs.lemmas.List.{map-append}
use Rattle.neli_answers.specs.declared.answering.Answering.{Answering}
use Rattle.neli_lent.specs.Messages.{Lent}
use Rattle.neli_session.specs.declared.loss.Loss.{Loss}
use Rattle.neli_session.specs.declared.request.Request.{Request}
use Rattle.neli_session.specs.declared.request.Stage.{Stage}
use Rattle.neli_session.specs.declared.request.Stage.TheVariants as stage
use Rattle.neli_session.specs.declared.request.Verdict.{Verdict}
use Rattle.neli_session.specs.declared.request.Verdict.TheVariants as stands
use Rattle.neli_session.specs.Happenings.{left, loss_list}
use Rattle.neli_session.specs.Requests.{end_verdict, first_item, is_over, next_item, untold, verdict_at, verdict_of}
use Rattle.neli_session.specs.Requests.{verdict_with}
use Rattle.neli_session.specs.Verdicts.{verdict_after}
use Rattle.neli_session.specs.Waiting.{Item, as_items}
use Rattle.neli_session_laws.specs.Answered.{verdict_on}
use Rattle.neli_session_laws.proofs.Coming.{IsAt, no-truth}

pub after-both : (xs ys : List Item) (v : Verdict)
    → verdict_after v (xs ++ ys) ≡ verdict_after (verdict_after v xs) ys
after-both [] ys v = refl
after-both (x ∷ xs) ys v = after-both xs ys (verdict_with v x)

-- of a verdict: it is pending, or nothing that is read later changes it
stays : (v : Verdict) → (v ≡ stands.Pending)
    ⊎ (((xs : List Item) → verdict_after v xs ≡ v) × ((x : Option Item) (end : Verdict) → verdict_at v x end ≡ v))
stays stands.Pending = inl refl
stays stands.Complete = inr (after, λ x end. refl)
  where
    after : (xs : List Item) → verdict_after stands.Complete xs ≡ stands.Complete
    after [] = refl
    after (x ∷ xs) = after xs
stays stands.Interrupted = inr (after, λ x end. refl)
  where
    after : (xs : List Item) → verdict_after stands.Interrupted xs ≡ stands.Interrupted
    after [] = refl
    after (x ∷ xs) = after xs
stays (stands.Failed code) = inr (after, λ x end. refl)
  where
    after : (xs : List Item) → verdict_after (stands.Failed code) xs ≡ stands.Failed code
    after [] = refl
    after (x ∷ xs) = after xs
stays (stands.Lost l) = inr (after, λ x end. refl)
  where
    after : (xs : List Item) → verdict_after (stands.Lost l) xs ≡ stands.Lost l
    after [] = refl
    after (x ∷ xs) = after xs
stays stands.Unanswered = inr (after, λ x end. refl)
  where
    after : (xs : List Item) → verdict_after stands.Unanswered xs ≡ stands.Unanswered
    after [] = refl
    after (x ∷ xs) = after xs

-- ---- nothing is left

none-left : (xs : List Item) (l : Option Loss) → first_item xs l ≡ None → xs ++ loss_list l ≡ []
none-left (x ∷ xs) l is = absurd cc
none-left [] (Some l) is = absurd cc
none-left [] None is = refl

none-next : (xs : List Item) (l : Option Loss) → xs ++ loss_list l ≡ [] → first_item xs l ≡ None
none-next (x ∷ xs) l is = absurd cc
none-next [] (Some l) is = absurd cc
none-next [] None is = refl

pub pending-at : (s : Stage) (a : Answering) → is_over s ≡ false → end_verdict s a ≡ stands.Pending
pending-at stage.Queued a is = refl
pending-at stage.Leaving a is = refl
pending-at stage.Awaited a is = refl
pending-at stage.Ended a is = absurd cc
pending-at stage.Silent a is = absurd cc

-- where nothing of it is still due it has ended
abbrev pub is_nothing : List (Lent ℕ) → Bool
is_nothing [] = true
is_nothing (d ∷ due) = false

pub over-at : (rest : List (Lent ℕ)) (s : Stage) (a : Answering) → IsAt rest s → is_nothing rest ≡ true
    → (rest ≡ []) × (end_verdict s a ≡ stands.Complete)
over-at [] s a far none = (refl, ap (λ (x : Stage). end_verdict x a) far)
over-at (d ∷ due) s a far none = no-truth none

pub open-at : (rest : List (Lent ℕ)) (s : Stage) (a : Answering) → IsAt rest s → is_nothing rest ≡ false
    → end_verdict s a ≡ stands.Pending
open-at [] s a far some = no-truth (sym some)
open-at (d ∷ due) s a far some = pending-at s a far

-- ---- a request of whose answer all but the rest has come

module _ (r : Request) (said came rest : List (Lent ℕ)) (read : List Item) (all : said ≡ came ++ rest)
    (is : read ++ left r ≡ as_items came) (noted : r.noted ≡ verdict_after stands.Pending read) (done : Bool)
    (over : done ≡ true → (rest ≡ []) × (end_verdict r.stage r.answering ≡ stands.Complete))
    (goes_on : done ≡ false → end_verdict r.stage r.answering ≡ stands.Pending) where
  abbrev end : Verdict
  end = end_verdict r.stage r.answering

  nothing : next_item r ≡ None → read ≡ as_items came
  nothing none = sym (append-nil read) ∙ ap (λ (xs : List Item). read ++ xs) (sym (none-left r.waiting (untold r) none))
      ∙ is

  -- what was read, and what is still to be read or to come
  whole-items : as_items said ≡ read ++ (left r ++ as_items rest)
  whole-items = ap (λ (ms : List (Lent ℕ)). as_items ms) all ∙ map-append (λ m. Ok m) came rest
      ∙ ap (λ (xs : List Item). xs ++ as_items rest) (sym is) ∙ append_assoc read (left r) (as_items rest)

  -- where all has come
  all-came : rest ≡ [] → said ≡ came
  all-came none = all ∙ ap (λ (ms : List (Lent ℕ)). came ++ ms) none ∙ append-nil came

  all-noted : rest ≡ [] → read ≡ as_items came → r.noted ≡ verdict_after stands.Pending (as_items said)
  all-noted none read_is = noted ∙ ap (λ (xs : List Item). verdict_after stands.Pending xs)
      (read_is ∙ ap (λ (ms : List (Lent ℕ)). as_items ms) (sym (all-came none)))

  pub judged-last : done ≡ true → left r ≡ [] → verdict_of r ≡ verdict_on said
  judged-last finished read_all =
      let next = none-next r.waiting (untold r) read_all in
      ap (λ (x : Option Item). verdict_at r.noted x end) next
      ∙ ap (λ (v : Verdict). verdict_at r.noted None v) (over finished).1
      ∙ ap (λ (v : Verdict). verdict_at v None stands.Complete) (all-noted (over finished).0 (nothing next))

  -- what was read decides the verdict
  decided : ((xs : List Item) → verdict_after r.noted xs ≡ r.noted)
      → ((x : Option Item) (last : Verdict) → verdict_at r.noted x last ≡ r.noted) → verdict_of r ≡ verdict_on said
  decided after at = at (next_item r) end ∙ sym (
      ap (λ (xs : List Item). verdict_at (verdict_after stands.Pending xs) None stands.Complete) whole-items
      ∙ ap (λ (v : Verdict). verdict_at v None stands.Complete)
      (after-both read (left r ++ as_items rest) stands.Pending
      ∙ ap (λ (v : Verdict). verdict_after v (left r ++ as_items rest)) (sym noted)
      ∙ after (left r ++ as_items rest))
      ∙ at None stands.Complete
      )

  -- it does not
  undecided : r.noted ≡ stands.Pending → (next : Option Item) → next_item r ≡ next
      → (verdict_of r ≡ stands.Pending) ⊎ (verdict_of r ≡ verdict_on said)
  undecided pending (Some x) next = inl (
      ap (λ (v : Verdict). verdict_at v (next_item r) end) pending
      ∙ ap (λ (y : Option Item). verdict_at stands.Pending y end) next
      )
  undecided pending None next = by done refl
    where
      at_end : verdict_of r ≡ end
      at_end = ap (λ (v : Verdict). verdict_at v (next_item r) end) pending
          ∙ ap (λ (y : Option Item). verdict_at stands.Pending y end) next

      by : (b : Bool) → done ≡ b → (verdict_of r ≡ stands.Pending) ⊎ (verdict_of r ≡ verdict_on said)
      by true finished = inr (at_end ∙ (over finished).1 ∙ sym (
          ap (λ (v : Verdict). verdict_at v None stands.Complete)
          (sym (all-noted (over finished).0 (nothing next)) ∙ pending)
          ))
      by false open_is = inl (at_end ∙ goes_on open_is)

  pub judged : (verdict_of r ≡ stands.Pending) ⊎ (verdict_of r ≡ verdict_on said)
  judged = by (stays r.noted)
    where
      by : (r.noted ≡ stands.Pending) ⊎ (((xs : List Item) → verdict_after r.noted xs ≡ r.noted)
          × ((x : Option Item) (last : Verdict) → verdict_at r.noted x last ≡ r.noted))
          → (verdict_of r ≡ stands.Pending) ⊎ (verdict_of r ≡ verdict_on said)
      by (inl pending) = undecided pending (next_item r) refl
      by (inr (after, at)) = inr (decided after at)
