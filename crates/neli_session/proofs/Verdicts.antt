-- When the verdict is that an answer is complete: by its stage and by what was read.
use Rattle.std.proofs.Common.{ℕ, pos, ◌≡◌, ◌≢◌, Bool, true, false, ◌||◌, ◌==◌, if◌then◌else◌}
use Rattle.std.proofs.Common.{List, [], ◌∷◌, ◌++◌, All, Option, Some, None, Ok, Err, refl, sym, subst, ap, ◌∙◌}
use Rattle.std.specs.Prelude.{⊤}
use Rattle.std.proofs.lemmas.List.{append-nil}
use Rattle.std.proofs.lemmas.List.Elements.{All-nil, All-cons, All-head, All-tail}
use Rattle.std.specs.Ordering.{int_eq}
use Rattle.neli_answers.specs.Answers.{has_all}
use Rattle.neli_answers.specs.declared.answering.Answering.{Answering}
use Rattle.neli_answers.specs.declared.answering.Answering.TheVariants as answered
use Rattle.neli_lent.specs.Messages.{Lent, code_of}
use Rattle.neli_session.specs.declared.change.Change.TheVariants as change
use Rattle.neli_session.specs.declared.loss.Loss.{Loss}
use Rattle.neli_session.specs.declared.loss.Loss.TheVariants as loss
use Rattle.neli_session.specs.declared.request.Request.{Request}
use Rattle.neli_session.specs.declared.request.Stage.{Stage}
use Rattle.neli_session.specs.declared.request.Stage.TheVariants as stage
use Rattle.neli_session.specs.declared.request.Verdict.{Verdict}
use Rattle.neli_session.specs.declared.request.Verdict.TheVariants as stands
use Rattle.neli_session.specs.Requests.{answers, end_verdict, ends, first_item, heard, item_verdict}
use Rattle.neli_session.specs.Requests.{next_item, passed_by, unsent_at, untold}
use Rattle.neli_session.specs.Requests.{verdict_at, verdict_of, verdict_with}
use Rattle.neli_session.specs.Sessions.{queued}
use Rattle.neli_session.specs.Happenings.{Happening, Came, Changed, Read, after_happenings, answer, answer_since}
use Rattle.neli_session.specs.Happenings.{item_list, left, loss_list, returned, returned_by, stage_after, stage_by}
use Rattle.neli_session.specs.Happenings.{then_is, unsent_stage}
use Rattle.neli_session.specs.Verdicts.{AreClean, IsClean, IsWholeAnswer, verdict_after}
use Rattle.neli_session.specs.Waiting.{Item, as_items}
use Rattle.neli_session.proofs.AllRead.{reads-answer}

-- ---- the stage, by itself

-- x is r later on, at the stage s
record IsAt (r : Request) (s : Stage) (x : Request) : Type 0 where
  pub kind : x.answering ≡ r.answering
  pub echoing : x.echoes ≡ r.echoes
  pub stage_is : x.stage ≡ s

goes-on : (h : Happening) (r : Request) → IsAt r (stage_after r.answering r.echoes h r.stage) (then_is h r)
goes-on (Came group m) r = by (answers group r)
  where
    by : (b : Bool)
        → IsAt r (if b then (if ends r.answering m then stage.Ended else r.stage) else r.stage)
        (if b then heard m r else r)
    by true = record { kind = refl; echoing = refl; stage_is = refl }
    by false = record { kind = refl; echoing = refl; stage_is = refl }
goes-on (Changed change.Leave) r = record { kind = refl; echoing = refl; stage_is = refl }
goes-on (Changed change.Sent) r = record { kind = refl; echoing = refl; stage_is = refl }
goes-on (Changed (change.Unsent n)) r = by r.stage refl
  where
    by : (s : Stage) → r.stage ≡ s → IsAt r (unsent_stage s) (unsent_at s n r)
    by stage.Queued is = record { kind = refl; echoing = refl; stage_is = is }
    by stage.Leaving is = record { kind = refl; echoing = refl; stage_is = refl }
    by stage.Awaited is = record { kind = refl; echoing = refl; stage_is = is }
    by stage.Ended is = record { kind = refl; echoing = refl; stage_is = is }
    by stage.Silent is = record { kind = refl; echoing = refl; stage_is = is }
goes-on (Changed (change.Lose l)) r = record { kind = refl; echoing = refl; stage_is = refl }
goes-on (Changed change.Settle) r = record { kind = refl; echoing = refl; stage_is = refl }
goes-on Read r = by r.waiting (untold r)
  where
    by : (xs : List Item) (l : Option Loss) → IsAt r r.stage (passed_by xs l r)
    by (x ∷ xs) l = record { kind = refl; echoing = refl; stage_is = refl }
    by [] (Some l) = record { kind = refl; echoing = refl; stage_is = refl }
    by [] None = record { kind = refl; echoing = refl; stage_is = refl }

ends-at : (hs : List Happening) (r : Request)
    → IsAt r (stage_by r.answering r.echoes hs r.stage) (after_happenings hs r)
ends-at [] r = record { kind = refl; echoing = refl; stage_is = refl }
ends-at (h ∷ hs) r =
    let one = goes-on h r in
    let more = ends-at hs (then_is h r) in
    record {
      kind = more.kind ∙ one.kind;
      echoing = more.echoing ∙ one.echoing;
      stage_is = more.stage_is
          ∙ ap (λ (a : Answering). stage_by a (then_is h r).echoes hs (then_is h r).stage) one.kind
          ∙ ap (λ (e : Bool). stage_by r.answering e hs (then_is h r).stage) one.echoing
          ∙ ap (λ (s : Stage). stage_by r.answering r.echoes hs s) one.stage_is;
    }

-- ---- the verdict by what was read

after-both : (xs ys : List Item) (v : Verdict) → verdict_after v (xs ++ ys) ≡ verdict_after (verdict_after v xs) ys
after-both [] ys v = refl
after-both (x ∷ xs) ys v = after-both xs ys (verdict_with v x)

notes : (h : Happening) (r : Request) → (then_is h r).noted ≡ verdict_after r.noted (returned h r)
notes (Came group m) r = by (answers group r)
  where
    by : (b : Bool) → (if b then heard m r else r).noted ≡ r.noted
    by true = refl
    by false = refl
notes (Changed change.Leave) r = refl
notes (Changed change.Sent) r = refl
notes (Changed (change.Unsent n)) r = by r.stage
  where
    by : (s : Stage) → (unsent_at s n r).noted ≡ r.noted
    by stage.Queued = refl
    by stage.Leaving = refl
    by stage.Awaited = refl
    by stage.Ended = refl
    by stage.Silent = refl
notes (Changed (change.Lose l)) r = refl
notes (Changed change.Settle) r = refl
notes Read r = by r.waiting (untold r)
  where
    by : (xs : List Item) (l : Option Loss) → (passed_by xs l r).noted ≡ verdict_after r.noted (item_list (first_item xs l))
    by (x ∷ xs) l = refl
    by [] (Some l) = refl
    by [] None = refl

noted-is : (hs : List Happening) (r : Request) → (after_happenings hs r).noted ≡ verdict_after r.noted (returned_by hs r)
noted-is [] r = refl
noted-is (h ∷ hs) r = noted-is hs (then_is h r)
    ∙ ap (λ (v : Verdict). verdict_after v (returned_by hs (then_is h r))) (notes h r)
    ∙ sym (after-both (returned h r) (returned_by hs (then_is h r)) r.noted)

pub reads_noted : (a : Answering) (e : Bool) (hs : List Happening)
    → (after_happenings hs (queued a e)).noted ≡ verdict_after stands.Pending (returned_by hs (queued a e))
reads_noted a e hs = noted-is hs (queued a e)

pub stages_follow : (a : Answering) (e : Bool) (hs : List Happening)
    → ((after_happenings hs (queued a e)).answering ≡ a)
    × ((after_happenings hs (queued a e)).stage ≡ stage_by a e hs stage.Queued)
stages_follow a e hs = let at = ends-at hs (queued a e) in (at.kind, at.stage_is)

-- none of the items decides a verdict
abbrev DecideNothing : List Item → Type 0
DecideNothing [] = ⊤
DecideNothing (x ∷ xs) = (item_verdict x ≡ stands.Pending) × DecideNothing xs

undecided : (v : Verdict) (x : Item) → verdict_with v x ≡ stands.Pending
    → (v ≡ stands.Pending) × (item_verdict x ≡ stands.Pending)
undecided stands.Pending x is = (refl, is)
undecided stands.Complete x is = absurd cc
undecided stands.Interrupted x is = absurd cc
undecided (stands.Failed n) x is = absurd cc
undecided (stands.Lost l) x is = absurd cc
undecided stands.Unanswered x is = absurd cc

are-clean : (xs : List Item) (v : Verdict) → verdict_after v xs ≡ stands.Pending → (v ≡ stands.Pending) × DecideNothing xs
are-clean [] v is = (is, tt)
are-clean (x ∷ xs) v is =
    let more = are-clean xs (verdict_with v x) is in
    let one = undecided v x more.0 in
    (one.0, (one.1, more.1))

to-messages : (xs : List Item) → DecideNothing xs → AreClean xs
to-messages [] clean = ([], refl, All-nil IsClean)
to-messages (Ok m ∷ xs) clean =
    let more = to-messages xs clean.1 in
    (m ∷ more.0, ap (λ (ys : List Item). Ok m ∷ ys) more.1, All-cons IsClean m more.0 clean.0 more.2)
to-messages (Err l ∷ xs) clean = (let lost = clean.0 in absurd cc)

item-incomplete : (x : Item) → item_verdict x ≢ stands.Complete
item-incomplete (Ok m) is = by (has_all 16 m.0.flags) (int_eq (code_of m) (pos 0)) is
  where
    by : (marked fine : Bool) → (if marked then stands.Interrupted
        else (if fine then stands.Pending else stands.Failed (code_of m))) ≢ stands.Complete
    by true fine is = cc
    by false true is = cc
    by false false is = cc
item-incomplete (Err l) is = cc

with-incomplete : (v : Verdict) (x : Item) → v ≢ stands.Complete → verdict_with v x ≢ stands.Complete
with-incomplete stands.Pending x differs is = item-incomplete x is
with-incomplete stands.Complete x differs is = differs is
with-incomplete stands.Interrupted x differs is = differs is
with-incomplete (stands.Failed n) x differs is = differs is
with-incomplete (stands.Lost l) x differs is = differs is
with-incomplete stands.Unanswered x differs is = differs is

incomplete : (xs : List Item) (v : Verdict) → v ≢ stands.Complete → verdict_after v xs ≢ stands.Complete
incomplete [] v differs = differs
incomplete (x ∷ xs) v differs = incomplete xs (verdict_with v x) (with-incomplete v x differs)

-- ---- the verdict on the answer

at-complete : (v : Verdict) (x : Option Item) (last : Verdict) → v ≢ stands.Complete
    → verdict_at v x last ≡ stands.Complete → (v ≡ stands.Pending) × (x ≡ None) × (last ≡ stands.Complete)
at-complete stands.Pending None last differs is = (refl, refl, is)
at-complete stands.Pending (Some x) last differs is = absurd cc
at-complete stands.Complete x last differs is = absurd (differs refl)
at-complete stands.Interrupted x last differs is = absurd cc
at-complete (stands.Failed n) x last differs is = absurd cc
at-complete (stands.Lost l) x last differs is = absurd cc
at-complete stands.Unanswered x last differs is = absurd cc

none-left : (xs : List Item) (l : Option Loss) → first_item xs l ≡ None → xs ++ loss_list l ≡ []
none-left (x ∷ xs) l is = absurd cc
none-left [] (Some l) is = absurd cc
none-left [] None is = refl

ended-by : (s : Stage) (a : Answering) → a ≢ answered.Silence → end_verdict s a ≡ stands.Complete → s ≡ stage.Ended
ended-by stage.Ended a differs is = refl
ended-by stage.Silent answered.Silence differs is = absurd (differs refl)
ended-by stage.Silent answered.Dump differs is = absurd cc
ended-by stage.Silent answered.Acknowledgement differs is = absurd cc
ended-by stage.Silent answered.Reply differs is = absurd cc
ended-by stage.Queued a differs is = absurd cc
ended-by stage.Leaving a differs is = absurd cc
ended-by stage.Awaited a differs is = absurd cc

-- ---- an answer that has ended, and none of whose items decides a verdict, is whole

module _ (a : Answering) where
  last-alone : (m : Lent ℕ) → ends a m ≡ true → IsClean m → IsWholeAnswer a (Ok m ∷ [])
  last-alone m is clean = record {
    front = [];
    last = m;
    messages = refl;
    not_before = All-nil (λ m. ends a m ≡ false);
    at_last = is;
    clean = All-cons IsClean m [] clean (All-nil IsClean);
  }

  one-before : (m : Lent ℕ) (xs : List Item) → ends a m ≡ false → IsClean m
      → IsWholeAnswer a xs → IsWholeAnswer a (Ok m ∷ xs)
  one-before m xs is clean whole = record {
    front = m ∷ whole.front;
    last = whole.last;
    messages = ap (λ (ys : List Item). Ok m ∷ ys) whole.messages;
    not_before = All-cons (λ m. ends a m ≡ false) m whole.front is whole.not_before;
    at_last = whole.at_last;
    clean = All-cons IsClean m (whole.front ++ whole.last ∷ []) clean whole.clean;
  }

module _ (a : Answering) (e : Bool) where
  silent-stays : (hs : List Happening) → stage_by a e hs stage.Silent ≡ stage.Silent
  silent-stays [] = refl
  silent-stays (Came group m ∷ hs) = silent-stays hs
  silent-stays (Changed change.Leave ∷ hs) = silent-stays hs
  silent-stays (Changed change.Sent ∷ hs) = silent-stays hs
  silent-stays (Changed (change.Unsent n) ∷ hs) = silent-stays hs
  silent-stays (Changed (change.Lose l) ∷ hs) = silent-stays hs
  silent-stays (Changed change.Settle ∷ hs) = silent-stays hs
  silent-stays (Read ∷ hs) = silent-stays hs

  -- a message that came while the answer was awaited
  came-whole : (m : Lent ℕ) (hs : List Happening) (xs : List Item) (s : Stage)
      → (DecideNothing xs → stage_by a e hs s ≡ stage.Ended → IsWholeAnswer a xs)
      → (mine last : Bool) → ends a m ≡ last
      → DecideNothing (if mine then Ok m ∷ (if last then [] else xs) else xs)
      → stage_by a e hs (if mine then (if last then stage.Ended else s) else s) ≡ stage.Ended
      → IsWholeAnswer a (if mine then Ok m ∷ (if last then [] else xs) else xs)
  came-whole m hs xs s later true true is clean ended = last-alone a m is clean.0
  came-whole m hs xs s later true false is clean ended = one-before a m xs is clean.0 (later clean.1 ended)
  came-whole m hs xs s later false last is clean ended = later clean ended

  since-whole : (sent : Bool) (hs : List Happening) → DecideNothing (answer_since sent a e hs)
      → stage_by a e hs (if sent then stage.Awaited else stage.Leaving) ≡ stage.Ended
      → IsWholeAnswer a (answer_since sent a e hs)
  since-whole true [] clean ended = absurd cc
  since-whole false [] clean ended = absurd cc
  since-whole true (Came group m ∷ hs) clean ended =
      came-whole m hs (answer_since true a e hs) stage.Awaited (since-whole true hs)
      ((group == 0) || e) (ends a m) refl clean ended
  since-whole false (Came group m ∷ hs) clean ended =
      came-whole m hs (answer_since false a e hs) stage.Leaving (since-whole false hs)
      ((group == 0) || e) (ends a m) refl clean ended
  since-whole true (Changed change.Leave ∷ hs) clean ended = since-whole true hs clean ended
  since-whole false (Changed change.Leave ∷ hs) clean ended = since-whole false hs clean ended
  since-whole true (Changed change.Sent ∷ hs) clean ended = since-whole true hs clean ended
  since-whole false (Changed change.Sent ∷ hs) clean ended = since-whole true hs clean ended
  since-whole true (Changed (change.Unsent n) ∷ hs) clean ended = since-whole true hs clean ended
  since-whole false (Changed (change.Unsent n) ∷ hs) clean ended = (let differs = clean.0 in absurd cc)
  since-whole true (Changed (change.Lose l) ∷ hs) clean ended = (let differs = clean.0 in absurd cc)
  since-whole false (Changed (change.Lose l) ∷ hs) clean ended = (let differs = clean.0 in absurd cc)
  since-whole true (Changed change.Settle ∷ hs) clean ended = (let differs = sym (silent-stays hs) ∙ ended in absurd cc)
  since-whole false (Changed change.Settle ∷ hs) clean ended = since-whole false hs clean ended
  since-whole true (Read ∷ hs) clean ended = since-whole true hs clean ended
  since-whole false (Read ∷ hs) clean ended = since-whole false hs clean ended

  answer-whole : (hs : List Happening) → DecideNothing (answer a e hs) → stage_by a e hs stage.Queued ≡ stage.Ended
      → IsWholeAnswer a (answer a e hs)
  answer-whole [] clean ended = absurd cc
  answer-whole (Came group m ∷ hs) clean ended = answer-whole hs clean ended
  answer-whole (Changed change.Leave ∷ hs) clean ended = since-whole false hs clean ended
  answer-whole (Changed change.Sent ∷ hs) clean ended = answer-whole hs clean ended
  answer-whole (Changed (change.Unsent n) ∷ hs) clean ended = answer-whole hs clean ended
  answer-whole (Changed (change.Lose l) ∷ hs) clean ended = answer-whole hs clean ended
  answer-whole (Changed change.Settle ∷ hs) clean ended = answer-whole hs clean ended
  answer-whole (Read ∷ hs) clean ended = answer-whole hs clean ended

pub complete-whole : (a : Answering) (e : Bool) (hs : List Happening)
    → verdict_of (after_happenings hs (queued a e)) ≡ stands.Complete
    → (returned_by hs (queued a e) ≡ answer a e hs) × AreClean (answer a e hs)
    × (a ≢ answered.Silence → IsWholeAnswer a (answer a e hs))
complete-whole a e hs complete =
    let r = after_happenings hs (queued a e) in
    let got = returned_by hs (queued a e) in
    let noted = noted-is hs (queued a e) in
    let at = ends-at hs (queued a e) in
    let differs = subst (λ (v : Verdict). v ≢ stands.Complete) (sym noted)
    (incomplete got stands.Pending (λ is. cc)) in
    let by = at-complete r.noted (next_item r) (end_verdict r.stage r.answering) differs complete in
    let all = sym (append-nil got) ∙ ap (λ (xs : List Item). got ++ xs) (sym (none-left r.waiting (untold r) by.1))
    ∙ reads-answer a e hs in
    let clean = subst DecideNothing all (are-clean got stands.Pending (sym noted ∙ by.0)).1 in
    let last = ap (λ (x : Answering). end_verdict r.stage x) (sym at.kind) ∙ by.2 in (
      all,
      to-messages (answer a e hs) clean,
      λ expected. answer-whole a e hs clean (sym at.stage_is ∙ ended-by r.stage a expected last),
    )

-- ---- a whole answer has ended, and no item of it decides a verdict

clean-pending : (xs : List Item) → DecideNothing xs → verdict_after stands.Pending xs ≡ stands.Pending
clean-pending [] clean = refl
clean-pending (x ∷ xs) clean = ap (λ (v : Verdict). verdict_after v xs) clean.0 ∙ clean-pending xs clean.1

none-next : (xs : List Item) (l : Option Loss) → xs ++ loss_list l ≡ [] → first_item xs l ≡ None
none-next (x ∷ xs) l is = absurd cc
none-next [] (Some l) is = absurd cc
none-next [] None is = refl

clean-items : (ms : List (Lent ℕ)) → All IsClean ms → DecideNothing (as_items ms)
clean-items [] all = tt
clean-items (m ∷ ms) all = (
  All-head IsClean m ms all,
  clean-items ms (All-tail IsClean m ms all),
)

module _ (a : Answering) where
  none-missing : IsWholeAnswer a [] → ⊥
  none-missing whole = by whole.front whole.messages
    where
      by : (front : List (Lent ℕ)) → [] ≡ as_items (front ++ whole.last ∷ []) → ⊥
      by [] is = cc
      by (m ∷ ms) is = cc

  none-lost : (l : Loss) (xs : List Item) → IsWholeAnswer a (Err l ∷ xs) → ⊥
  none-lost l xs whole = by whole.front whole.messages
    where
      by : (front : List (Lent ℕ)) → Err l ∷ xs ≡ as_items (front ++ whole.last ∷ []) → ⊥
      by [] is = cc
      by (m ∷ ms) is = cc

  -- after a message that does not end it
  rest-whole : (m : Lent ℕ) (xs : List Item) → ends a m ≡ false → IsWholeAnswer a (Ok m ∷ xs) → IsWholeAnswer a xs
  rest-whole m xs is whole = by whole.front whole.messages whole.not_before whole.clean
    where
      by : (front : List (Lent ℕ)) → Ok m ∷ xs ≡ as_items (front ++ whole.last ∷ [])
          → All (λ m. ends a m ≡ false) front
          → All IsClean (front ++ whole.last ∷ []) → IsWholeAnswer a xs
      by [] same before clean = (let at = whole.at_last in absurd cc)
      by (y ∷ ys) same before clean = record {
        front = ys;
        last = whole.last;
        messages = cc;
        not_before = All-tail (λ m. ends a m ≡ false) y ys before;
        at_last = whole.at_last;
        clean = All-tail IsClean y (ys ++ whole.last ∷ []) clean;
      }

module _ (a : Answering) (e : Bool) where
  ended-stays : (hs : List Happening) → stage_by a e hs stage.Ended ≡ stage.Ended
  ended-stays [] = refl
  ended-stays (Came group m ∷ hs) = ended-stays hs
  ended-stays (Changed change.Leave ∷ hs) = ended-stays hs
  ended-stays (Changed change.Sent ∷ hs) = ended-stays hs
  ended-stays (Changed (change.Unsent n) ∷ hs) = ended-stays hs
  ended-stays (Changed (change.Lose l) ∷ hs) = ended-stays hs
  ended-stays (Changed change.Settle ∷ hs) = ended-stays hs
  ended-stays (Read ∷ hs) = ended-stays hs

  came-ended : (m : Lent ℕ) (hs : List Happening) (xs : List Item) (s : Stage)
      → (IsWholeAnswer a xs → stage_by a e hs s ≡ stage.Ended) → (mine last : Bool) → ends a m ≡ last
      → IsWholeAnswer a (if mine then Ok m ∷ (if last then [] else xs) else xs)
      → stage_by a e hs (if mine then (if last then stage.Ended else s) else s) ≡ stage.Ended
  came-ended m hs xs s later true true is whole = ended-stays hs
  came-ended m hs xs s later true false is whole = later (rest-whole a m xs is whole)
  came-ended m hs xs s later false last is whole = later whole

  since-ended : (sent : Bool) (hs : List Happening) → IsWholeAnswer a (answer_since sent a e hs)
      → stage_by a e hs (if sent then stage.Awaited else stage.Leaving) ≡ stage.Ended
  since-ended sent [] whole = absurd (none-missing a whole)
  since-ended true (Came group m ∷ hs) whole =
      came-ended m hs (answer_since true a e hs) stage.Awaited (since-ended true hs)
      ((group == 0) || e) (ends a m) refl whole
  since-ended false (Came group m ∷ hs) whole =
      came-ended m hs (answer_since false a e hs) stage.Leaving (since-ended false hs)
      ((group == 0) || e) (ends a m) refl whole
  since-ended true (Changed change.Leave ∷ hs) whole = since-ended true hs whole
  since-ended false (Changed change.Leave ∷ hs) whole = since-ended false hs whole
  since-ended true (Changed change.Sent ∷ hs) whole = since-ended true hs whole
  since-ended false (Changed change.Sent ∷ hs) whole = since-ended true hs whole
  since-ended true (Changed (change.Unsent n) ∷ hs) whole = since-ended true hs whole
  since-ended false (Changed (change.Unsent n) ∷ hs) whole = absurd (none-lost a (loss.Unsent n) [] whole)
  since-ended true (Changed (change.Lose l) ∷ hs) whole = absurd (none-lost a l [] whole)
  since-ended false (Changed (change.Lose l) ∷ hs) whole = absurd (none-lost a l [] whole)
  since-ended true (Changed change.Settle ∷ hs) whole = absurd (none-missing a whole)
  since-ended false (Changed change.Settle ∷ hs) whole = since-ended false hs whole
  since-ended true (Read ∷ hs) whole = since-ended true hs whole
  since-ended false (Read ∷ hs) whole = since-ended false hs whole

  answer-ended : (hs : List Happening) → IsWholeAnswer a (answer a e hs)
      → stage_by a e hs stage.Queued ≡ stage.Ended
  answer-ended [] whole = absurd (none-missing a whole)
  answer-ended (Came group m ∷ hs) whole = answer-ended hs whole
  answer-ended (Changed change.Leave ∷ hs) whole = since-ended false hs whole
  answer-ended (Changed change.Sent ∷ hs) whole = answer-ended hs whole
  answer-ended (Changed (change.Unsent n) ∷ hs) whole = answer-ended hs whole
  answer-ended (Changed (change.Lose l) ∷ hs) whole = answer-ended hs whole
  answer-ended (Changed change.Settle ∷ hs) whole = answer-ended hs whole
  answer-ended (Read ∷ hs) whole = answer-ended hs whole

-- what follows a list that is all of it is nothing
nothing-more : (xs ys : List Item) → xs ++ ys ≡ xs → ys ≡ []
nothing-more [] ys is = is
nothing-more (x ∷ xs) ys is = nothing-more xs ys cc

pub whole-complete : (a : Answering) (e : Bool) (hs : List Happening) → IsWholeAnswer a (answer a e hs)
    → returned_by hs (queued a e) ≡ answer a e hs
    → verdict_of (after_happenings hs (queued a e)) ≡ stands.Complete
whole-complete a e hs whole all =
    let r = after_happenings hs (queued a e) in
    let got = returned_by hs (queued a e) in
    let clean = subst DecideNothing (sym (all ∙ whole.messages))
    (clean-items (whole.front ++ whole.last ∷ []) whole.clean) in
    let noted = noted-is hs (queued a e) ∙ clean-pending got clean in
    let nothing = nothing-more got (left r) (reads-answer a e hs ∙ sym all) in
    let ended = (ends-at hs (queued a e)).stage_is ∙ answer-ended a e hs whole in
    ap (λ (v : Verdict). verdict_at v (next_item r) (end_verdict r.stage r.answering)) noted
    ∙ ap (λ (x : Option Item). verdict_at stands.Pending x (end_verdict r.stage r.answering))
    (none-next r.waiting (untold r) nothing)
    ∙ ap (λ (s : Stage). end_verdict s r.answering) ended
