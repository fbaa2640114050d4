-- A request that a kernel answers: what its reads return, and the verdict.
use Rattle.std.proofs.Common.{ℕ, ◌≡◌, Bool, true, false, ◌||◌, All, List, [], ◌∷◌, ◌++◌, None, refl, sym, subst, ap, ◌∙◌}
use Rattle.std.proofs.Common.{append-nil, inl, inr}
use Rattle.std.proofs.lemmas.List.Elements.{All-head, All-tail}
use Rattle.std.specs.Prelude.{◌⊎◌, is_some}
use Rattle.neli_answers.specs.declared.answering.Answering.{Answering}
use Rattle.neli_answers.specs.declared.answering.Answering.TheVariants as expected
use Rattle.neli_kernel.specs.declared.request.Request.{Request as Asked}
use Rattle.neli_lent.specs.Messages.{Lent}
use Rattle.neli_session.specs.declared.request.Request.{Request}
use Rattle.neli_session.specs.declared.request.Stage.{Stage}
use Rattle.neli_session.specs.declared.request.Stage.TheVariants as stage
use Rattle.neli_session.specs.declared.request.Verdict.{Verdict}
use Rattle.neli_session.specs.declared.request.Verdict.TheVariants as stands
use Rattle.neli_session.specs.Happenings.{Happening, ReadsAreTheAnswer, StagesFollow, after_happenings, left}
use Rattle.neli_session.specs.declared.session.Session.{Session}
use Rattle.neli_session.specs.Histories.{IsHistory, IsStep, Moment, RequestsAreFollowed, Send, happenings, last, read_of}
use Rattle.neli_session.specs.Requests.{end_verdict, ends, is_over, verdict_at, verdict_of}
use Rattle.neli_session.specs.Sessions.{queued}
use Rattle.neli_session.specs.Verdicts.{ReadsAreNoted, verdict_after}
use Rattle.neli_session.specs.Waiting.{Item, as_items}
use Rattle.neli_session_laws.specs.Answered.{IsAnswered, IsWholeAnswer, RequestsAreAnswered, verdict_on}
use Rattle.neli_session_laws.specs.Busy.{NoDumpIsRefused, NoneIsRefused, calls_of}
use Rattle.neli_session_laws.specs.Given.{IsSimulated, SimulatedAnswersAreWhole}
use Rattle.neli_session_laws.specs.Silent.{IsDone, IsLeftAlone, IsNotice}
use Rattle.neli_session_laws.specs.Served.{Exchange, IsServed, answering, echoes, number}
use Rattle.neli_session_laws.proofs.Coming.{All-as, IsAt, no-truth, once-out}
use Rattle.neli_session_laws.proofs.Silent.{IsEmptyAt, silent-once-out}
use Rattle.neli_session_laws.proofs.Judged.{is_nothing, judged, judged-last, open-at, over-at, pending-at}

module _ (follows : RequestsAreFollowed) (reads : ReadsAreTheAnswer) (notes : ReadsAreNoted) (stages : StagesFollow)
  where
    pub answered : (x : Exchange) (said rest : List (Lent ℕ)) → IsWholeAnswer (answering x) said → IsServed x said rest
        → IsAnswered x said rest (verdict_on said)
    answered x said rest whole served =
        let a = answering x in
        let e = echoes x in
        let hs : List Happening = happenings x.new.protocol x.new.port (number x) x.later in
        let r : Request = after_happenings hs (queued a e) in
        let came = once-out a e x.new.protocol x.new.port (number x) x.later said rest whole served in
        let is = follows x.new x.sent x.by x.bytes x.message x.later x.has_sent x.is_history x.is_open in
        let read : List Item = read_of (number x) x.sent x.later in
        let got = ap (λ (xs : List Item). xs ++ left r) is.read ∙ reads a e hs ∙ came.answer_is in
        let noted = notes a e hs ∙ ap (λ (xs : List Item). verdict_after stands.Pending xs) (sym is.read) in
        let far : IsAt rest r.stage = subst (λ (s : Stage). IsAt rest s) (sym (stages a e hs).1) came.stage_is in
        record {
          request = r;
          is = is.is;
          came = came.came;
          all = came.all;
          read = got;
          ended = λ none. ap (λ (s : Stage). is_over s || is_some r.loss)
              (subst (λ (ms : List (Lent ℕ)). IsAt ms r.stage) none far);
          verdict = judged r said came.came rest read came.all got noted (is_nothing rest)
              (over-at rest r.stage r.answering far) (open-at rest r.stage r.answering far);
          at_last = λ none. judged-last r said came.came rest read came.all got noted (is_nothing rest)
              (over-at rest r.stage r.answering far) (open-at rest r.stage r.answering far)
              (ap (λ (ms : List (Lent ℕ)). is_nothing ms) none);
        }

-- ---- by the simulator

-- all calls follow one another
all-came : (ms : List Moment) (s : Session) (m : Moment) (later : List Moment) → IsHistory s ms
    → IsStep m.call (last s ms) m.session → IsHistory m.session later → IsHistory s (ms ++ m ∷ later)
all-came [] s m later came step more = (step, more)
all-came (n ∷ ms) s m later (first, came) step more = (first, all-came ms n.session m later came step more)

pub simulated_answered : RequestsAreAnswered → SimulatedAnswersAreWhole → NoDumpIsRefused → (x : Exchange)
    (asked : Asked) (said rest : List (Lent ℕ)) (v : Verdict)
    → (NoneIsRefused x → IsSimulated asked said (answering x) v) → IsServed x said rest → IsAnswered x said rest v
simulated_answered answers are_whole idle x asked said rest v given served =
    let came = all-came x.has_sent.calls x.new (record { call = Send x.by x.bytes; session = x.sent }) x.later
    x.has_sent.came x.has_sent.sent x.is_history in
    let whole = are_whole asked said (answering x) v (given (idle x.new (calls_of x) x.has_sent.is_new came)) in
    subst (λ (u : Verdict). IsAnswered x said rest u) whole.1 (answers x said rest whole.0 served)

-- ---- by nothing

-- what decides no verdict leaves the answer complete
notices-complete : (said : List (Lent ℕ)) → All IsNotice said → verdict_on said ≡ stands.Complete
notices-complete said all = ap (λ (v : Verdict). verdict_at v None stands.Complete) (by said all)
  where
    by : (ms : List (Lent ℕ)) → All IsNotice ms → verdict_after stands.Pending (as_items ms) ≡ stands.Pending
    by [] all = refl
    by (m ∷ ms) all = ap (λ (v : Verdict). verdict_after v (as_items ms)) (All-head IsNotice m ms all).1
        ∙ by ms (All-tail IsNotice m ms all)

-- which ends by an empty link
over-empty : (is_empty : Bool) (s : Stage) (a : Answering) → a ≡ expected.Silence → IsEmptyAt is_empty s
    → is_empty ≡ true → end_verdict s a ≡ stands.Complete
over-empty true s a silent far finished =
    ap (λ (x : Stage). end_verdict x a) far ∙ ap (λ (x : Answering). end_verdict stage.Silent x) silent
over-empty false s a silent far finished = no-truth finished

open-empty : (is_empty : Bool) (s : Stage) (a : Answering) → IsEmptyAt is_empty s → is_empty ≡ false
    → end_verdict s a ≡ stands.Pending
open-empty true s a far open_is = no-truth (sym open_is)
open-empty false s a far open_is = pending-at s a far

empty-over : (is_empty : Bool) (s : Stage) → IsEmptyAt is_empty s → is_empty ≡ true → is_over s ≡ true
empty-over true s far finished = ap (λ (x : Stage). is_over x) far
empty-over false s far finished = no-truth finished

either-as : (v u w : Verdict) → u ≡ w → (v ≡ stands.Pending) ⊎ (v ≡ u) → (v ≡ stands.Pending) ⊎ (v ≡ w)
either-as v u w is (inl pending) = inl pending
either-as v u w is (inr same) = inr (same ∙ is)

module _ (follows : RequestsAreFollowed) (reads : ReadsAreTheAnswer) (notes : ReadsAreNoted) (stages : StagesFollow)
  where
    pub silent_complete : (x : Exchange) (said : List (Lent ℕ)) (is_empty : Bool) → answering x ≡ expected.Silence
        → All IsNotice said → IsLeftAlone x said is_empty → IsDone x said is_empty
    silent_complete x said is_empty silent all alone =
        let a = answering x in
        let e = echoes x in
        let hs : List Happening = happenings x.new.protocol x.new.port (number x) x.later in
        let r : Request = after_happenings hs (queued a e) in
        let before = All-as {P = IsNotice} {Q = λ m. ends a m ≡ false} (λ m is. ap (λ (b : Answering). ends b m) silent ∙ is.0)
        said all in
        let came = silent-once-out a e x.new.protocol x.new.port (number x) x.later said is_empty before alone in
        let is = follows x.new x.sent x.by x.bytes x.message x.later x.has_sent x.is_history x.is_open in
        let read : List Item = read_of (number x) x.sent x.later in
        let got = ap (λ (xs : List Item). xs ++ left r) is.read ∙ reads a e hs ∙ came.answer_is in
        let noted = notes a e hs ∙ ap (λ (xs : List Item). verdict_after stands.Pending xs) (sym is.read) in
        let far : IsEmptyAt is_empty r.stage =
        subst (λ (s : Stage). IsEmptyAt is_empty s) (sym (stages a e hs).1) came.stage_is in
        let kind : r.answering ≡ expected.Silence = (stages a e hs).0 ∙ silent in
        let complete = notices-complete said all in
        record {
          request = r;
          is = is.is;
          read = got;
          ended = λ finished. ap (λ (b : Bool). b || is_some r.loss) (empty-over is_empty r.stage far finished);
          verdict = either-as (verdict_of r) (verdict_on said) stands.Complete complete
              (judged r said said [] read (sym (append-nil said)) got noted is_empty
              (λ finished. (refl, over-empty is_empty r.stage r.answering kind far finished)) (open-empty is_empty r.stage r.answering far));
          at_last = λ finished read_all.
              judged-last r said said [] read (sym (append-nil said)) got noted is_empty
              (λ finished. (refl, over-empty is_empty r.stage r.answering kind far finished)) (open-empty is_empty r.stage r.answering far) finished
              read_all ∙ complete;
        }
