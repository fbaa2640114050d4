-- How long a number is in use.
use Rattle.std.proofs.Common.{ℕ, ℤ, ◌≡◌, Bool, true, false, not, ◌&&◌, ◌||◌, List, [], ◌∷◌, ◌++◌, map, Option, Some}
use Rattle.std.proofs.Common.{None, Err, refl, sym, subst, ap, ◌∙◌, eq-eqb, eqb-true, append_assoc}
use Rattle.std.specs.Prelude.{◌==◌, if◌then◌else◌, is_some}
use Rattle.neli_wire.specs.declared.errors.DeError.{DeError}
use Rattle.neli_answers.specs.Answers.{has_all}
use Rattle.neli_answers.specs.declared.answering.Answering.{Answering}
use Rattle.neli_lent.specs.Messages.{Lent, messages_in}
use Rattle.neli_session.specs.declared.change.Change.{Change}
use Rattle.neli_session.specs.declared.change.Change.TheVariants as change
use Rattle.neli_session.specs.declared.loss.Loss.{Loss}
use Rattle.neli_session.specs.declared.loss.Loss.TheVariants as loss
use Rattle.neli_session.specs.declared.request.Request.{Request}
use Rattle.neli_session.specs.declared.request.Stage.{Stage}
use Rattle.neli_session.specs.declared.request.Stage.TheVariants as stage
use Rattle.neli_session.specs.declared.session.Session.{Session}
use Rattle.neli_session.specs.Happenings.{Came, Changed, Happening, Read, after_happenings, came_for, item_list, left}
use Rattle.neli_session.specs.Happenings.{loss_list, returned_by, then_is}
use Rattle.neli_session.specs.Histories.{Ask, Call, Close, CloseMulticast, Fault, HasSent, IsHistory, IsOneOf}
use Rattle.neli_session.specs.Histories.{IsReceived, IsStep, Moment, NotSent, NothingComes, Outgoing, PassAnswer}
use Rattle.neli_session.specs.Histories.{PassMulticast, PassUnasked, Quiet, Receive, Send, Sent, closes, happenings}
use Rattle.neli_session.specs.Histories.{happens, if_so, is_closed, is_in, is_sent_again, last, sends}
use Rattle.neli_session.specs.Mails.{answering_by, answers_at_once, entries_of, entry_of, numbers_in, numbers_of}
use Rattle.neli_session.specs.Messages.{messages_of}
use Rattle.neli_session.specs.Requests.{answers, changed, ends, first_item, heard, is_awaited, is_over, left_at, next_item}
use Rattle.neli_session.specs.Requests.{passed, passed_by, sent_at, settled, unsent_at, untold}
use Rattle.neli_session.specs.Sessions.{after_all, after_own, among, at, closed, closed_at, is_own, kept}
use Rattle.neli_session.specs.Sessions.{passed_at, queued, when}
use Rattle.neli_session.specs.Waiting.{Item}
use Rattle.neli_session.proofs.AllRead.{reads-answer}
use Rattle.neli_session.proofs.Followed.{after-append, changed-twice, fails, lost-over, neither, returned-append}
use Rattle.neli_session.proofs.Followed.{same-happenings, sent-at, sent-elsewhere, sent-port, sent-protocol, sent-sound}
use Rattle.neli_session.proofs.Followed.{settled-over, step-port, step-protocol, unsent-elsewhere}
use Rattle.neli_session.proofs.Later.{both-true, is_leaving, is_leaving_at, is_pending, later-all, no-falsehood}
use Rattle.neli_session.proofs.Later.{no-truth}
use Rattle.neli_session.proofs.Outboxes.{among-others, entries-added, entries-others}
use Rattle.neli_session.proofs.Calls.{IsSoundSession, step-sound}

-- ---- nothing more comes for what is over

over-left : (s : Stage) → is_over s ≡ true → left_at s ≡ s
over-left stage.Queued h = no-truth h
over-left stage.Leaving h = refl
over-left stage.Awaited h = refl
over-left stage.Ended h = refl
over-left stage.Silent h = refl

over-pending : (s : Stage) → is_over s ≡ true → not (is_over s) ≡ false
over-pending s h = ap not h

over-leaving : (s : Stage) → is_over s ≡ true → is_leaving_at s ≡ false
over-leaving stage.Queued h = refl
over-leaving stage.Leaving h = no-truth h
over-leaving stage.Awaited h = refl
over-leaving stage.Ended h = refl
over-leaving stage.Silent h = refl

over-awaited : (s : Stage) → is_over s ≡ true → is_awaited s ≡ false
over-awaited stage.Queued h = refl
over-awaited stage.Leaving h = no-truth h
over-awaited stage.Awaited h = no-truth h
over-awaited stage.Ended h = refl
over-awaited stage.Silent h = refl

over-changed : (c : Change) (r : Request) → is_over r.stage ≡ true → changed c r ≡ r
over-changed change.Leave r h = ap (λ (s : Stage). record r { stage = s }) (over-left r.stage h)
over-changed change.Sent r h = sent-elsewhere r (over-leaving r.stage h)
over-changed (change.Unsent errno) r h = unsent-elsewhere errno r (over-leaving r.stage h)
over-changed (change.Lose l) r h = lost-over l r (over-pending r.stage h)
over-changed change.Settle r h = settled-over r (over-pending r.stage h)

over-came : (group : ℕ) (m : Lent ℕ) (r : Request) → is_over r.stage ≡ true → then_is (Came group m) r ≡ r
over-came group m r h = ap (λ (b : Bool). if b && ((group == 0) || r.echoes) then heard m r else r)
    (over-awaited r.stage h)

-- a read takes the first of what is left
read-left : (r : Request) → item_list (next_item r) ++ left (passed r) ≡ left r
read-left r = go r.waiting refl (untold r) refl
  where
    go : (xs : List Item) → r.waiting ≡ xs → (l : Option Loss) → untold r ≡ l
        → item_list (first_item xs l) ++ left (passed_by xs l r) ≡ xs ++ loss_list l
    go (x ∷ xs) are l is = ap (λ (o : Option Loss). x ∷ (xs ++ loss_list o)) is
    go [] are (Some l) is = ap (λ (xs : List Item). Err l ∷ (xs ++ [])) are
    go [] are None is = ap (λ (xs : List Item). xs ++ loss_list (untold r)) are
        ∙ ap (λ (o : Option Loss). loss_list o) is

over-passed : (r : Request) → (passed r).stage ≡ r.stage
over-passed r = go r.waiting (untold r)
  where
    go : (xs : List Item) (l : Option Loss) → (passed_by xs l r).stage ≡ r.stage
    go (x ∷ xs) l = refl
    go [] (Some l) = refl
    go [] None = refl

-- so its reads return what is left, whatever happens
over-returned : (hs : List Happening) (r : Request) → is_over r.stage ≡ true
    → returned_by hs r ++ left (after_happenings hs r) ≡ left r
over-returned [] r h = refl
over-returned (Came group m ∷ hs) r h =
    ap (λ (x : Request). returned_by hs x ++ left (after_happenings hs x)) (over-came group m r h)
    ∙ over-returned hs r h
over-returned (Changed c ∷ hs) r h =
    ap (λ (x : Request). returned_by hs x ++ left (after_happenings hs x)) (over-changed c r h)
    ∙ over-returned hs r h
over-returned (Read ∷ hs) r h =
    append_assoc (item_list (next_item r)) (returned_by hs (passed r)) (left (after_happenings hs (passed r)))
    ∙ ap (λ (xs : List Item). item_list (next_item r) ++ xs)
    (over-returned hs (passed r) (ap (λ (s : Stage). is_over s) (over-passed r) ∙ h))
    ∙ read-left r

nothing-comes : (a : Answering) (e : Bool) (hs : List Happening)
    → is_over (after_happenings hs (queued a e)).stage ≡ true → NothingComes a e hs
nothing-comes a e hs over = (
  over,
  λ more. sym (reads-answer a e (hs ++ more))
      ∙ ap (λ (xs : List Item). xs ++ left (after_happenings (hs ++ more) (queued a e)))
      (returned-append hs more (queued a e))
      ∙ ap (λ (x : Request). (returned_by hs (queued a e) ++ returned_by more (after_happenings hs
      (queued a e))) ++ left x)
      (after-append hs more (queued a e))
      ∙ append_assoc (returned_by hs (queued a e)) (returned_by more (after_happenings hs (queued a e)))
      (left (after_happenings more (after_happenings hs (queued a e))))
      ∙ ap (λ (xs : List Item). returned_by hs (queued a e) ++ xs)
      (over-returned more (after_happenings hs (queued a e)) over)
      ∙ reads-answer a e hs,
)

-- ---- a request beside one that would still be read

-- it is the same but for what its reader sees, and is read unless it was closed; it is not in use only where it was
-- closed and is over
record IsAlike (o r : Request) (was_closed : Bool) : Type 0 where
  answering : o.answering ≡ r.answering
  echoes : o.echoes ≡ r.echoes
  stage_is : o.stage ≡ r.stage
  open_is : o.is_open ≡ false → was_closed ≡ true

abbrev Tracks : Option Request → Request → Bool → Type 0
Tracks None r was_closed = (was_closed ≡ true) × (is_over r.stage ≡ true)
Tracks (Some o) r was_closed = IsAlike o r was_closed

alike-twice : (o p r : Request) (b : Bool) → p.answering ≡ o.answering → p.echoes ≡ o.echoes → p.stage ≡ o.stage
    → p.is_open ≡ o.is_open → IsAlike o r b → IsAlike p r b
alike-twice o p r b a e s is alike = record {
  answering = a ∙ alike.answering;
  echoes = e ∙ alike.echoes;
  stage_is = s ∙ alike.stage_is;
  open_is = λ h. alike.open_is (sym is ∙ h);
}

-- one that is over and closed may be forgotten
track-kept : (o : Option Request) (r : Request) (b : Bool) → Tracks o r b → Tracks (kept o) r b
track-kept None r b t = t
track-kept (Some o) r b t = go (is_over o.stage && not o.is_open) refl
  where
    not-true : (c : Bool) → not c ≡ true → c ≡ false
    not-true true h = no-truth h
    not-true false h = refl

    go : (c : Bool) → (is_over o.stage && not o.is_open) ≡ c → Tracks (if c then None else Some o) r b
    go true is = (
      t.open_is (not-true o.is_open (both-true (is_over o.stage) (not o.is_open) is).1),
      ap (λ (s : Stage). is_over s) (sym t.stage_is) ∙ (both-true (is_over o.stage) (not o.is_open) is).0,
    )
    go false is = t

-- ---- changes

unsent-same : (s : Stage) (errno : ℤ) (o : Request) → o.stage ≡ s → ((unsent_at s errno o).answering ≡ o.answering)
    × ((unsent_at s errno o).echoes ≡ o.echoes) × ((unsent_at s errno o).is_open ≡ o.is_open)
unsent-same stage.Queued errno o is = (refl, refl, refl)
unsent-same stage.Leaving errno o is = (refl, refl, refl)
unsent-same stage.Awaited errno o is = (refl, refl, refl)
unsent-same stage.Ended errno o is = (refl, refl, refl)
unsent-same stage.Silent errno o is = (refl, refl, refl)

-- the stage after it was not sent, by the stage alone
abbrev unsent_stage : Stage → Stage
unsent_stage stage.Leaving = stage.Silent
unsent_stage s = s

unsent-stage : (s : Stage) (errno : ℤ) (o : Request) → o.stage ≡ s → (unsent_at s errno o).stage ≡ unsent_stage s
unsent-stage stage.Queued errno o is = is
unsent-stage stage.Leaving errno o is = refl
unsent-stage stage.Awaited errno o is = is
unsent-stage stage.Ended errno o is = is
unsent-stage stage.Silent errno o is = is

alike-changed : (c : Change) (o r : Request) (b : Bool) → IsAlike o r b → IsAlike (changed c o) (changed c r) b
alike-changed change.Leave o r b t = record {
  answering = t.answering;
  echoes = t.echoes;
  stage_is = ap left_at t.stage_is;
  open_is = t.open_is;
}
alike-changed change.Sent o r b t = record {
  answering = t.answering;
  echoes = t.echoes;
  stage_is = ap sent_at t.stage_is;
  open_is = t.open_is;
}
alike-changed (change.Unsent errno) o r b t =
    let of_o : ((unsent_at o.stage errno o).answering ≡ o.answering)
    × ((unsent_at o.stage errno o).echoes ≡ o.echoes) × ((unsent_at o.stage errno o).is_open ≡ o.is_open) =
    unsent-same o.stage errno o refl in
    let of_r : ((unsent_at r.stage errno r).answering ≡ r.answering)
    × ((unsent_at r.stage errno r).echoes ≡ r.echoes) × ((unsent_at r.stage errno r).is_open ≡ r.is_open) =
    unsent-same r.stage errno r refl in
    record {
      answering = of_o.0 ∙ t.answering ∙ sym of_r.0;
      echoes = of_o.1 ∙ t.echoes ∙ sym of_r.1;
      stage_is = unsent-stage o.stage errno o refl ∙ ap unsent_stage t.stage_is
          ∙ sym (unsent-stage r.stage errno r refl);
      open_is = λ h. t.open_is (sym of_o.2 ∙ h);
    }
alike-changed (change.Lose l) o r b t = record {
  answering = t.answering;
  echoes = t.echoes;
  stage_is = t.stage_is;
  open_is = t.open_is;
}
alike-changed change.Settle o r b t = record {
  answering = t.answering;
  echoes = t.echoes;
  stage_is = ap settled t.stage_is;
  open_is = t.open_is;
}

track-when : (c : Change) (o : Option Request) (r : Request) (b : Bool) → Tracks o r b
    → Tracks (when c o) (changed c r) b
track-when c None r b t = (t.0, ap (λ (x : Request). is_over x.stage) (over-changed c r t.1) ∙ t.1)
track-when c (Some o) r b t = track-kept (Some (changed c o)) (changed c r) b (alike-changed c o r b t)

-- again and again is as once
track-again : (c : Change) (q : ℕ) (ns : List ℕ) (o : Option Request) (r : Request) (b : Bool)
    → Tracks o (changed c r) b
    → Tracks (among ns (when c) q o) (changed c r) b
track-again c q [] o r b t = t
track-again c q (n ∷ ns) o r b t = go (n == q) (λ (p : Option Request). track-again c q ns p r b)
  where
    go : (d : Bool) → ((p : Option Request) → Tracks p (changed c r) b → Tracks (among ns (when c) q p) (changed c r) b)
        → Tracks (among ns (when c) q (if d then when c o else o)) (changed c r) b
    go true more = more (when c o) (subst (λ (x : Request). Tracks (when c o) x b) (changed-twice c r)
        (track-when c o (changed c r) b t))
    go false more = more o t

track-in : (c : Change) (q : ℕ) (ns : List ℕ) (o : Option Request) (r : Request) (b : Bool) → Tracks o r b
    → is_in q ns ≡ true → Tracks (among ns (when c) q o) (changed c r) b
track-in c q [] o r b t inside = no-truth inside
track-in c q (n ∷ ns) o r b t inside = go (n == q) inside (track-in c q ns o r b t)
  where
    go : (d : Bool) → (d || is_in q ns) ≡ true
        → (is_in q ns ≡ true → Tracks (among ns (when c) q o) (changed c r) b)
        → Tracks (among ns (when c) q (if d then when c o else o)) (changed c r) b
    go true h more = track-again c q ns (when c o) r b (track-when c o r b t)
    go false h more = more h

track-among : (c : Change) (q : ℕ) (ns : List ℕ) (o : Option Request) (r : Request) (b : Bool) → Tracks o r b
    → (is_in q ns ≡ false → changed c r ≡ r) → Tracks (among ns (when c) q o) (changed c r) b
track-among c q ns o r b t fixed = go (is_in q ns) refl
  where
    go : (d : Bool) → is_in q ns ≡ d → Tracks (among ns (when c) q o) (changed c r) b
    go true inside = track-in c q ns o r b t inside
    go false out = subst (λ (p : Option Request). Tracks p (changed c r) b) (sym (among-others (when c) q ns o out))
        (subst (λ (x : Request). Tracks o x b) (sym (fixed out)) t)

-- ---- messages

track-own : (group : ℕ) (m : Lent ℕ) (o : Option Request) (r : Request) (b : Bool) → Tracks o r b
    → Tracks (after_own group m o) (then_is (Came group m) r) b
track-own group m None r b t = (t.0, ap (λ (x : Request). is_over x.stage) (over-came group m r t.1) ∙ t.1)
track-own group m (Some o) r b t = subst (λ (c : Bool). Tracks (after_own group m (Some o))
    (if c then heard m r else r) b) same (go (answers group o))
  where
    same : answers group o ≡ answers group r
    same = ap (λ (s : Stage). is_awaited s && ((group == 0) || o.echoes)) t.stage_is
        ∙ ap (λ (e : Bool). is_awaited r.stage && ((group == 0) || e)) t.echoes

    heard_alike : IsAlike (heard m o) (heard m r) b
    heard_alike = record {
      answering = t.answering;
      echoes = t.echoes;
      stage_is = ap (λ (a : Answering). if ends a m then stage.Ended else o.stage)
          t.answering
          ∙ ap (λ (s : Stage). if ends r.answering m then stage.Ended else s)
          t.stage_is;
      open_is = t.open_is;
    }

    go : (c : Bool) → Tracks (if c then kept (Some (heard m o)) else Some o) (if c then heard m r else r) b
    go true = track-kept (Some (heard m o)) (heard m r) b heard_alike
    go false = t

track-all : (port group q : ℕ) (ms : List (Lent ℕ)) (o : Option Request) (r : Request) (b : Bool) → Tracks o r b
    → Tracks (after_all port group ms q o) (after_happenings (came_for port group q ms) r) b
track-all port group q [] o r b t = t
track-all port group q (m ∷ ms) o r b t = go (is_own port m) (m.0.sequence_number == q)
    (track-all port group q ms (after_own group m o) (then_is (Came group m) r) b (track-own group m o r b t))
    (track-all port group q ms o r b t)
  where
    go : (own mine : Bool)
        → Tracks (after_all port group ms q (after_own group m o))
        (after_happenings (came_for port group q ms) (then_is (Came group m) r)) b
        → Tracks (after_all port group ms q o) (after_happenings (came_for port group q ms) r) b
        → Tracks (after_all port group ms q (if own then (if mine then after_own group m o else o) else o))
        (after_happenings (if own && mine then Came group m ∷ came_for port group q ms
        else came_for port group q ms) r) b
    go true true came other = came
    go true false came other = other
    go false mine came other = other

-- ---- its reader

track-passed : (o : Option Request) (r : Request) (b : Bool) → Tracks o r b → Tracks (passed_at o) (passed r) b
track-passed None r b t = (t.0, ap (λ (s : Stage). is_over s) (over-passed r) ∙ t.1)
track-passed (Some o) r b t = go r.waiting (untold r) o.waiting (untold o)
  where
    go : (xs : List Item) (l : Option Loss) (ys : List Item) (k : Option Loss)
        → IsAlike (passed_by ys k o) (passed_by xs l r) b
    go xs l ys k = record {
      answering = (same-passed ys k o).0 ∙ t.answering ∙ sym (same-passed xs l r).0;
      echoes = (same-passed ys k o).1 ∙ t.echoes ∙ sym (same-passed xs l r).1;
      stage_is = (same-passed ys k o).2 ∙ t.stage_is ∙ sym (same-passed xs l r).2;
      open_is = λ h. t.open_is (sym (same-passed ys k o).3 ∙ h);
    }
      where
        same-passed : (xs : List Item) (l : Option Loss) (x : Request) → ((passed_by xs l x).answering ≡ x.answering)
            × ((passed_by xs l x).echoes ≡ x.echoes) × ((passed_by xs l x).stage ≡ x.stage)
            × ((passed_by xs l x).is_open ≡ x.is_open)
        same-passed (y ∷ ys) l x = (refl, refl, refl, refl)
        same-passed [] (Some l) x = (refl, refl, refl, refl)
        same-passed [] None x = (refl, refl, refl, refl)

track-closed : (o : Option Request) (r : Request) (b : Bool) → Tracks o r b → Tracks (closed_at o) r true
track-closed None r b t = (refl, t.1)
track-closed (Some o) r b t = track-kept (Some (closed o)) r true (record {
  answering = t.answering;
  echoes = t.echoes;
  stage_is = t.stage_is;
  open_is = λ h. refl;
})

track-more : (o : Option Request) (r : Request) (b c : Bool) → Tracks o r b → Tracks o r (b || c)
track-more None r b c t = (ap (λ (d : Bool). d || c) t.0, t.1)
track-more (Some o) r b c t = record {
  answering = t.answering;
  echoes = t.echoes;
  stage_is = t.stage_is;
  open_is = λ h. ap (λ (d : Bool). d || c) (t.open_is h);
}

-- ---- one call

track-pending : (o : Option Request) (r : Request) (b : Bool) → Tracks o r b → not (is_over r.stage) ≡ true
    → is_pending o ≡ true
track-pending None r b t h = no-truth (sym (over-pending r.stage t.1) ∙ h)
track-pending (Some o) r b t h = ap (λ (s : Stage). not (is_over s)) t.stage_is ∙ h

track-leaving : (o : Option Request) (r : Request) (b : Bool) → Tracks o r b → is_leaving_at r.stage ≡ true
    → is_leaving o ≡ true
track-leaving None r b t h = no-truth (sym (over-leaving r.stage t.1) ∙ h)
track-leaving (Some o) r b t h = ap is_leaving_at t.stage_is ∙ h

-- the numbers of what is sent are those of its messages
same-numbers : (s : Session) (by : Option Answering) (ms : List (Lent ℕ))
    → numbers_of (map (entry_of s.protocol by) ms) ≡ map (λ m. m.0.sequence_number) ms
same-numbers s by [] = refl
same-numbers s by (m ∷ ms) = ap (λ (ns : List ℕ). m.0.sequence_number ∷ ns) (same-numbers s by ms)

module _ (s t : Session) (q : ℕ) (r : Request) (b : Bool) (sound : IsSoundSession s) (was : Tracks
    (at s.requests q) r b) where
  over-else : is_in q s.awaited.items ≡ false → not (is_over r.stage) ≡ false
  over-else out = fails (not (is_over r.stage)) (is_in q s.awaited.items)
      (λ h. sound.awaits q (track-pending (at s.requests q) r b was h)) out

  gone-else : is_in q (numbers_in s.leaving) ≡ false → is_leaving_at r.stage ≡ false
  gone-else out = fails (is_leaving_at r.stage) (is_in q (numbers_in s.leaving))
      (λ h. sound.leaves q (track-leaving (at s.requests q) r b was h)) out

  now : (o : Option Request) (x : Request) → at t.requests q ≡ o → Tracks o x b → Tracks (at t.requests q) x b
  now o x is tracks = subst (λ (p : Option Request). Tracks p x b) (sym is) tracks

  track-received : (group : ℕ) (joined : Bool) (datagram : List ℕ) → IsReceived group joined datagram s t
      → Tracks (at t.requests q) (after_happenings (happens s.protocol s.port q (Receive group joined datagram)) r) b
  track-received group joined datagram (whole, faulty, same) =
      subst (λ (x : Request). Tracks (at t.requests q) x b)
      (sym (after-append (came_for s.port group q (messages_of datagram))
      (if_so (is_some (messages_in {K = ℕ} (λ n. n) datagram).1) (Changed (change.Lose loss.Datagram))) r))
      (go (messages_in {K = ℕ} (λ n. n) datagram).1 refl)
    where
      come : Tracks (after_all s.port group (messages_of datagram) q (at s.requests q))
          (after_happenings (came_for s.port group q (messages_of datagram)) r) b
      come = track-all s.port group q (messages_of datagram) (at s.requests q) r b was

      go : (e : Option DeError) → (messages_in {K = ℕ} (λ n. n) datagram).1 ≡ e → Tracks (at t.requests q)
          (after_happenings (if_so (is_some (messages_in {K = ℕ} (λ n. n) datagram).1) (Changed
          (change.Lose loss.Datagram)))
          (after_happenings (came_for s.port group q (messages_of datagram)) r)) b
      go None is = rw is (now (after_all s.port group (messages_of datagram) q (at s.requests q))
          (after_happenings (came_for s.port group q (messages_of datagram)) r) ((whole is).requests q) come)
      go (Some e) is = rw is (now (among s.awaited.items (when (change.Lose loss.Datagram)) q
          (after_all s.port group (messages_of datagram) q (at s.requests q)))
          (changed (change.Lose loss.Datagram) (after_happenings (came_for s.port group q (messages_of datagram)) r))
          ((faulty e is).requests q)
          (track-among (change.Lose loss.Datagram) q s.awaited.items
          (after_all s.port group (messages_of datagram) q (at s.requests q))
          (after_happenings (came_for s.port group q (messages_of datagram)) r) b come
          (λ out. lost-over loss.Datagram (after_happenings (came_for s.port group q (messages_of datagram)) r)
          (still-over out))))
        where
          still-over : is_in q s.awaited.items ≡ false
              → not (is_over (after_happenings (came_for s.port group q (messages_of datagram)) r).stage) ≡ false
          still-over out = fails (not (is_over (after_happenings (came_for s.port group q
              (messages_of datagram)) r).stage))
              (is_in q s.awaited.items)
              (λ h. sound.awaits q ((later-all s.port group (messages_of datagram) q (at s.requests q)).pending
              (track-pending (after_all s.port group (messages_of datagram) q (at s.requests q))
              (after_happenings (came_for s.port group q (messages_of datagram)) r) b come h))) out

  track-step : (c : Call) → IsStep c s t → sends q c ≡ false
      → Tracks (at t.requests q) (after_happenings (happens s.protocol s.port q c) r) (b || closes q c)
  track-step (Send by bytes) ((whole, some, few, (free, new, awaited, outbox)), rest) other =
      track-more (at t.requests q) r b false (now (at s.requests q) r (new q
      ∙ entries-others (entries_of s.protocol by bytes) q (at s.requests q)
      (ap (λ (ns : List ℕ). is_in q ns) (same-numbers s by (messages_of bytes)) ∙ other)) was)
  track-step Ask ((requests, awaited, outbox), rest) other =
      track-more (at t.requests q) r b false (now (at s.requests q) r (requests q) was)
  track-step (Outgoing o) (next, leaving, outbox, running, requests, same) other =
      track-more (at t.requests q) (after_happenings (if_so (is_in q (numbers_in o)) (Changed change.Leave)) r) b false
      (now (among (numbers_in o) (when change.Leave) q (at s.requests q))
      (after_happenings (if_so (is_in q (numbers_in o)) (Changed change.Leave)) r) (requests q)
      (go (is_in q (numbers_in o)) refl))
    where
      go : (d : Bool) → is_in q (numbers_in o) ≡ d
          → Tracks (among (numbers_in o) (when change.Leave) q (at s.requests q))
          (after_happenings (if_so d (Changed change.Leave)) r) b
      go true inside = track-in change.Leave q (numbers_in o) (at s.requests q) r b was inside
      go false out = subst (λ (p : Option Request). Tracks p r b)
          (sym (among-others (when change.Leave) q (numbers_in o) (at s.requests q) out)) was
  track-step Sent (leaving, requests, outbox, running, same) other =
      track-more (at t.requests q) (changed change.Sent r) b false
      (now (among (numbers_in s.leaving) (when change.Sent) q (at s.requests q)) (changed change.Sent r) (requests q)
      (track-among change.Sent q (numbers_in s.leaving) (at s.requests q) r b was
      (λ out. sent-elsewhere r (gone-else out))))
  track-step (NotSent errno) (leaving, requests, outbox, running, same) other =
      track-more (at t.requests q) (changed (change.Unsent errno) r) b false
      (now (among (numbers_in s.leaving) (when (change.Unsent errno)) q (at s.requests q))
      (changed (change.Unsent errno) r) (requests q)
      (track-among (change.Unsent errno) q (numbers_in s.leaving) (at s.requests q) r b was
      (λ out. unsent-elsewhere errno r (gone-else out))))
  track-step (Receive group joined datagram) is other =
      track-more (at t.requests q) (after_happenings (happens s.protocol s.port q
      (Receive group joined datagram)) r) b false
      (track-received group joined datagram is)
  track-step (Fault errno) (requests, multicast, unasked, congested, names, mails, awaited) other =
      track-more (at t.requests q) (changed (change.Lose (loss.Link errno)) r) b false
      (now (among s.awaited.items (when (change.Lose (loss.Link errno))) q (at s.requests q))
      (changed (change.Lose (loss.Link errno)) r) (requests q)
      (track-among (change.Lose (loss.Link errno)) q s.awaited.items (at s.requests q) r b was
      (λ out. lost-over (loss.Link errno) r (over-else out))))
  track-step Quiet (requests, awaited, congested, names, mails, readers) other =
      track-more (at t.requests q) (after_happenings (if_so (answers_at_once s.protocol) (Changed change.Settle)) r) b
      false (go (answers_at_once s.protocol) (requests q))
    where
      go : (d : Bool)
          → at t.requests q ≡ among (if d then s.awaited.items else []) (when change.Settle) q (at s.requests q)
          → Tracks (at t.requests q) (after_happenings (if_so d (Changed change.Settle)) r) b
      go true new = now (among s.awaited.items (when change.Settle) q (at s.requests q)) (changed change.Settle r) new
          (track-among change.Settle q s.awaited.items (at s.requests q) r b was
          (λ out. settled-over r (over-else out)))
      go false new = now (at s.requests q) r new was
  track-step (PassAnswer p) (own, others, multicast, unasked, same) other =
      track-more (at t.requests q) (after_happenings (if_so (p == q) Read) r) b false (go (p == q) refl)
    where
      go : (d : Bool) → (p == q) ≡ d → Tracks (at t.requests q) (after_happenings (if_so d Read) r) b
      go true is = now (passed_at (at s.requests q)) (passed r)
          (subst (λ (n : ℕ). at t.requests n ≡ passed_at (at s.requests n)) (eqb-true p q is) own)
          (track-passed (at s.requests q) r b was)
      go false is = now (at s.requests q) r (others q is) was
  track-step PassMulticast (multicast, requests, unasked, same) other =
      track-more (at t.requests q) r b false (now (at s.requests q) r (rw requests refl) was)
  track-step PassUnasked (unasked, requests, multicast, same) other =
      track-more (at t.requests q) r b false (now (at s.requests q) r (rw requests refl) was)
  track-step (Close p) (own, others, multicast, unasked, same) other = go (p == q) refl
    where
      or-true : (c : Bool) → (c || true) ≡ true
      or-true true = refl
      or-true false = refl

      go : (d : Bool) → (p == q) ≡ d → Tracks (at t.requests q) r (b || d)
      go true is = subst (λ (c : Bool). Tracks (at t.requests q) r c) (sym (or-true b))
          (subst (λ (o : Option Request). Tracks o r true)
          (sym (subst (λ (n : ℕ). at t.requests n ≡ closed_at (at s.requests n)) (eqb-true p q is) own))
          (track-closed (at s.requests q) r b was))
      go false is = track-more (at t.requests q) r b false (now (at s.requests q) r (others q is) was)
  track-step CloseMulticast (multicast, requests, unasked, same) other =
      track-more (at t.requests q) r b false (now (at s.requests q) r (rw requests refl) was)

-- ---- whole histories

or-assoc : (a b c : Bool) → ((a || b) || c) ≡ (a || (b || c))
or-assoc true b c = refl
or-assoc false b c = refl

or-false : (a : Bool) → (a || false) ≡ a
or-false true = refl
or-false false = refl

tracked : (ms : List Moment) (s : Session) (q : ℕ) (r : Request) (b : Bool) → IsHistory s ms → IsSoundSession s
    → Tracks (at s.requests q) r b → is_sent_again q ms ≡ false
    → Tracks (at (last s ms).requests q) (after_happenings (happenings s.protocol s.port q ms) r) (b || is_closed q ms)
tracked [] s q r b h sound was other = subst (λ (c : Bool). Tracks (at s.requests q) r c) (sym (or-false b)) was
tracked (m ∷ ms) s q r b (step, later) sound was other =
    let both : (sends q m.call ≡ false) × (is_sent_again q ms ≡ false) = neither (sends q m.call)
    (is_sent_again q ms) other in
    let hs : List Happening = happens s.protocol s.port q m.call in
    let gs : List Happening = happenings s.protocol s.port q ms in
    let next : Tracks (at m.session.requests q) (after_happenings hs r) (b || closes q m.call) =
    track-step s m.session q r b sound was m.call step both.0 in
    let rest : Tracks (at (last m.session ms).requests q) (after_happenings gs (after_happenings hs r))
    ((b || closes q m.call) || is_closed q ms) =
    same-happenings q m.session s ms (step-port m.call s m.session step) (step-protocol m.call s m.session step)
    (λ gs. Tracks (at (last m.session ms).requests q) (after_happenings gs (after_happenings hs r))
    ((b || closes q m.call) || is_closed q ms))
    (tracked ms m.session q (after_happenings hs r) (b || closes q m.call) later
    (step-sound m.call s m.session step sound) next both.1) in
    subst (λ (x : Request). Tracks (at (last m.session ms).requests q) x (b || (closes q m.call || is_closed q ms)))
    (sym (after-append hs gs r))
    (subst (λ (c : Bool). Tracks (at (last m.session ms).requests q) (after_happenings gs (after_happenings hs r)) c)
    (or-assoc b (closes q m.call) (is_closed q ms)) rest)

pub numbers-stay : (s t : Session) (by : Option Answering) (bytes : List ℕ) (m : Lent ℕ) (later : List Moment)
    → HasSent s by bytes m t → IsHistory t later → is_sent_again m.0.sequence_number later ≡ false
    → at (last t later).requests m.0.sequence_number ≡ None
    → (is_closed m.0.sequence_number later ≡ true)
    × NothingComes (answering_by s.protocol by m) (has_all 8 m.0.flags)
    (happenings s.protocol s.port m.0.sequence_number later)
numbers-stay s t by bytes m later was came other free =
    let a : Answering = answering_by s.protocol by m in
    let e : Bool = has_all 8 m.0.flags in
    let q : ℕ = m.0.sequence_number in
    let start : Tracks (at t.requests q) (queued a e) false =
    subst (λ (o : Option Request). Tracks o (queued a e) false) (sym (sent-at s t by bytes m was))
    (record { answering = refl; echoes = refl; stage_is = refl; open_is = λ h. no-falsehood h }) in
    let is : Tracks None (after_happenings (happenings s.protocol s.port q later) (queued a e)) (is_closed q later) =
    same-happenings q t s later (sent-port s t by bytes m was) (sent-protocol s t by bytes m was)
    (λ gs. Tracks None (after_happenings gs (queued a e)) (is_closed q later))
    (subst (λ (o : Option Request). Tracks o (after_happenings (happenings t.protocol t.port q later) (queued a e))
    (is_closed q later)) free
    (tracked later t q (queued a e) false came (sent-sound s t by bytes m was) start other)) in
    (is.0, nothing-comes a e (happenings s.protocol s.port q later) is.1)

-- ---- a send

in-middle : (q : ℕ) (ms : List (Lent ℕ)) (m : Lent ℕ) (ns : List (Lent ℕ)) → (m.0.sequence_number == q) ≡ true
    → is_in q (map (λ m. m.0.sequence_number) (ms ++ m ∷ ns)) ≡ true
in-middle q [] m ns is = ap (λ (b : Bool). b || is_in q (map (λ m. m.0.sequence_number) ns)) is
in-middle q (x ∷ ms) m ns is = go (x.0.sequence_number == q) (in-middle q ms m ns is)
  where
    go : (b : Bool) → is_in q (map (λ m. m.0.sequence_number) (ms ++ m ∷ ns)) ≡ true
        → (b || is_in q (map (λ m. m.0.sequence_number) (ms ++ m ∷ ns))) ≡ true
    go true h = refl
    go false h = h

pub sent-free : (s t : Session) (by : Option Answering) (bytes : List ℕ) (m : Lent ℕ) → IsStep (Send by bytes) s t
    → IsOneOf m (messages_of bytes) → at s.requests m.0.sequence_number ≡ None
sent-free s t by bytes m ((whole, some, few, (free, new, awaited, outbox)), rest) one =
    (entries-added (at s.requests) (entries_of s.protocol by bytes) m.0.sequence_number free
    (ap (λ (ns : List ℕ). is_in m.0.sequence_number ns) (same-numbers s by (messages_of bytes))
    ∙ ap (λ (ms : List (Lent ℕ)). is_in m.0.sequence_number (map (λ m. m.0.sequence_number) ms)) one.2
    ∙ in-middle m.0.sequence_number one.0 m one.1 (eq-eqb m.0.sequence_number m.0.sequence_number refl))).was
