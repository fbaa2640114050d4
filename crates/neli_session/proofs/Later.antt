-- What may happen to a request after it was sent: it waits no more than before, and is awaited no more.
use Rattle.std.proofs.Common.{ℕ, ℤ, ◌≡◌, ◌≤◌, Bool, true, false, not, ◌&&◌, ◌||◌, List, [], ◌∷◌, Option, Some, None, refl}
use Rattle.std.proofs.Common.{arith, sym, subst, ap, ◌∙◌}
use Rattle.std.specs.Prelude.{◌==◌, if◌then◌else◌, option_map}
use Rattle.neli_answers.specs.declared.answering.Answering.{Answering}
use Rattle.neli_lent.specs.Messages.{Lent}
use Rattle.neli_session.specs.declared.change.Change.{Change}
use Rattle.neli_session.specs.declared.change.Change.TheVariants as change
use Rattle.neli_session.specs.declared.loss.Loss.{Loss}
use Rattle.neli_session.specs.declared.request.Request.{Request}
use Rattle.neli_session.specs.declared.request.Stage.{Stage}
use Rattle.neli_session.specs.declared.request.Stage.TheVariants as stage
use Rattle.neli_session.specs.Requests.{answers, changed, ends, heard, is_awaited, is_over, lost, passed, passed_by}
use Rattle.neli_session.specs.Requests.{sent_at, settled, unsent_at, untold}
use Rattle.neli_session.specs.Mails.{is_dump}
use Rattle.neli_session.specs.Sends.{is_running}
use Rattle.neli_session.specs.Sessions.{after, after_all, after_own, among, closed, closed_at, is_own, kept, passed_at}
use Rattle.neli_session.specs.Sessions.{when}
use Rattle.neli_session.specs.Waiting.{Item}

-- ---- what is known of a request

-- how often it is queued
abbrev pub queued_at : Stage → ℕ
queued_at stage.Queued = 1
queued_at s = 0

abbrev pub is_leaving_at : Stage → Bool
is_leaving_at stage.Leaving = true
is_leaving_at s = false

abbrev pub is_sent_at : Stage → Bool
is_sent_at stage.Awaited = true
is_sent_at s = false

abbrev pub times_queued : Option Request → ℕ
times_queued None = 0
times_queued (Some r) = queued_at r.stage

abbrev pub is_leaving : Option Request → Bool
is_leaving None = false
is_leaving (Some r) = is_leaving_at r.stage

abbrev pub is_sent : Option Request → Bool
is_sent None = false
is_sent (Some r) = is_sent_at r.stage

-- it is queued, leaving or awaited
abbrev pub is_pending : Option Request → Bool
is_pending None = false
is_pending (Some r) = not (is_over r.stage)

abbrev pub has_dump : Option Request → Bool
has_dump None = false
has_dump (Some r) = is_dump r.answering

-- ---- truth

pub no-truth : {A : Type 0} → false ≡ true → A
no-truth h = cc

pub no-falsehood : {A : Type 0} → true ≡ false → A
no-falsehood h = cc

pub both-true : (a b : Bool) → (a && b) ≡ true → (a ≡ true) × (b ≡ true)
both-true true b h = (refl, h)
both-true false b h = no-truth h

-- ---- later stages

pub record IsLaterStage (s s' : Stage) : Type 0 where
  pub queued : queued_at s' ≡ queued_at s
  pub leaving : is_leaving_at s' ≡ true → is_leaving_at s ≡ true
  pub pending : not (is_over s') ≡ true → not (is_over s) ≡ true
  pub awaited : is_awaited s' ≡ true → is_awaited s ≡ true

same-stage : (s : Stage) → IsLaterStage s s
same-stage s = record { queued = refl; leaving = λ h. h; pending = λ h. h; awaited = λ h. h }

-- what was awaited has ended
ended-stage : (s : Stage) → is_awaited s ≡ true → IsLaterStage s stage.Ended
ended-stage stage.Queued h = no-truth h
ended-stage stage.Leaving h = record {
  queued = refl;
  leaving = λ n. no-truth n;
  pending = λ n. no-truth n;
  awaited = λ n. no-truth n;
}
ended-stage stage.Awaited h = record {
  queued = refl;
  leaving = λ n. no-truth n;
  pending = λ n. no-truth n;
  awaited = λ n. no-truth n;
}
ended-stage stage.Ended h = no-truth h
ended-stage stage.Silent h = no-truth h

settled-stage : (s : Stage) → IsLaterStage s (settled s)
settled-stage stage.Awaited = record {
  queued = refl;
  leaving = λ n. no-truth n;
  pending = λ n. no-truth n;
  awaited = λ n. no-truth n;
}
settled-stage stage.Queued = same-stage stage.Queued
settled-stage stage.Leaving = same-stage stage.Leaving
settled-stage stage.Ended = same-stage stage.Ended
settled-stage stage.Silent = same-stage stage.Silent

-- ---- later requests

pub record IsLater (o o' : Option Request) : Type 0 where
  pub queued : times_queued o' ≡ times_queued o
  pub leaving : is_leaving o' ≡ true → is_leaving o ≡ true
  pub pending : is_pending o' ≡ true → is_pending o ≡ true
  pub dump : has_dump o' ≡ true → has_dump o ≡ true
  pub carries : 1 ≤ times_queued o → has_dump o ≡ true → has_dump o' ≡ true
  pub runs : is_running o' ≡ true → is_running o ≡ true

pub later-same : (o : Option Request) → IsLater o o
later-same o = record {
  queued = refl;
  leaving = λ h. h;
  pending = λ h. h;
  dump = λ h. h;
  carries = λ n h. h;
  runs = λ h. h;
}

pub later-twice : (o p q : Option Request) → IsLater o p → IsLater p q → IsLater o q
later-twice o p q one two = record {
  queued = two.queued ∙ one.queued;
  leaving = λ h. one.leaving (two.leaving h);
  pending = λ h. one.pending (two.pending h);
  dump = λ h. one.dump (two.dump h);
  carries = λ n h. two.carries (let same = one.queued in omega (arith, same, n)) (one.carries n h);
  runs = λ h. one.runs (two.runs h);
}

-- by its stage, where it is answered as before
later-stage : (r r' : Request) → r'.answering ≡ r.answering → IsLaterStage r.stage r'.stage → IsLater (Some r) (Some r')
later-stage r r' same by = record {
  queued = by.queued;
  leaving = by.leaving;
  pending = by.pending;
  dump = λ h. ap (λ (a : Answering). is_dump a) (sym same) ∙ h;
  carries = λ n h. ap (λ (a : Answering). is_dump a) same ∙ h;
  runs = λ h. ap (λ (b : Bool). is_dump r.answering && b) (by.awaited (both-true (is_dump r'.answering)
      (is_awaited r'.stage) h).1)
      ∙ and-same (is_dump r.answering) (ap (λ (a : Answering). is_dump a) (sym same)
      ∙ (both-true (is_dump r'.answering) (is_awaited r'.stage) h).0);
}
  where
    and-same : (b : Bool) → b ≡ true → (b && true) ≡ true
    and-same true h = refl
    and-same false h = h

-- what nobody reads is forgotten once it is over
pub later-kept : (o : Option Request) → IsLater o (kept o)
later-kept None = later-same None
later-kept (Some r) = go (is_over r.stage && not r.is_open) refl
  where
    over : (s : Stage) → is_over s ≡ true → 0 ≡ queued_at s
    over stage.Queued h = no-truth h
    over stage.Leaving h = refl
    over stage.Awaited h = refl
    over stage.Ended h = refl
    over stage.Silent h = refl

    go : (b : Bool) → (is_over r.stage && not r.is_open) ≡ b → IsLater (Some r) (if b then None else Some r)
    go true is = record {
      queued = over r.stage (both-true (is_over r.stage) (not r.is_open) is).0;
      leaving = λ n. no-truth n;
      pending = λ n. no-truth n;
      dump = λ n. no-truth n;
      carries = λ n h. let none = over r.stage (both-true (is_over r.stage) (not r.is_open) is).0 in
          elim (let no : ⊥ = omega (arith, none, n) in no) [ ];
      runs = λ n. no-truth n;
    }
    go false is = later-same (Some r)

later-map : (f : Request → Request) → ((r : Request) → IsLater (Some r) (Some (f r)))
    → (o : Option Request) → IsLater o (option_map f o)
later-map f by None = later-same None
later-map f by (Some r) = by r

later-when : (c : Change) → ((r : Request) → IsLater (Some r) (Some (changed c r))) → (o : Option Request)
    → IsLater o (when c o)
later-when c by o = later-twice o (option_map (changed c) o) (when c o) (later-map (changed c) by o)
    (later-kept (option_map (changed c) o))

-- ---- by what happens to it

pub later-lost : (l : Loss) (o : Option Request) → IsLater o (when (change.Lose l) o)
later-lost l o = later-when (change.Lose l) (λ r. later-stage r (lost l r) refl (same-stage r.stage)) o

pub later-settled : (o : Option Request) → IsLater o (when change.Settle o)
later-settled o = later-when change.Settle (λ r. later-stage r (changed change.Settle r) refl (settled-stage r.stage)) o

pub later-sent : (o : Option Request) → IsLater o (when change.Sent o)
later-sent o = later-when change.Sent (λ r. later-stage r (changed change.Sent r) refl (by r.stage)) o
  where
    by : (s : Stage) → IsLaterStage s (sent_at s)
    by stage.Leaving = record { queued = refl; leaving = λ n. no-truth n; pending = λ n. refl; awaited = λ n. refl }
    by stage.Queued = same-stage stage.Queued
    by stage.Awaited = same-stage stage.Awaited
    by stage.Ended = same-stage stage.Ended
    by stage.Silent = same-stage stage.Silent

pub later-unsent : (errno : ℤ) (o : Option Request) → IsLater o (when (change.Unsent errno) o)
later-unsent errno o = later-when (change.Unsent errno) (λ r. by r r.stage refl) o
  where
    by : (r : Request) (s : Stage) → r.stage ≡ s → IsLater (Some r) (Some (unsent_at s errno r))
    by r stage.Leaving is = later-stage r (unsent_at stage.Leaving errno r) refl
        (subst (λ (s : Stage). IsLaterStage s stage.Silent) (sym is)
        (record { queued = refl; leaving = λ n. no-truth n; pending = λ n. no-truth n; awaited = λ n. no-truth n }))
    by r stage.Queued is = later-same (Some r)
    by r stage.Awaited is = later-same (Some r)
    by r stage.Ended is = later-same (Some r)
    by r stage.Silent is = later-same (Some r)

pub later-among : (f : Option Request → Option Request) → ((o : Option Request) → IsLater o (f o))
    → (q : ℕ) (ns : List ℕ)
    (o : Option Request) → IsLater o (among ns f q o)
later-among f by q [] o = later-same o
later-among f by q (n ∷ ns) o = go (n == q) (later-among f by q ns)
  where
    go : (b : Bool) → ((p : Option Request) → IsLater p (among ns f q p))
        → IsLater o (among ns f q (if b then f o else o))
    go true more = later-twice o (f o) (among ns f q (f o)) (by o) (more (f o))
    go false more = more o

-- ---- by what comes

later-heard : (m : Lent ℕ) (r : Request) → is_awaited r.stage ≡ true → IsLater (Some r) (Some (heard m r))
later-heard m r is = later-stage r (heard m r) refl (go (ends r.answering m))
  where
    go : (b : Bool) → IsLaterStage r.stage (if b then stage.Ended else r.stage)
    go true = ended-stage r.stage is
    go false = same-stage r.stage

later-own : (group : ℕ) (m : Lent ℕ) (o : Option Request) → IsLater o (after_own group m o)
later-own group m None = later-same None
later-own group m (Some r) = go (answers group r) refl
  where
    go : (b : Bool) → answers group r ≡ b → IsLater (Some r) (if b then kept (Some (heard m r)) else Some r)
    go true is = later-twice (Some r) (Some (heard m r)) (kept (Some (heard m r)))
        (later-heard m r (both-true (is_awaited r.stage) ((group == 0) || r.echoes) is).0) (later-kept (Some
        (heard m r)))
    go false is = later-same (Some r)

later-after : (port group : ℕ) (m : Lent ℕ) (q : ℕ) (o : Option Request) → IsLater o (after port group m q o)
later-after port group m q o = go (is_own port m) (m.0.sequence_number == q)
  where
    go : (own mine : Bool) → IsLater o (if own then (if mine then after_own group m o else o) else o)
    go true true = later-own group m o
    go true false = later-same o
    go false mine = later-same o

pub later-all : (port group : ℕ) (ms : List (Lent ℕ)) (q : ℕ) (o : Option Request)
    → IsLater o (after_all port group ms q o)
later-all port group [] q o = later-same o
later-all port group (m ∷ ms) q o = later-twice o (after port group m q o) (after_all port group (m ∷ ms) q o)
    (later-after port group m q o) (later-all port group ms q (after port group m q o))

-- ---- by its reader

pub later-passed : (o : Option Request) → IsLater o (passed_at o)
later-passed o = later-map passed (λ r. go r r.waiting (untold r)) o
  where
    go : (r : Request) (xs : List Item) (l : Option Loss) → IsLater (Some r) (Some (passed_by xs l r))
    go r (x ∷ xs) l = later-stage r (passed_by (x ∷ xs) l r) refl (same-stage r.stage)
    go r [] (Some l) = later-stage r (passed_by [] (Some l) r) refl (same-stage r.stage)
    go r [] None = later-same (Some r)

pub later-closed : (o : Option Request) → IsLater o (closed_at o)
later-closed o = later-twice o (option_map closed o) (closed_at o)
    (later-map closed (λ r. later-stage r (closed r) refl (same-stage r.stage)) o) (later-kept (option_map closed o))
