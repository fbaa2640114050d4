-- What holds of a session after every call: who is queued, on its way, awaited, and which dump runs.
use Rattle.std.proofs.Common.{ℕ, ℤ, ◌≡◌, ◌+◌, ◌≤◌, Bool, true, false, not, ◌&&◌, ◌||◌, List, [], ◌∷◌, ◌++◌, length}
use Rattle.std.proofs.Common.{Option, Some, None, arith, refl, sym, subst, ap, ◌∙◌}
use Rattle.std.specs.Prelude.{if◌then◌else◌, is_some}
use Rattle.neli_session.specs.declared.change.Change.{Change}
use Rattle.neli_session.specs.declared.change.Change.TheVariants as change
use Rattle.neli_session.specs.declared.entry.Entry.{Entry}
use Rattle.neli_session.specs.declared.request.Request.{Request}
use Rattle.neli_session.specs.declared.request.Stage.{Stage}
use Rattle.neli_session.specs.declared.request.Stage.TheVariants as stage
use Rattle.neli_session.specs.Histories.{is_in}
use Rattle.neli_session.specs.Requests.{changed, is_awaited, is_over, left_at, sent_at, settled, unsent_at}
use Rattle.neli_session.specs.Mails.{Mail, dumps_of, is_dump, is_none_waiting, mail_of, next_mail, next_out, numbers_in}
use Rattle.neli_session.specs.Mails.{numbers_of, on_its_way, running_with, still_waiting, without_next}
use Rattle.neli_session.specs.Sends.{first_taken, is_running, runs_now, with_entries}
use Rattle.neli_session.specs.Sessions.{among, kept, queued, when}
use Rattle.neli_session.proofs.Later.{IsLater, both-true, has_dump, is_leaving, is_leaving_at, is_pending, is_sent}
use Rattle.neli_session.proofs.Later.{is_sent_at, later-among, later-same, later-settled, no-truth, queued_at}
use Rattle.neli_session.proofs.Later.{times_queued}
use Rattle.neli_session.proofs.Outboxes.{AreMarked, IsAdded, IsMarked, among-fails, among-once, among-others}
use Rattle.neli_session.proofs.Outboxes.{dump-added, entries-added, entries-others, in-either, marked-more, next-marked, next-may}
use Rattle.neli_session.proofs.Outboxes.{next-times, only-dump, still-marked, times-more, times_among, times_in}

pub record IsSound (requests : ℕ → Option Request) (awaited : List ℕ) (outbox : List Mail) (leaving : Option Mail)
    (running : Option ℕ) : Type 0 where
  -- what is queued is in one datagram that waits, and nothing else is in one
  pub queued : (q : ℕ) → times_among q outbox ≡ times_queued (requests q)
  pub leaves : (q : ℕ) → is_leaving (requests q) ≡ true → is_in q (numbers_in leaving) ≡ true
  pub awaits : (q : ℕ) → is_pending (requests q) ≡ true → is_in q awaited ≡ true
  pub marked : AreMarked requests outbox
  pub runs : (q : ℕ) → is_running (requests q) ≡ true → running ≡ Some q

pub sound-at-first : (f : ℕ → Option Request) (A : List ℕ) (L : Option Mail) (N : Option ℕ) → ((q : ℕ) → f q ≡ None)
    → IsSound f A [] L N
sound-at-first f A L N none = record {
  queued = λ q. ap times_queued (sym (none q));
  leaves = λ q h. no-truth (ap is_leaving (sym (none q)) ∙ h);
  awaits = λ q h. no-truth (ap is_pending (sym (none q)) ∙ h);
  marked = tt;
  runs = λ q h. no-truth (ap is_running (sym (none q)) ∙ h);
}

module _ (f g : ℕ → Option Request) (A : List ℕ) (O : List Mail) (L : Option Mail) (N : Option ℕ)
    (sound : IsSound f A O L N) where
  pub sound-later : ((q : ℕ) → IsLater (f q) (g q)) → IsSound g A O L N
  sound-later later = record {
    queued = λ q. sound.queued q ∙ sym (later q).queued;
    leaves = λ q h. sound.leaves q ((later q).leaving h);
    awaits = λ q h. sound.awaits q ((later q).pending h);
    marked = still-marked f g O (λ q more h. (later q).dump h)
        (λ q more h. (later q).carries (let is = sound.queued q in omega (arith, is, more)) h) sound.marked;
    runs = λ q h. sound.runs q ((later q).runs h);
  }

  -- ---- a send

  module _ (bytes : List ℕ) (es : List Entry) (free : first_taken f es ≡ None) (few : length (dumps_of es) ≤ 1)
      (new : (q : ℕ) → g q ≡ with_entries es q (f q)) where
    added : (q : ℕ) → is_in q (numbers_of es) ≡ true → IsAdded es q (f q) (g q)
    added q inside = subst (λ (o : Option Request). IsAdded es q (f q) o) (sym (new q))
        (entries-added f es q free inside)

    other : (q : ℕ) → is_in q (numbers_of es) ≡ false → g q ≡ f q
    other q out = new q ∙ entries-others es q (f q) out

    -- those that waited already are others
    waited : (q : ℕ) → 1 ≤ times_among q O → g q ≡ f q
    waited q more = go (is_in q (numbers_of es)) refl
      where
        go : (b : Bool) → is_in q (numbers_of es) ≡ b → g q ≡ f q
        go false out = other q out
        go true inside =
            let none : times_among q O ≡ 0 = sound.queued q ∙ ap times_queued (added q inside).was in
            elim (let no : ⊥ = omega (arith, more, none) in no) [ ]

    send-queued : (q : ℕ) → times_among q (O ++ mail_of bytes es ∷ []) ≡ times_queued (g q)
    send-queued q = times-more q O (mail_of bytes es) ∙ go (is_in q (numbers_of es)) refl
      where
        go : (b : Bool) → is_in q (numbers_of es) ≡ b
            → times_among q O + times_in q (mail_of bytes es) ≡ times_queued (g q)
        go true inside =
            let none : times_among q O ≡ 0 = sound.queued q ∙ ap times_queued (added q inside).was in
            let one : times_in q (mail_of bytes es) ≡ 1 = rw inside refl in
            let is : times_queued (g q) ≡ 1 = ap times_queued (added q inside).is in
            omega (arith, none, one, is)
        go false out =
            let none : times_in q (mail_of bytes es) ≡ 0 = rw out refl in
            let is : times_queued (g q) ≡ times_queued (f q) = ap times_queued (other q out) in
            let before : times_among q O ≡ times_queued (f q) = sound.queued q in
            omega (arith, none, is, before)

    send-leaves : (q : ℕ) → is_leaving (g q) ≡ true → is_in q (numbers_in L) ≡ true
    send-leaves q h = go (is_in q (numbers_of es)) refl
      where
        go : (b : Bool) → is_in q (numbers_of es) ≡ b → is_in q (numbers_in L) ≡ true
        go true inside = no-truth (ap is_leaving (sym (added q inside).is) ∙ h)
        go false out = sound.leaves q (ap is_leaving (sym (other q out)) ∙ h)

    send-awaits : (q : ℕ) → is_pending (g q) ≡ true → is_in q (A ++ numbers_of es) ≡ true
    send-awaits q h = in-either q A (numbers_of es) ∙ go (is_in q (numbers_of es)) refl
      where
        or-true : (a : Bool) → (a || true) ≡ true
        or-true true = refl
        or-true false = refl

        go : (b : Bool) → is_in q (numbers_of es) ≡ b → (is_in q A || is_in q (numbers_of es)) ≡ true
        go true inside = ap (λ (b : Bool). is_in q A || b) inside ∙ or-true (is_in q A)
        go false out = ap (λ (b : Bool). b || is_in q (numbers_of es))
            (sound.awaits q (ap is_pending (sym (other q out)) ∙ h))

    send-marked : AreMarked g (O ++ mail_of bytes es ∷ [])
    send-marked = marked-more g O (mail_of bytes es)
        (still-marked f g O (λ q more h. ap has_dump (sym (waited q more)) ∙ h)
        (λ q more h. ap has_dump (waited q more) ∙ h) sound.marked)
        (record {
          only = λ q inside h. only-dump q (dumps_of es) few
              ((added q inside).dump (ap has_dump (sym (added q inside).is) ∙ h));
          carries = λ q is. let had = dump-added f es q free is in (had.0, ap has_dump (new q) ∙ had.1);
        })

    send-runs : (q : ℕ) → is_running (g q) ≡ true → N ≡ Some q
    send-runs q h = go (is_in q (numbers_of es)) refl
      where
        go : (b : Bool) → is_in q (numbers_of es) ≡ b → N ≡ Some q
        go true inside = no-truth (both-true (is_dump (added q inside).answering) false
            (ap is_running (sym (added q inside).is) ∙ h)).1
        go false out = sound.runs q (ap is_running (sym (other q out)) ∙ h)

    pub sound-send : IsSound g (A ++ numbers_of es) (O ++ mail_of bytes es ∷ []) L N
    sound-send = record {
      queued = send-queued;
      leaves = send-leaves;
      awaits = send-awaits;
      marked = send-marked;
      runs = send-runs;
    }

-- ---- what goes out

abbrev gone : Option Request
gone = None

abbrev in_stage : Stage → Request → Request
in_stage s r = record r { stage = s }

-- a request that is queued once leaves
record Leaves (o : Option Request) (more : ℕ) : Type 0 where
  request : Request
  was : o ≡ Some request
  is : when change.Leave o ≡ Some (in_stage stage.Leaving request)
  no-more : more ≡ 0
  stage-was : request.stage ≡ stage.Queued

leave-queued : (r : Request) → r.stage ≡ stage.Queued → when change.Leave (Some r) ≡ Some (in_stage stage.Leaving r)
leave-queued r is = ap (λ (s : Stage). if is_over (left_at s) && not r.is_open then gone
    else Some (in_stage (left_at s) r)) is

queued-leaves : (o : Option Request) (more : ℕ) → 1 + more ≡ times_queued o → Leaves o more
queued-leaves None more h = elim (let no : ⊥ = omega (arith, h) in no) [ ]
queued-leaves (Some r) more h = go r.stage refl h
  where
    go : (s : Stage) → r.stage ≡ s → 1 + more ≡ queued_at s → Leaves (Some r) more
    go stage.Queued is h = record {
      request = r;
      was = refl;
      is = leave-queued r is;
      no-more = omega (arith, h);
      stage-was = is;
    }
    go stage.Leaving is h = elim (let no : ⊥ = omega (arith, h) in no) [ ]
    go stage.Awaited is h = elim (let no : ⊥ = omega (arith, h) in no) [ ]
    go stage.Ended is h = elim (let no : ⊥ = omega (arith, h) in no) [ ]
    go stage.Silent is h = elim (let no : ⊥ = omega (arith, h) in no) [ ]

leave-twice : (o : Option Request) (more : ℕ) → Leaves o more
    → when change.Leave (when change.Leave o) ≡ when change.Leave o
leave-twice o more l = ap (λ (p : Option Request). when change.Leave p) l.is ∙ sym l.is

module _ (f g : ℕ → Option Request) (A : List ℕ) (O : List Mail) (N : Option ℕ) (sound : IsSound f A O None N)
    (p : Mail)
    (next : next_mail (runs_now N f) O ≡ Some p)
    (new : (q : ℕ) → g q ≡ among p.numbers (when change.Leave) q (f q)) where
  abbrev others : List Mail
  others = without_next (runs_now N f) O

  out-stays : (q : ℕ) → is_in q p.numbers ≡ false → g q ≡ f q
  out-stays q out = new q ∙ among-others (when change.Leave) q p.numbers (f q) out

  in-leaves : (q : ℕ) → is_in q p.numbers ≡ true → Leaves (f q) (times_among q others)
  in-leaves q inside = queued-leaves (f q) (times_among q others)
      (let one : times_in q p ≡ 1 = rw inside refl in
      let all : times_among q O ≡ times_in q p + times_among q others = next-times (runs_now N f) q O p next in
      let is : times_among q O ≡ times_queued (f q) = sound.queued q in
      omega (arith, one, all, is))

  in-left : (q : ℕ) (inside : is_in q p.numbers ≡ true) → g q ≡ Some (in_stage stage.Leaving
      (in-leaves q inside).request)
  in-left q inside = new q ∙ among-once (when change.Leave) q p.numbers (f q)
      (leave-twice (f q) (times_among q others) (in-leaves q inside)) inside ∙ (in-leaves q inside).is

  out-queued : (q : ℕ) → times_among q others ≡ times_queued (g q)
  out-queued q = go (is_in q p.numbers) refl
    where
      go : (b : Bool) → is_in q p.numbers ≡ b → times_among q others ≡ times_queued (g q)
      go true inside = (in-leaves q inside).no-more ∙ ap times_queued (sym (in-left q inside))
      go false out =
          let none : times_in q p ≡ 0 = rw out refl in
          let all : times_among q O ≡ times_in q p + times_among q others = next-times (runs_now N f) q O p next in
          let is : times_among q O ≡ times_queued (f q) = sound.queued q in
          let same : times_queued (g q) ≡ times_queued (f q) = ap times_queued (out-stays q out) in
          omega (arith, none, all, is, same)

  out-leaves : (q : ℕ) → is_leaving (g q) ≡ true → is_in q p.numbers ≡ true
  out-leaves q h = go (is_in q p.numbers) refl
    where
      go : (b : Bool) → is_in q p.numbers ≡ b → is_in q p.numbers ≡ true
      go true inside = inside
      go false out = no-truth (sound.leaves q (ap is_leaving (sym (out-stays q out)) ∙ h))

  out-awaits : (q : ℕ) → is_pending (g q) ≡ true → is_in q A ≡ true
  out-awaits q h = go (is_in q p.numbers) refl
    where
      go : (b : Bool) → is_in q p.numbers ≡ b → is_in q A ≡ true
      go true inside = sound.awaits q (ap is_pending (in-leaves q inside).was
          ∙ ap (λ (s : Stage). not (is_over s)) (in-leaves q inside).stage-was)
      go false out = sound.awaits q (ap is_pending (sym (out-stays q out)) ∙ h)

  out-dump : (q : ℕ) → has_dump (g q) ≡ true → has_dump (f q) ≡ true
  out-dump q h = go (is_in q p.numbers) refl
    where
      go : (b : Bool) → is_in q p.numbers ≡ b → has_dump (f q) ≡ true
      go true inside = ap has_dump (in-leaves q inside).was ∙ ap has_dump (sym (in-left q inside)) ∙ h
      go false out = ap has_dump (sym (out-stays q out)) ∙ h

  -- what still waits is no number of it
  out-other : (q : ℕ) → 1 ≤ times_among q others → is_in q p.numbers ≡ false
  out-other q more = go (is_in q p.numbers) refl
    where
      go : (b : Bool) → is_in q p.numbers ≡ b → b ≡ false
      go true inside =
          let none : times_among q others ≡ 0 = (in-leaves q inside).no-more in
          elim (let no : ⊥ = omega (arith, none, more) in no) [ ]
      go false out = refl

  out-marked : IsMarked f p × AreMarked f others
  out-marked = next-marked (runs_now N f) f O p next sound.marked

  -- while a dump runs none goes out
  out-idle : (q : ℕ) → N ≡ Some q → is_running (f q) ≡ true → is_some p.dump ≡ false
  out-idle q is runs = may (is_some p.dump) (ap (λ (b : Bool). not (b && is_some p.dump))
      (sym (ap (λ (o : Option ℕ). runs_now o f) is ∙ runs)) ∙ next-may (runs_now N f) O p next)
    where
      may : (b : Bool) → not b ≡ true → b ≡ false
      may true never = no-truth never
      may false is_none = refl

  pub out-alone : (q : ℕ) → is_some p.dump ≡ true → is_running (f q) ≡ false
  out-alone q dump = go (is_running (f q)) refl
    where
      go : (b : Bool) → is_running (f q) ≡ b → b ≡ false
      go true runs = no-truth (sym (out-idle q (sound.runs q runs) runs) ∙ dump)
      go false idle = refl

  -- and where one goes out it runs
  pub out-begins : (n : ℕ) → p.dump ≡ Some n → is_running (g n) ≡ true
  out-begins n is =
      let had = out-marked.0.carries n is in
      ap is_running (in-left n had.0)
      ∙ ap (λ (b : Bool). b && true) (ap has_dump (sym (in-leaves n had.0).was) ∙ had.1)

  out-runs : (q : ℕ) → is_running (g q) ≡ true → running_with (Some p) N ≡ Some q
  out-runs q h = go (is_in q p.numbers) refl
    where
      go : (b : Bool) → is_in q p.numbers ≡ b → running_with (Some p) N ≡ Some q
      go true inside =
          let dump : p.dump ≡ Some q = out-marked.0.only q inside (out-dump q (is-dump (g q) h)) in
          rw dump refl
        where
          is-dump : (o : Option Request) → is_running o ≡ true → has_dump o ≡ true
          is-dump None never = never
          is-dump (Some r) both = (both-true (is_dump r.answering) (is_awaited r.stage) both).0
      go false out =
          let was : is_running (f q) ≡ true = ap is_running (sym (out-stays q out)) ∙ h in
          let same : N ≡ Some q = sound.runs q was in
          ap (λ (b : Bool). if b then p.dump else N) (out-idle q same was) ∙ same

  pub sound-out : IsSound g A others (Some p) (running_with (Some p) N)
  sound-out = record {
    queued = out-queued;
    leaves = out-leaves;
    awaits = out-awaits;
    marked = still-marked f g others (λ q more h. out-dump q h)
        (λ q more h. ap has_dump (out-stays q (out-other q more)) ∙ h) out-marked.1;
    runs = out-runs;
  }

-- nothing happens to any
out-none : (f g : ℕ → Option Request) (A : List ℕ) (O : List Mail) (L : Option Mail) (N : Option ℕ) → IsSound f A O L N
    → ((q : ℕ) → g q ≡ f q) → IsSound g A O L N
out-none f g A O L N sound new = sound-later f g A O L N sound (λ q. subst (λ (o : Option Request). IsLater
    (f q) o) (sym (new q))
    (later-same (f q)))

-- a datagram that goes out, or not, as the session chooses
pub sound-outgoing : (f g : ℕ → Option Request) (A : List ℕ) (O : List Mail) (L : Option Mail) (N : Option ℕ)
    (congested : Bool) (o : Option Mail) → IsSound f A O L N → next_out congested L (runs_now N f) O ≡ o
    → ((q : ℕ) → g q ≡ among (numbers_in o) (when change.Leave) q (f q))
    → IsSound g A (still_waiting o (runs_now N f) O) (on_its_way L o) (running_with o N)
sound-outgoing f g A O (Some p) N congested None sound next new = out-none f g A O (Some p) N sound new
sound-outgoing f g A O (Some p) N congested (Some r) sound next new = cc
sound-outgoing f g A O None N true None sound next new = out-none f g A O None N sound new
sound-outgoing f g A O None N true (Some r) sound next new = cc
sound-outgoing f g A O None N false None sound next new = out-none f g A O None N sound new
sound-outgoing f g A O None N false (Some r) sound next new = sound-out f g A O N sound r next new

-- where it has a dump, none ran, and it runs from then on
pub turn-outgoing : (f g : ℕ → Option Request) (A : List ℕ) (O : List Mail) (L : Option Mail) (N : Option ℕ)
    (congested : Bool) (p : Mail) (n : ℕ) → IsSound f A O L N → next_out congested L (runs_now N f) O ≡ Some p
    → ((q : ℕ) → g q ≡ among p.numbers (when change.Leave) q (f q)) → p.dump ≡ Some n
    → ((q : ℕ) → is_running (f q) ≡ false) × (is_running (g n) ≡ true)
turn-outgoing f g A O (Some r) N congested p n sound next new is = cc
turn-outgoing f g A O None N true p n sound next new is = cc
turn-outgoing f g A O None N false p n sound next new is = (
  λ q. out-alone f g A O N sound p next new q (ap (λ (o : Option ℕ). is_some o) is),
  out-begins f g A O N sound p next new n is,
)

-- ---- what was on its way is gone

-- a test that a request fails it fails where it is kept
kept-fails : (P : Option Request → Bool) → P None ≡ false → (r : Request) → P (Some r) ≡ false
    → P (kept (Some r)) ≡ false
kept-fails P none r some = go (is_over r.stage && not r.is_open)
  where
    go : (b : Bool) → P (if b then gone else Some r) ≡ false
    go true = none
    go false = some

pub sent-goes : (o : Option Request) → is_leaving (when change.Sent o) ≡ false
sent-goes None = refl
sent-goes (Some r) = kept-fails is_leaving refl (changed change.Sent r) (by r.stage)
  where
    by : (s : Stage) → is_leaving_at (sent_at s) ≡ false
    by stage.Queued = refl
    by stage.Leaving = refl
    by stage.Awaited = refl
    by stage.Ended = refl
    by stage.Silent = refl

pub unsent-goes : (errno : ℤ) (o : Option Request) → is_leaving (when (change.Unsent errno) o) ≡ false
unsent-goes errno None = refl
unsent-goes errno (Some r) = kept-fails is_leaving refl (changed (change.Unsent errno) r) (by r.stage refl)
  where
    by : (s : Stage) → r.stage ≡ s → is_leaving_at (unsent_at s errno r).stage ≡ false
    by stage.Queued is = ap is_leaving_at is
    by stage.Leaving is = refl
    by stage.Awaited is = ap is_leaving_at is
    by stage.Ended is = ap is_leaving_at is
    by stage.Silent is = ap is_leaving_at is

pub sound-gone : (f g : ℕ → Option Request) (A : List ℕ) (O : List Mail) (L : Option Mail) (N : Option ℕ) (c : Change)
    → IsSound f A O L N → ((o : Option Request) → IsLater o (when c o))
    → ((o : Option Request) → is_leaving (when c o) ≡ false)
    → ((q : ℕ) → g q ≡ among (numbers_in L) (when c) q (f q)) → IsSound g A O None N
sound-gone f g A O L N c sound later goes new =
    let still : IsSound g A O L N = sound-later f g A O L N sound
    (λ q. subst (λ (o : Option Request). IsLater (f q) o) (sym (new q)) (later-among (when c) later q
    (numbers_in L) (f q))) in
    record {
      queued = still.queued;
      leaves = λ q h. no-truth (sym (ap is_leaving (new q)
          ∙ among-fails is_leaving (when c) goes q (numbers_in L) (f q) (λ is. sound.leaves q is)) ∙ h);
      awaits = still.awaits;
      marked = still.marked;
      runs = still.runs;
    }

-- ---- the link was seen empty

settles : (o : Option Request) → is_sent (when change.Settle o) ≡ false
settles None = refl
settles (Some r) = kept-fails is_sent refl (changed change.Settle r) (by r.stage)
  where
    by : (s : Stage) → is_sent_at (settled s) ≡ false
    by stage.Queued = refl
    by stage.Leaving = refl
    by stage.Awaited = refl
    by stage.Ended = refl
    by stage.Silent = refl

sent-pending : (o : Option Request) → is_sent o ≡ true → is_pending o ≡ true
sent-pending None h = h
sent-pending (Some r) h = go r.stage h
  where
    go : (s : Stage) → is_sent_at s ≡ true → not (is_over s) ≡ true
    go stage.Queued h = refl
    go stage.Leaving h = refl
    go stage.Awaited h = refl
    go stage.Ended h = h
    go stage.Silent h = h

-- what is neither queued nor on its way nor sent is over
none-pending : (o : Option Request) → times_queued o ≡ 0 → is_leaving o ≡ false → is_sent o ≡ false
    → is_pending o ≡ false
none-pending None queued leaving sent = refl
none-pending (Some r) queued leaving sent = go r.stage queued leaving sent
  where
    go : (s : Stage) → queued_at s ≡ 0 → is_leaving_at s ≡ false → is_sent_at s ≡ false → not (is_over s) ≡ false
    go stage.Queued queued leaving sent = elim (let no : ⊥ = omega (arith, queued) in no) [ ]
    go stage.Leaving queued leaving sent = leaving
    go stage.Awaited queued leaving sent = sent
    go stage.Ended queued leaving sent = refl
    go stage.Silent queued leaving sent = refl

sound-settled : (f g : ℕ → Option Request) (A B : List ℕ) (O : List Mail) (L : Option Mail) (N : Option ℕ)
    → IsSound f A O L N → ((q : ℕ) → g q ≡ among A (when change.Settle) q (f q))
    → B ≡ (if is_none_waiting O && not (is_some L) then [] else A) → IsSound g B O L N
sound-settled f g A B O L N sound new are = record {
  queued = still.queued;
  leaves = still.leaves;
  awaits = λ q h. ap (λ (ns : List ℕ). is_in q ns) are ∙ go O L sound still q h;
  marked = still.marked;
  runs = still.runs;
}
  where
    still : IsSound g A O L N
    still = sound-later f g A O L N sound (λ q. subst (λ (o : Option Request). IsLater (f q) o) (sym (new q))
        (later-among (when change.Settle) later-settled q A (f q)))

    -- where nothing waits and nothing is on its way none is pending
    go : (O : List Mail) (L : Option Mail) → IsSound f A O L N → IsSound g A O L N → (q : ℕ) → is_pending (g q) ≡ true
        → is_in q (if is_none_waiting O && not (is_some L) then [] else A) ≡ true
    go [] None before after q h = no-truth (sym (none-pending (g q) (sym (after.queued q))
        (false-by (is_leaving (g q)) (λ is. after.leaves q is))
        (ap is_sent (new q) ∙ among-fails is_sent (when change.Settle) settles q A (f q)
        (λ is. before.awaits q (sent-pending (f q) is)))) ∙ h)
      where
        false-by : (b : Bool) → (b ≡ true → false ≡ true) → b ≡ false
        false-by true never = no-truth (never refl)
        false-by false never = refl
    go [] (Some p) before after q h = after.awaits q h
    go (p ∷ ps) L before after q h = after.awaits q h

-- where answers come at once, and where they may come later
pub sound-quiet : (f g : ℕ → Option Request) (A B : List ℕ) (O : List Mail) (L : Option Mail) (N : Option ℕ)
    (at_once : Bool) → IsSound f A O L N
    → ((q : ℕ) → g q ≡ among (if at_once then A else []) (when change.Settle) q (f q))
    → B ≡ (if at_once && (is_none_waiting O && not (is_some L)) then [] else A) → IsSound g B O L N
sound-quiet f g A B O L N true sound new are = sound-settled f g A B O L N sound new are
sound-quiet f g A B O L N false sound new are = subst (λ (ns : List ℕ). IsSound g ns O L N) (sym are)
    (out-none f g A O L N sound new)
