-- A dump that a kernel runs is one that its session awaits.
use Rattle.std.proofs.Common.{ℕ, ℤ, ◌≡◌, Bool, true, false, not, ◌&&◌, ◌||◌, List, [], ◌∷◌, ◌++◌, Option, Some, None}
use Rattle.std.proofs.Common.{refl, sym, subst, ap, ◌∙◌, eqb-true}
use Rattle.std.specs.Prelude.{◌==◌, if◌then◌else◌, is_some, nat_eq, option_map}
use Rattle.neli_wire.specs.declared.errors.DeError.{DeError}
use Rattle.neli_answers.specs.declared.answering.Answering.{Answering}
use Rattle.neli_answers.specs.declared.answering.Answering.TheVariants as answered
use Rattle.neli_lent.specs.Messages.{Lent, messages_in}
use Rattle.neli_session.specs.declared.change.Change.{Change}
use Rattle.neli_session.specs.declared.change.Change.TheVariants as change
use Rattle.neli_session.specs.declared.entry.Entry.{Entry}
use Rattle.neli_session.specs.declared.loss.Loss.{Loss}
use Rattle.neli_session.specs.declared.loss.Loss.TheVariants as loss
use Rattle.neli_session.specs.declared.request.Request.{Request}
use Rattle.neli_session.specs.declared.request.Stage.{Stage}
use Rattle.neli_session.specs.declared.request.Stage.TheVariants as stage
use Rattle.neli_session.specs.declared.session.Session.{Session}
use Rattle.neli_session.specs.Histories.{Ask, Call, Close, CloseMulticast, DumpsTakeTurns, Fault, IsHistory, IsNew}
use Rattle.neli_session.specs.Histories.{IsOfOne, IsStep, Moment, NotSent, Outgoing, PassAnswer, PassMulticast}
use Rattle.neli_session.specs.Histories.{PassUnasked, Quiet, Receive, Send, Sent, is_in, last}
use Rattle.neli_session.specs.Mails.{Mail, answers_at_once, entries_of, is_dump, next_out, numbers_in, on_its_way}
use Rattle.neli_session.specs.Messages.{messages_of}
use Rattle.neli_session.specs.Requests.{answers, changed, ends, heard, is_awaited, is_over, left_at, passed_by}
use Rattle.neli_session.specs.Requests.{sent_at, unsent_at, untold}
use Rattle.neli_session.specs.Sends.{first_taken, is_running, runs_now, with_entries, with_entry}
use Rattle.neli_session.specs.Sessions.{after, after_all, after_own, among, at, closed, closed_at, is_own, kept}
use Rattle.neli_session.specs.Sessions.{passed_at, queued, when}
use Rattle.neli_session.specs.Waiting.{Item}
use Rattle.neli_session_laws.specs.Busy.{carries_dump, is_busy, is_ever_busy, runs_after, runs_past, runs_past_all}

no-truth : {A : Type 0} → false ≡ true → A
no-truth h = absurd cc

both-true : (a b : Bool) → (a && b) ≡ true → (a ≡ true) × (b ≡ true)
both-true true b h = (refl, h)
both-true false b h = no-truth h

-- ---- a request that is answered by a dump and is awaited

abbrev IsRunning : Option Request → Type 0
IsRunning o = is_running o ≡ true

running-used : (o : Option Request) → IsRunning o → is_some o ≡ true
running-used None runs = runs
running-used (Some r) runs = refl

abbrev gone : Option Request
gone = None

-- it is kept
running-kept : (r : Request) → IsRunning (Some r) → kept (Some r) ≡ Some r
running-kept r runs = ap (λ (b : Bool). if b && not r.is_open then gone else Some r)
    (not-over r.stage (both-true (is_dump r.answering) (is_awaited r.stage) runs).1)
  where
    not-over : (s : Stage) → is_awaited s ≡ true → is_over s ≡ false
    not-over stage.Queued h = refl
    not-over stage.Leaving h = refl
    not-over stage.Awaited h = refl
    not-over stage.Ended h = no-truth h
    not-over stage.Silent h = no-truth h

-- its request is on its way
abbrev is_leaving_at : Stage → Bool
is_leaving_at stage.Leaving = true
is_leaving_at s = false

abbrev is_leaving : Option Request → Bool
is_leaving None = false
is_leaving (Some r) = is_leaving_at r.stage

-- where the one runs the other does, and is not on its way where the one was not
record Keeps (o o' : Option Request) : Type 0 where
  runs : IsRunning o → IsRunning o'
  leaves : IsRunning o → is_leaving o' ≡ true → is_leaving o ≡ true

keeps-same : (o o' : Option Request) → (IsRunning o → o' ≡ o) → Keeps o o'
keeps-same o o' same = record {
  runs = λ is. ap is_running (same is) ∙ is;
  leaves = λ is h. ap is_leaving (sym (same is)) ∙ h;
}

keeps-both : (o p q : Option Request) → Keeps o p → Keeps p q → Keeps o q
keeps-both o p q one two = record {
  runs = λ is. two.runs (one.runs is);
  leaves = λ is h. one.leaves is (two.leaves (one.runs is) h);
}

keeps-kept : (r : Request) → Keeps (Some r) (kept (Some r))
keeps-kept r = keeps-same (Some r) (kept (Some r)) (λ is. running-kept r is)

-- what does not end it leaves it so
record GoesOn (f : Request → Request) : Type 0 where
  kind : (r : Request) → (f r).answering ≡ r.answering
  awaited : (r : Request) → is_awaited r.stage ≡ true → is_awaited (f r).stage ≡ true
  leaving : (r : Request) → is_awaited r.stage ≡ true → is_leaving_at (f r).stage ≡ true → is_leaving_at r.stage ≡ true

keeps-by : (f : Request → Request) → GoesOn f → (r : Request) → Keeps (Some r) (Some (f r))
keeps-by f on r = record {
  runs = λ is. let both = both-true (is_dump r.answering) (is_awaited r.stage) is in
      ap (λ (a : Answering). is_dump a && is_awaited (f r).stage) (on.kind r)
      ∙ ap (λ (b : Bool). b && is_awaited (f r).stage) both.0 ∙ on.awaited r both.1;
  leaves = λ is h. on.leaving r (both-true (is_dump r.answering) (is_awaited r.stage) is).1 h;
}

keeps-map : (f : Request → Request) → GoesOn f → (o : Option Request) → Keeps o (kept (option_map f o))
keeps-map f on None = keeps-same None None (λ is. refl)
keeps-map f on (Some r) = keeps-both (Some r) (Some (f r)) (kept (Some (f r))) (keeps-by f on r) (keeps-kept (f r))

leave-goes : GoesOn (changed change.Leave)
leave-goes = record { kind = λ r. refl; awaited = λ r is. by r.stage is; leaving = λ r is h. to r.stage is h }
  where
    by : (s : Stage) → is_awaited s ≡ true → is_awaited (left_at s) ≡ true
    by stage.Queued h = refl
    by stage.Leaving h = refl
    by stage.Awaited h = refl
    by stage.Ended h = h
    by stage.Silent h = h

    to : (s : Stage) → is_awaited s ≡ true → is_leaving_at (left_at s) ≡ true → is_leaving_at s ≡ true
    to stage.Queued h n = no-truth h
    to stage.Leaving h n = refl
    to stage.Awaited h n = n
    to stage.Ended h n = n
    to stage.Silent h n = n

sent-goes : GoesOn (changed change.Sent)
sent-goes = record { kind = λ r. refl; awaited = λ r is. by r.stage is; leaving = λ r is h. to r.stage is h }
  where
    by : (s : Stage) → is_awaited s ≡ true → is_awaited (sent_at s) ≡ true
    by stage.Queued h = h
    by stage.Leaving h = refl
    by stage.Awaited h = refl
    by stage.Ended h = h
    by stage.Silent h = h

    to : (s : Stage) → is_awaited s ≡ true → is_leaving_at (sent_at s) ≡ true → is_leaving_at s ≡ true
    to stage.Queued h n = no-truth h
    to stage.Leaving h n = refl
    to stage.Awaited h n = n
    to stage.Ended h n = n
    to stage.Silent h n = n

lost-goes : (l : Loss) → GoesOn (changed (change.Lose l))
lost-goes l = record { kind = λ r. refl; awaited = λ r is. is; leaving = λ r is h. h }

closed-goes : GoesOn closed
closed-goes = record { kind = λ r. refl; awaited = λ r is. is; leaving = λ r is h. h }

passed-keeps : (o : Option Request) → Keeps o (passed_at o)
passed-keeps None = keeps-same None None (λ is. refl)
passed-keeps (Some r) = by r.waiting (untold r)
  where
    by : (xs : List Item) (l : Option Loss) → Keeps (Some r) (Some (passed_by xs l r))
    by (x ∷ xs) l = record { runs = λ is. is; leaves = λ is h. h }
    by [] (Some l) = record { runs = λ is. is; leaves = λ is h. h }
    by [] None = record { runs = λ is. is; leaves = λ is h. h }

among-keeps : (f : Option Request → Option Request) → ((o : Option Request) → Keeps o (f o))
    → (q : ℕ) (ns : List ℕ) (o : Option Request) → Keeps o (among ns f q o)
among-keeps f on q [] o = keeps-same o o (λ is. refl)
among-keeps f on q (n ∷ ns) o = go (n == q) (among-keeps f on q ns)
  where
    go : (b : Bool) → ((p : Option Request) → Keeps p (among ns f q p))
        → Keeps o (among ns f q (if b then f o else o))
    go true more = keeps-both o (f o) (among ns f q (f o)) (on o) (more (f o))
    go false more = more o

-- what happens to others is nothing, and what it does not change stays
among-others : (f : Option Request → Option Request) (q : ℕ) (ns : List ℕ) (o : Option Request) → is_in q ns ≡ false
    → among ns f q o ≡ o
among-others f q [] o out = refl
among-others f q (n ∷ ns) o out = go (n == q) out (among-others f q ns o)
  where
    go : (b : Bool) → (b || is_in q ns) ≡ false → (is_in q ns ≡ false → among ns f q o ≡ o)
        → among ns f q (if b then f o else o) ≡ o
    go true h more = no-truth (sym h)
    go false h more = more h

among-fixed : (f : Option Request → Option Request) (q : ℕ) (ns : List ℕ) (o : Option Request) → f o ≡ o
    → among ns f q o ≡ o
among-fixed f q [] o is = refl
among-fixed f q (n ∷ ns) o is = go (n == q) (among-fixed f q ns o is)
  where
    go : (b : Bool) → among ns f q o ≡ o → among ns f q (if b then f o else o) ≡ o
    go true more = ap (λ (p : Option Request). among ns f q p) is ∙ more
    go false more = more

-- ---- what was sent is on its way no more

sent-out : (o : Option Request) → is_leaving (when change.Sent o) ≡ false
sent-out None = refl
sent-out (Some r) = go (is_over (sent_at r.stage) && not r.is_open)
  where
    by : (s : Stage) → is_leaving_at (sent_at s) ≡ false
    by stage.Queued = refl
    by stage.Leaving = refl
    by stage.Awaited = refl
    by stage.Ended = refl
    by stage.Silent = refl

    go : (b : Bool) → is_leaving (if b then gone else Some (changed change.Sent r)) ≡ false
    go true = refl
    go false = by r.stage

sent-stays : (q : ℕ) (ns : List ℕ) (o : Option Request) → is_leaving o ≡ false
    → is_leaving (among ns (when change.Sent) q o) ≡ false
sent-stays q [] o is = is
sent-stays q (n ∷ ns) o is = go (n == q) (sent-stays q ns)
  where
    go : (b : Bool)
        → ((p : Option Request) → is_leaving p ≡ false → is_leaving (among ns (when change.Sent) q p) ≡ false)
        → is_leaving (among ns (when change.Sent) q (if b then when change.Sent o else o)) ≡ false
    go true more = more (when change.Sent o) (sent-out o)
    go false more = more o is

sent-among : (q : ℕ) (ns : List ℕ) (o : Option Request) → is_in q ns ≡ true
    → is_leaving (among ns (when change.Sent) q o) ≡ false
sent-among q [] o inside = no-truth inside
sent-among q (n ∷ ns) o inside = go (n == q) inside (sent-among q ns o)
  where
    go : (b : Bool) → (b || is_in q ns) ≡ true
        → (is_in q ns ≡ true → is_leaving (among ns (when change.Sent) q o) ≡ false)
        → is_leaving (among ns (when change.Sent) q (if b then when change.Sent o else o)) ≡ false
    go true h more = sent-stays q ns (when change.Sent o) (sent-out o)
    go false h more = more h

-- what was not sent changes nothing of what is not on its way
unsent-same : (errno : ℤ) (o : Option Request) → IsRunning o → is_leaving o ≡ false → when (change.Unsent errno) o ≡ o
unsent-same errno None runs is = no-truth runs
unsent-same errno (Some r) runs is =
    ap (λ (x : Request). kept (Some x)) (by r.stage (both-true (is_dump r.answering) (is_awaited r.stage) runs).1 is)
    ∙ running-kept r runs
  where
    by : (s : Stage) → is_awaited s ≡ true → is_leaving_at s ≡ false → unsent_at s errno r ≡ r
    by stage.Queued h n = no-truth h
    by stage.Leaving h n = no-truth (sym n)
    by stage.Awaited h n = refl
    by stage.Ended h n = no-truth h
    by stage.Silent h n = no-truth h

-- requests that are added are others
added-running : (f : ℕ → Option Request) (es : List Entry) (q : ℕ) → first_taken f es ≡ None → is_some (f q) ≡ true
    → with_entries es q (f q) ≡ f q
added-running f [] q free used = refl
added-running f (e ∷ es) q free used = go (e.number == q) refl (is_some (f e.number)) refl free
    (added-running (λ n. with_entry e n (f n)) es q)
  where
    go : (b : Bool) → (e.number == q) ≡ b → (c : Bool) → is_some (f e.number) ≡ c
        → (if c then Some e.number else first_taken (λ n. with_entry e n (f n)) es) ≡ None
        → (first_taken (λ n. with_entry e n (f n)) es ≡ None → is_some (with_entry e q (f q)) ≡ true
        → with_entries es q (with_entry e q (f q)) ≡ with_entry e q (f q))
        → with_entries es q (with_entry e q (f q)) ≡ f q
    go b same true taken h more = absurd cc
    go true same false taken h more =
        no-truth (sym taken ∙ ap (λ (n : ℕ). is_some (f n)) (eqb-true e.number q same) ∙ used)
    go false same false taken h more =
        let other : with_entry e q (f q) ≡ f q =
        ap (λ (b : Bool). if b then Some (queued e.answering e.echoes) else f q) same in
        more h (ap (λ (o : Option Request). is_some o) other ∙ used) ∙ other

-- ---- what comes

-- it is on its way, in a datagram with a dump
abbrev IsOnWay : Option Mail → ℕ → Type 0
IsOnWay L q = (is_in q (numbers_in L) ≡ true) × (carries_dump L ≡ true)

-- where this one runs, it is awaited as a dump, and may be on its way
record IsKnownAs (L : Option Mail) (q : ℕ) (o : Option Request) : Type 0 where
  awaited : IsRunning o
  leaves : is_leaving o ≡ true → IsOnWay L q

abbrev IsKnown : Option Mail → Option ℕ → ℕ → Option Request → Type 0
IsKnown L runs q o = runs ≡ Some q → IsKnownAs L q o

known-on : (L : Option Mail) (q : ℕ) (o o' : Option Request) → Keeps o o' → IsKnownAs L q o → IsKnownAs L q o'
known-on L q o o' on known = record {
  awaited = on.runs known.awaited;
  leaves = λ h. known.leaves (on.leaves known.awaited h);
}

dump-only : (a : Answering) → is_dump a ≡ true → a ≡ answered.Dump
dump-only answered.Dump h = refl
dump-only answered.Acknowledgement h = no-truth h
dump-only answered.Reply h = no-truth h
dump-only answered.Silence h = no-truth h

-- a message that ends no dump
heard-keeps : (m : Lent ℕ) (r : Request) → ends answered.Dump m ≡ false → Keeps (Some r) (Some (heard m r))
heard-keeps m r not_last = record {
  runs = λ is. ap (λ (s : Stage). is_dump r.answering && is_awaited s) (same is) ∙ is;
  leaves = λ is h. ap is_leaving_at (sym (same is)) ∙ h;
}
  where
    same : IsRunning (Some r) → (heard m r).stage ≡ r.stage
    same is =
        ap (λ (a : Answering). if ends a m then stage.Ended else r.stage)
        (dump-only r.answering (both-true (is_dump r.answering) (is_awaited r.stage) is).0)
        ∙ ap (λ (b : Bool). if b then stage.Ended else r.stage) not_last

own-keeps : (group : ℕ) (m : Lent ℕ) (o : Option Request) → ends answered.Dump m ≡ false
    → Keeps o (after_own group m o)
own-keeps group m None not_last = keeps-same None None (λ is. refl)
own-keeps group m (Some r) not_last = go (answers group r)
  where
    go : (b : Bool) → Keeps (Some r) (if b then kept (Some (heard m r)) else Some r)
    go true = keeps-both (Some r) (Some (heard m r)) (kept (Some (heard m r))) (heard-keeps m r not_last)
        (keeps-kept (heard m r))
    go false = keeps-same (Some r) (Some r) (λ is. refl)

some-same : (p q : ℕ) → Some p ≡ Some q → p ≡ q
some-same p q h = cc

none-some : {A : Type 0} (q : ℕ) → None ≡ Some q → A
none-some q h = absurd cc

module _ (L : Option Mail) (port group q : ℕ) where
  message-known : (m : Lent ℕ) (runs : Option ℕ) (o : Option Request) → IsKnown L runs q o
      → IsKnown L (runs_past port m runs) q (after port group m q o)
  message-known m None o known = λ is. none-some q is
  message-known m (Some n) o known =
      go (is_own port m) (m.0.sequence_number == q) refl (ends answered.Dump m) refl
    where
      go : (own mine : Bool) → (m.0.sequence_number == q) ≡ mine → (last : Bool) → ends answered.Dump m ≡ last
          → (if own && ((m.0.sequence_number == n) && last) then None else Some n) ≡ Some q
          → IsKnownAs L q (if own then (if mine then after_own group m o else o) else o)
      go false mine mine_is last last_is is = known is
      go true false mine_is last last_is is = by ((m.0.sequence_number == n) && last) is
        where
          by : (b : Bool) → (if b then None else Some n) ≡ Some q → IsKnownAs L q o
          by true h = none-some q h
          by false h = known h
      go true true mine_is true last_is is = by (m.0.sequence_number == n) refl is
        where
          by : (b : Bool) → (m.0.sequence_number == n) ≡ b → (if b && true then None else Some n) ≡ Some q
              → IsKnownAs L q (after_own group m o)
          by true number h = none-some q h
          by false number h = no-truth (sym number ∙ ap (λ (k : ℕ). m.0.sequence_number == k) (some-same n q h)
              ∙ mine_is)
      go true true mine_is false last_is is = known-on L q o (after_own group m o) (own-keeps group m o last_is)
          (known (by (m.0.sequence_number == n) is))
        where
          by : (b : Bool) → (if b && false then None else Some n) ≡ Some q → Some n ≡ Some q
          by true h = h
          by false h = h

  messages-known : (ms : List (Lent ℕ)) (runs : Option ℕ) (o : Option Request) → IsKnown L runs q o
      → IsKnown L (runs_past_all port ms runs) q (after_all port group ms q o)
  messages-known [] runs o known = known
  messages-known (m ∷ ms) runs o known =
      messages-known ms (runs_past port m runs) (after port group m q o) (message-known m runs o known)

-- ---- one call

abbrev AreKnown : Option ℕ → Session → Type 0
AreKnown runs s = (q : ℕ) → IsKnown s.leaving runs q (at s.requests q)

module _ (s t : Session) (runs : Option ℕ) (known : AreKnown runs s) where
  -- each request runs on where it ran
  goes-on : t.leaving ≡ s.leaving → ((q : ℕ) → Keeps (at s.requests q) (at t.requests q)) → AreKnown runs t
  goes-on way on q is = subst (λ (L : Option Mail). IsKnownAs L q (at t.requests q)) (sym way)
      (known-on s.leaving q (at s.requests q) (at t.requests q) (on q) (known q is))

  same-requests : t.leaving ≡ s.leaving → ((q : ℕ) → at t.requests q ≡ at s.requests q) → AreKnown runs t
  same-requests way same = goes-on way (λ q. keeps-same (at s.requests q) (at t.requests q) (λ is. same q))

  same-map : t.leaving ≡ s.leaving → t.requests ≡ s.requests → AreKnown runs t
  same-map way same = same-requests way (λ q. rw same refl)

  changed-keeps : (c : Change) → GoesOn (changed c) → (ns : List ℕ)
      → ((q : ℕ) → at t.requests q ≡ among ns (when c) q (at s.requests q))
      → (q : ℕ) → Keeps (at s.requests q) (at t.requests q)
  changed-keeps c on ns new q = subst (λ (o : Option Request). Keeps (at s.requests q) o) (sym (new q))
      (among-keeps (when c) (keeps-map (changed c) on) q ns (at s.requests q))

  of-one-known : (p : ℕ) (f : Option Request → Option Request)
      → ((o : Option Request) → Keeps o (f o)) → IsOfOne p f s t → AreKnown runs t
  of-one-known p f on (own, others, multicast, unasked, same) = goes-on same.1.1 (λ q. by q (nat_eq p q) refl)
    where
      by : (q : ℕ) (b : Bool) → nat_eq p q ≡ b → Keeps (at s.requests q) (at t.requests q)
      by q true is = subst (λ (n : ℕ). Keeps (at s.requests n) (at t.requests n)) (eqb-true p q is)
          (subst (λ (o : Option Request). Keeps (at s.requests p) o) (sym own) (on (at s.requests p)))
      by q false is = keeps-same (at s.requests q) (at t.requests q) (λ runs. others q is)

  -- what was sent is on its way no more
  sent-known : IsStep Sent s t → AreKnown runs t
  sent-known (leaving, requests, outbox, running, same) q is =
      let was = known q is in
      let on = changed-keeps change.Sent sent-goes (numbers_in s.leaving) requests q in
      record {
        awaited = on.runs was.awaited;
        leaves = λ h. no-truth (sym (ap is_leaving (requests q)
            ∙ sent-among q (numbers_in s.leaving) (at s.requests q)
            (was.leaves (on.leaves was.awaited h)).0) ∙ h);
      }

  -- what was not sent was the dump, or concerns none
  unsent-known : (errno : ℤ) → IsStep (NotSent errno) s t
      → AreKnown (if carries_dump s.leaving then None else runs) t
  unsent-known errno (leaving, requests, outbox, running, same) q is = go (carries_dump s.leaving) refl is
    where
      go : (b : Bool) → carries_dump s.leaving ≡ b → (if b then None else runs) ≡ Some q
          → IsKnownAs t.leaving q (at t.requests q)
      go true carries h = none-some q h
      go false carries h =
          let was = known q h in
          let still : is_leaving (at s.requests q) ≡ false = no-dump (is_leaving (at s.requests q))
          (λ way. no-truth (sym carries ∙ (was.leaves way).1)) in
          let same : at t.requests q ≡ at s.requests q = requests q
          ∙ among-fixed (when (change.Unsent errno)) q (numbers_in s.leaving) (at s.requests q)
          (unsent-same errno (at s.requests q) was.awaited still) in
          record {
            awaited = ap is_running same ∙ was.awaited;
            leaves = λ way. no-truth (sym still ∙ ap is_leaving (sym same) ∙ way);
          }
        where
          no-dump : (b : Bool) → (b ≡ true → b ≡ false) → b ≡ false
          no-dump true never = never refl
          no-dump false never = refl

  received-known : (group : ℕ) (joined : Bool) (datagram : List ℕ) → IsStep (Receive group joined datagram) s t
      → AreKnown (runs_past_all s.port (messages_of datagram) runs) t
  received-known group joined datagram (whole, faulty, same) q is =
      subst (λ (L : Option Mail). IsKnownAs L q (at t.requests q)) (sym same.1.1)
      (go (messages_in {K = ℕ} (λ n. n) datagram).1 refl)
    where
      came : IsKnownAs s.leaving q (after_all s.port group (messages_of datagram) q (at s.requests q))
      came = messages-known s.leaving s.port group q (messages_of datagram) runs (at s.requests q) (known q) is

      go : (e : Option DeError) → (messages_in {K = ℕ} (λ n. n) datagram).1 ≡ e
          → IsKnownAs s.leaving q (at t.requests q)
      go None none = subst (λ (o : Option Request). IsKnownAs s.leaving q o) (sym ((whole none).requests q)) came
      go (Some e) some = subst (λ (o : Option Request). IsKnownAs s.leaving q o) (sym ((faulty e some).requests q))
          (known-on s.leaving q _ _ (among-keeps (when (change.Lose loss.Datagram))
          (keeps-map (changed (change.Lose loss.Datagram)) (lost-goes loss.Datagram)) q s.awaited.items
          (after_all s.port group (messages_of datagram) q (at s.requests q))) came)

  quiet-known : IsStep Quiet s t → AreKnown (if answers_at_once s.protocol then None else runs) t
  quiet-known (requests, awaited, congested, names, parcels, readers) q is =
      subst (λ (L : Option Mail). IsKnownAs L q (at t.requests q)) (sym parcels.1)
      (go (answers_at_once s.protocol) (requests q) is)
    where
      go : (b : Bool)
          → at t.requests q ≡ among (if b then s.awaited.items else []) (when change.Settle) q (at s.requests q)
          → (if b then None else runs) ≡ Some q → IsKnownAs s.leaving q (at t.requests q)
      go true new h = none-some q h
      go false new h = subst (λ (o : Option Request). IsKnownAs s.leaving q o) (sym new) (known q h)

  -- after a call: the kernel refuses nothing, and the dump that runs is known
  record IsSteady (c : Call) : Type 0 where
    idle : is_busy c runs ≡ false
    known_then : AreKnown (runs_after s c runs) t

-- ---- whole histories

module _ (turns : DumpsTakeTurns) (new : Session) (is_new : IsNew new) where
  -- calls of the new session led to this one
  record IsReached (s : Session) : Type 0 where
    calls : List Moment
    came : IsHistory new calls
    is : last new calls ≡ s

  further : (s : Session) (m : Moment) → IsReached s → IsStep m.call s m.session → IsReached m.session
  further s m before step = record {
    calls = before.calls ++ m ∷ [];
    came = longer before.calls new before.came (subst (λ (u : Session). IsStep m.call u m.session) (sym before.is) step);
    is = last-of before.calls new;
  }
    where
      longer : (ms : List Moment) (u : Session) → IsHistory u ms → IsStep m.call (last u ms) m.session
          → IsHistory u (ms ++ m ∷ [])
      longer [] u came step = (step, tt)
      longer (n ∷ ms) u (first, later) step = (first, longer ms n.session later step)

      last-of : (ms : List Moment) (u : Session) → last u (ms ++ m ∷ []) ≡ m.session
      last-of [] u = refl
      last-of (n ∷ ms) u = last-of ms n.session

  none-way : (L : Option Mail) → on_its_way L None ≡ L
  none-way None = refl
  none-way (Some p) = refl

  -- what goes out does so where nothing is on its way
  was-none : (congested runs : Bool) (L : Option Mail) (ps : List Mail) (p : Mail)
      → next_out congested L runs ps ≡ Some p → L ≡ None
  was-none congested runs None ps p is = refl
  was-none congested runs (Some r) ps p is = absurd cc

  module _ (s t : Session) (runs : Option ℕ) (before : IsReached s) (known : AreKnown runs s) where
    -- a datagram that goes out: none ran, if it has a dump, and that one runs from then on
    goes-out : (o : Option Mail) → IsStep (Outgoing o) s t → IsSteady s t runs known (Outgoing o)
    goes-out None (next, leaving, outbox, running, requests, same) =
        record { idle = refl; known_then = same-requests s t runs known (leaving ∙ none-way s.leaving) requests }
    goes-out (Some p) (next, leaving, outbox, running, requests, same) = by p.dump refl
      where
        was : s.leaving ≡ None
        was = was-none s.is_congested (runs_now s.running (at s.requests)) s.leaving s.outbox.items p next

        way : t.leaving ≡ Some p
        way = leaving ∙ ap (λ (L : Option Mail). on_its_way L (Some p)) was

        reached : IsStep (Outgoing (Some p)) (last new before.calls) t
        reached = subst (λ (u : Session). IsStep (Outgoing (Some p)) u t) (sym before.is)
            (next, leaving, outbox, running, requests, same)

        -- it is one of the numbers
        inside : (n : ℕ) → is_running (at s.requests n) ≡ false → IsRunning (at t.requests n)
            → is_in n p.numbers ≡ true
        inside n idle runs = go (is_in n p.numbers) refl
          where
            go : (b : Bool) → is_in n p.numbers ≡ b → b ≡ true
            go true is = refl
            go false out = no-truth (sym idle ∙ ap is_running (sym (requests n
                ∙ among-others (when change.Leave) n p.numbers (at s.requests n) out)) ∙ runs)

        -- none was on its way
        never : (q : ℕ) → IsOnWay s.leaving q → IsOnWay t.leaving q
        never q is = no-truth (ap carries_dump (sym was) ∙ is.1)

        by : (dump : Option ℕ) → p.dump ≡ dump → IsSteady s t runs known (Outgoing (Some p))
        by None none = record {
          idle = ap (λ (d : Option ℕ). is_some d && is_some runs) none;
          known_then = λ q is.
              let had = known q (sym (ap (λ (d : Option ℕ). if is_some d then d else runs) none) ∙ is) in
              let on = changed-keeps s t runs known change.Leave leave-goes p.numbers requests q in
              record {
                awaited = on.runs had.awaited;
                leaves = λ h. never q (had.leaves (on.leaves had.awaited h));
              };
        }
        by (Some n) some =
            let turn = turns new t before.calls p n is_new before.came reached some in
            let idle : (q : ℕ) → is_running (at s.requests q) ≡ false =
            subst (λ (u : Session). (q : ℕ) → is_running (at u.requests q) ≡ false) before.is turn.alone in
            let own : IsKnownAs t.leaving n (at t.requests n) = record {
              awaited = turn.begins;
              leaves = λ h. subst (λ (L : Option Mail). IsOnWay L n) (sym way)
                  (inside n (idle n) turn.begins, ap (λ (d : Option ℕ). is_some d) some);
            } in
            record {
              idle = ap (λ (d : Option ℕ). is_some d && is_some runs) some ∙ none-runs idle runs known;
              known_then = λ q is. subst (λ (k : ℕ). IsKnownAs t.leaving k (at t.requests k))
                  (some-same n q (sym (ap (λ (d : Option ℕ). if is_some d then d else runs) some) ∙ is)) own;
            }
          where
            none-runs : ((q : ℕ) → is_running (at s.requests q) ≡ false) → (r : Option ℕ) → AreKnown r s
                → is_some r ≡ false
            none-runs idle None known = refl
            none-runs idle (Some q) known = no-truth (sym (idle q) ∙ (known q refl).awaited)

    steps-on : (c : Call) → IsStep c s t → IsSteady s t runs known c
    steps-on (Send by bytes) ((whole, some, few, (free, new, awaited, outbox)), rest) = record {
      idle = refl;
      known_then = goes-on s t runs known rest.3 (λ q. keeps-same (at s.requests q) (at t.requests q)
          (λ is. new q ∙ added-running (at s.requests) (entries_of s.protocol by bytes) q free
          (running-used (at s.requests q) is)));
    }
    steps-on Ask ((requests, awaited, outbox), rest) =
        record { idle = refl; known_then = same-requests s t runs known rest.3 requests }
    steps-on (Outgoing o) step = goes-out o step
    steps-on Sent step = record { idle = refl; known_then = sent-known s t runs known step }
    steps-on (NotSent errno) step = record { idle = refl; known_then = unsent-known s t runs known errno step }
    steps-on (Receive group joined datagram) step =
        record { idle = refl; known_then = received-known s t runs known group joined datagram step }
    steps-on (Fault errno) (requests, multicast, unasked, congested, names, parcels, awaited) = record {
      idle = refl;
      known_then = goes-on s t runs known parcels.1 (changed-keeps s t runs known (change.Lose (loss.Link errno))
          (lost-goes (loss.Link errno)) s.awaited.items requests);
    }
    steps-on Quiet step = record { idle = refl; known_then = quiet-known s t runs known step }
    steps-on (PassAnswer p) one =
        record { idle = refl; known_then = of-one-known s t runs known p passed_at passed-keeps one }
    steps-on PassMulticast (multicast, requests, unasked, same) =
        record { idle = refl; known_then = same-map s t runs known same.1.1 requests }
    steps-on PassUnasked (unasked, requests, multicast, same) =
        record { idle = refl; known_then = same-map s t runs known same.1.1 requests }
    steps-on (Close p) one = record {
      idle = refl;
      known_then = of-one-known s t runs known p closed_at (keeps-map closed closed-goes) one;
    }
    steps-on CloseMulticast (multicast, requests, unasked, same) =
        record { idle = refl; known_then = same-map s t runs known same.1.1 requests }

  busy-never : (ms : List Moment) (s : Session) (runs : Option ℕ) → IsReached s → IsHistory s ms → AreKnown runs s
      → is_ever_busy s runs ms ≡ false
  busy-never [] s runs before came known = refl
  busy-never (m ∷ ms) s runs before (step, later) known =
      let one = steps-on s m.session runs before known m.call step in
      ap (λ (b : Bool). b || is_ever_busy m.session (runs_after s m.call runs) ms) one.idle
      ∙ busy-never ms m.session (runs_after s m.call runs) (further s m before step) later one.known_then

pub never_busy : DumpsTakeTurns → (s : Session) (ms : List Moment) → IsNew s → IsHistory s ms
    → is_ever_busy s None ms ≡ false
never_busy turns s ms is_new came =
    busy-never turns s is_new ms s None (record { calls = []; came = tt; is = refl }) came (λ q is. none-some q is)
