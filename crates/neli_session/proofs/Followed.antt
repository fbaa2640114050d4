-- One request through whole histories.
use Rattle.std.proofs.Common.{ℕ, ℤ, ◌≡◌, Bool, true, false, not, ◌&&◌, ◌||◌, List, [], ◌∷◌, ◌++◌, map, Option, Some}
use Rattle.std.proofs.Common.{None, refl, sym, subst, ap, ◌∙◌, eqb-true, eq-eqb, append_assoc, append-nil}
use Rattle.std.specs.Prelude.{◌==◌, if◌then◌else◌, is_some}
use Rattle.neli_wire.specs.declared.errors.DeError.{DeError}
use Rattle.neli_answers.specs.Answers.{has_all}
use Rattle.neli_answers.specs.declared.answering.Answering.{Answering}
use Rattle.neli_consts_system.specs.declared.socket.NlFamily.{NlFamily}
use Rattle.neli_lent.specs.Messages.{Lent, messages_in}
use Rattle.neli_session.specs.declared.change.Change.{Change}
use Rattle.neli_session.specs.declared.change.Change.TheVariants as change
use Rattle.neli_session.specs.declared.entry.Entry.{Entry}
use Rattle.neli_session.specs.declared.loss.Loss.{Loss}
use Rattle.neli_session.specs.declared.loss.Loss.TheVariants as loss
use Rattle.neli_session.specs.declared.request.Request.{Request}
use Rattle.neli_session.specs.declared.request.Stage.{Stage}
use Rattle.neli_session.specs.declared.request.Stage.TheVariants as stage
use Rattle.neli_session.specs.declared.session.Session.{Session}
use Rattle.neli_session.specs.Happenings.{Came, Changed, Happening, Read, after_happenings, answer, came_for, item_list}
use Rattle.neli_session.specs.Happenings.{left, returned_by, then_is}
use Rattle.neli_session.specs.Histories.{Ask, Call, Close, CloseMulticast, Fault, HasSent, IsFollowed, IsHistory}
use Rattle.neli_session.specs.Histories.{IsReceived}
use Rattle.neli_session.specs.Histories.{IsStep, Moment, NotSent, Outgoing, PassAnswer, PassMulticast, PassUnasked}
use Rattle.neli_session.specs.Histories.{Quiet, Receive, Send, Sent, closes, happenings, happens, if_so, is_closed}
use Rattle.neli_session.specs.Histories.{is_in, last, next_at, passes, read_of}
use Rattle.neli_session.specs.Messages.{messages_of}
use Rattle.neli_session.specs.Requests.{answers, changed, heard, is_awaited, is_over, left_at, next_item, passed}
use Rattle.neli_session.specs.Requests.{passed_by, sent_at, settled, unsent_at, untold}
use Rattle.neli_session.specs.Mails.{answering_by, answers_at_once, entries_of, entry_of, numbers_in}
use Rattle.neli_session.specs.Sends.{first_taken, with_entries, with_entry}
use Rattle.neli_session.specs.Sessions.{after_all, among, at, kept, passed_at, queued, when}
use Rattle.neli_session.specs.Waiting.{Item}
use Rattle.neli_session.proofs.AllRead.{messages-happen, reads-answer}
use Rattle.neli_session.proofs.Later.{IsLater, is_leaving, is_leaving_at, is_pending, later-all, no-falsehood, no-truth}
use Rattle.neli_session.proofs.Outboxes.{among-once, among-others, entries-others, taken-out}
use Rattle.neli_session.proofs.Calls.{IsSoundSession, history-sound, new-sound, step-sound}

-- ---- happenings one after the other

pub after-append : (hs gs : List Happening) (r : Request)
    → after_happenings (hs ++ gs) r ≡ after_happenings gs (after_happenings hs r)
after-append [] gs r = refl
after-append (h ∷ hs) gs r = after-append hs gs (then_is h r)

pub returned-append : (hs gs : List Happening) (r : Request)
    → returned_by (hs ++ gs) r ≡ returned_by hs r ++ returned_by gs (after_happenings hs r)
returned-append [] gs r = refl
returned-append (Came group m ∷ hs) gs r = returned-append hs gs (then_is (Came group m) r)
returned-append (Changed c ∷ hs) gs r = returned-append hs gs (changed c r)
returned-append (Read ∷ hs) gs r =
    ap (λ (xs : List Item). item_list (next_item r) ++ xs) (returned-append hs gs (passed r))
    ∙ sym (append_assoc (item_list (next_item r)) (returned_by hs (passed r))
    (returned_by gs (after_happenings hs (passed r))))

-- a datagram returns nothing
returned-came : (port group q : ℕ) (ms : List (Lent ℕ)) (r : Request) → returned_by (came_for port group q ms) r ≡ []
returned-came port group q [] r = refl
returned-came port group q (m ∷ ms) r = go ((m.0.port == port) && (m.0.sequence_number == q))
    (returned-came port group q ms)
  where
    go : (b : Bool) → ((x : Request) → returned_by (came_for port group q ms) x ≡ [])
        → returned_by (if b then Came group m ∷ came_for port group q ms else came_for port group q ms) r ≡ []
    go true more = more (then_is (Came group m) r)
    go false more = more r

-- ---- somebody still reads

unsent-open : (s : Stage) (errno : ℤ) (r : Request) → r.is_open ≡ true → (unsent_at s errno r).is_open ≡ true
unsent-open stage.Leaving errno r is = is
unsent-open stage.Queued errno r is = is
unsent-open stage.Awaited errno r is = is
unsent-open stage.Ended errno r is = is
unsent-open stage.Silent errno r is = is

changed-open : (c : Change) (r : Request) → r.is_open ≡ true → (changed c r).is_open ≡ true
changed-open change.Leave r is = is
changed-open change.Sent r is = is
changed-open (change.Unsent errno) r is = unsent-open r.stage errno r is
changed-open (change.Lose l) r is = is
changed-open change.Settle r is = is

then-open : (h : Happening) (r : Request) → r.is_open ≡ true → (then_is h r).is_open ≡ true
then-open (Came group m) r is = go (answers group r)
  where
    go : (b : Bool) → (if b then heard m r else r).is_open ≡ true
    go true = is
    go false = is
then-open (Changed c) r is = changed-open c r is
then-open Read r is = go r.waiting (untold r)
  where
    go : (xs : List Item) (l : Option Loss) → (passed_by xs l r).is_open ≡ true
    go (x ∷ xs) l = is
    go [] (Some l) = is
    go [] None = is

pub after-open : (hs : List Happening) (r : Request) → r.is_open ≡ true → (after_happenings hs r).is_open ≡ true
after-open [] r is = is
after-open (h ∷ hs) r is = after-open hs (then_is h r) (then-open h r is)

-- ---- what happens to several, for one of them

abbrev gone : Option Request
gone = None

kept-open : (r : Request) → r.is_open ≡ true → kept (Some r) ≡ Some r
kept-open r is = ap (λ (b : Bool). if is_over r.stage && not b then gone else Some r) is ∙ go (is_over r.stage)
  where
    go : (b : Bool) → (if b && false then gone else Some r) ≡ Some r
    go true = refl
    go false = refl

when-open : (c : Change) (r : Request) → r.is_open ≡ true → when c (Some r) ≡ Some (changed c r)
when-open c r is = kept-open (changed c r) (changed-open c r is)

pub changed-twice : (c : Change) (r : Request) → changed c (changed c r) ≡ changed c r
changed-twice change.Leave r = ap (λ (s : Stage). record r { stage = s }) (go r.stage)
  where
    go : (s : Stage) → left_at (left_at s) ≡ left_at s
    go stage.Queued = refl
    go stage.Leaving = refl
    go stage.Awaited = refl
    go stage.Ended = refl
    go stage.Silent = refl
changed-twice change.Sent r = ap (λ (s : Stage). record r { stage = s }) (go r.stage)
  where
    go : (s : Stage) → sent_at (sent_at s) ≡ sent_at s
    go stage.Queued = refl
    go stage.Leaving = refl
    go stage.Awaited = refl
    go stage.Ended = refl
    go stage.Silent = refl
changed-twice (change.Unsent errno) r = go r.stage refl
  where
    go : (s : Stage) → r.stage ≡ s
        → unsent_at (unsent_at s errno r).stage errno (unsent_at s errno r) ≡ unsent_at s errno r
    go stage.Queued is = ap (λ (s : Stage). unsent_at s errno r) is
    go stage.Leaving is = refl
    go stage.Awaited is = ap (λ (s : Stage). unsent_at s errno r) is
    go stage.Ended is = ap (λ (s : Stage). unsent_at s errno r) is
    go stage.Silent is = ap (λ (s : Stage). unsent_at s errno r) is
changed-twice (change.Lose l) r = ap (λ (o : Option Loss). record r { loss = o }) (go (is_awaited r.stage) r.loss)
  where
    go : (b : Bool) (o : Option Loss) → (if b && not (is_some (if b && not (is_some o) then Some l else o)) then Some l
        else (if b && not (is_some o) then Some l else o)) ≡ (if b && not (is_some o) then Some l else o)
    go true None = refl
    go true (Some x) = refl
    go false o = refl
changed-twice change.Settle r = ap (λ (s : Stage). record r { stage = s }) (go r.stage)
  where
    go : (s : Stage) → settled (settled s) ≡ settled s
    go stage.Queued = refl
    go stage.Leaving = refl
    go stage.Awaited = refl
    go stage.Ended = refl
    go stage.Silent = refl

-- one that is among them changes so, where the others would not
changed-among : (c : Change) (q : ℕ) (ns : List ℕ) (r : Request) → r.is_open ≡ true
    → (is_in q ns ≡ false → changed c r ≡ r) → among ns (when c) q (Some r) ≡ Some (changed c r)
changed-among c q ns r open_is fixed = go (is_in q ns) refl
  where
    twice : when c (when c (Some r)) ≡ when c (Some r)
    twice = ap (λ (o : Option Request). when c o) (when-open c r open_is)
        ∙ when-open c (changed c r) (changed-open c r open_is)
        ∙ ap (λ (x : Request). Some x) (changed-twice c r) ∙ sym (when-open c r open_is)

    go : (b : Bool) → is_in q ns ≡ b → among ns (when c) q (Some r) ≡ Some (changed c r)
    go true inside = among-once (when c) q ns (Some r) twice inside ∙ when-open c r open_is
    go false out = among-others (when c) q ns (Some r) out ∙ ap (λ (x : Request). Some x) (sym (fixed out))

-- a test that fails where it implies what fails
pub fails : (a b : Bool) → (a ≡ true → b ≡ true) → b ≡ false → a ≡ false
fails true b by none = no-truth (sym none ∙ by refl)
fails false b by none = refl

-- nothing is lost to one that is not awaited
pub lost-over : (l : Loss) (r : Request) → not (is_over r.stage) ≡ false → changed (change.Lose l) r ≡ r
lost-over l r over = ap (λ (b : Bool). record r { loss = if b && not (is_some r.loss) then Some l else r.loss })
    (go r.stage over)
  where
    go : (s : Stage) → not (is_over s) ≡ false → is_awaited s ≡ false
    go stage.Queued h = refl
    go stage.Leaving h = h
    go stage.Awaited h = h
    go stage.Ended h = refl
    go stage.Silent h = refl

pub settled-over : (r : Request) → not (is_over r.stage) ≡ false → changed change.Settle r ≡ r
settled-over r over = ap (λ (s : Stage). record r { stage = s }) (go r.stage over)
  where
    go : (s : Stage) → not (is_over s) ≡ false → settled s ≡ s
    go stage.Queued h = refl
    go stage.Leaving h = refl
    go stage.Awaited h = no-falsehood h
    go stage.Ended h = refl
    go stage.Silent h = refl

pub sent-elsewhere : (r : Request) → is_leaving_at r.stage ≡ false → changed change.Sent r ≡ r
sent-elsewhere r not_leaving = ap (λ (s : Stage). record r { stage = s }) (go r.stage not_leaving)
  where
    go : (s : Stage) → is_leaving_at s ≡ false → sent_at s ≡ s
    go stage.Queued h = refl
    go stage.Leaving h = no-falsehood h
    go stage.Awaited h = refl
    go stage.Ended h = refl
    go stage.Silent h = refl

pub unsent-elsewhere : (errno : ℤ) (r : Request) → is_leaving_at r.stage ≡ false → changed (change.Unsent errno) r ≡ r
unsent-elsewhere errno r not_leaving = go r.stage not_leaving
  where
    go : (s : Stage) → is_leaving_at s ≡ false → unsent_at s errno r ≡ r
    go stage.Queued h = refl
    go stage.Leaving h = no-falsehood h
    go stage.Awaited h = refl
    go stage.Ended h = refl
    go stage.Silent h = refl

-- ---- one call, for a request that is read

module _ (s t : Session) (q : ℕ) (r : Request) (sound : IsSoundSession s) (was : at s.requests q ≡ Some r)
    (open_is : r.is_open ≡ true) where
  -- it is awaited, or over
  over-else : is_in q s.awaited.items ≡ false → not (is_over r.stage) ≡ false
  over-else out = fails (not (is_over r.stage)) (is_in q s.awaited.items)
      (λ h. sound.awaits q (subst (λ (o : Option Request). is_pending o ≡ true) (sym was) h)) out

  gone-else : is_in q (numbers_in s.leaving) ≡ false → is_leaving_at r.stage ≡ false
  gone-else out = fails (is_leaving_at r.stage) (is_in q (numbers_in s.leaving))
      (λ h. sound.leaves q (subst (λ (o : Option Request). is_leaving o ≡ true) (sym was) h)) out

  among-was : (c : Change) (ns : List ℕ) → (is_in q ns ≡ false → changed c r ≡ r)
      → at t.requests q ≡ among ns (when c) q (at s.requests q) → at t.requests q ≡ Some (changed c r)
  among-was c ns fixed new = new ∙ ap (λ (o : Option Request). among ns (when c) q o) was
      ∙ changed-among c q ns r open_is fixed

  received : (group : ℕ) (joined : Bool) (datagram : List ℕ) → IsReceived group joined datagram s t
      → at t.requests q ≡ Some (after_happenings (happens s.protocol s.port q (Receive group joined datagram)) r)
  received group joined datagram (whole, faulty, same) = go (messages_in {K = ℕ} (λ n. n) datagram).1 refl
    where
      go : (e : Option DeError) → (messages_in {K = ℕ} (λ n. n) datagram).1 ≡ e
          → at t.requests q ≡ Some (after_happenings (came_for s.port group q (messages_of datagram)
          ++ if_so (is_some (messages_in {K = ℕ} (λ n. n) datagram).1) (Changed (change.Lose loss.Datagram))) r)
      go None is = (whole is).requests q ∙ happened ∙ ap (λ (x : Request). Some x) (sym none)
        where
          happened : after_all s.port group (messages_of datagram) q (at s.requests q)
              ≡ Some (after_happenings (came_for s.port group q (messages_of datagram)) r)
          happened = ap (λ (o : Option Request). after_all s.port group (messages_of datagram) q o) was
              ∙ messages-happen s.port group q (messages_of datagram) r open_is

          none : after_happenings (came_for s.port group q (messages_of datagram)
              ++ if_so (is_some (messages_in {K = ℕ} (λ n. n) datagram).1) (Changed (change.Lose loss.Datagram))) r
              ≡ after_happenings (came_for s.port group q (messages_of datagram)) r
          none = after-append (came_for s.port group q (messages_of datagram))
              (if_so (is_some (messages_in {K = ℕ} (λ n. n) datagram).1) (Changed (change.Lose loss.Datagram))) r
              ∙ ap (λ (o : Option DeError). after_happenings (if_so (is_some o) (Changed (change.Lose loss.Datagram)))
              (after_happenings (came_for s.port group q (messages_of datagram)) r)) is
      go (Some e) is = (faulty e is).requests q
          ∙ ap (λ (o : Option Request). among s.awaited.items (when (change.Lose loss.Datagram)) q o) happened
          ∙ changed-among (change.Lose loss.Datagram) q s.awaited.items
          (after_happenings (came_for s.port group q (messages_of datagram)) r)
          (after-open (came_for s.port group q (messages_of datagram)) r open_is)
          (λ out. lost-over loss.Datagram (after_happenings (came_for s.port group q (messages_of datagram)) r)
          (over out))
          ∙ ap (λ (x : Request). Some x) (sym lost_then)
        where
          happened : after_all s.port group (messages_of datagram) q (at s.requests q)
              ≡ Some (after_happenings (came_for s.port group q (messages_of datagram)) r)
          happened = ap (λ (o : Option Request). after_all s.port group (messages_of datagram) q o) was
              ∙ messages-happen s.port group q (messages_of datagram) r open_is

          later : IsLater (Some r) (Some (after_happenings (came_for s.port group q (messages_of datagram)) r))
          later = subst (λ (o : Option Request). IsLater (Some r) o)
              (messages-happen s.port group q (messages_of datagram) r open_is)
              (later-all s.port group (messages_of datagram) q (Some r))

          over : is_in q s.awaited.items ≡ false
              → not (is_over (after_happenings (came_for s.port group q (messages_of datagram)) r).stage) ≡ false
          over out = fails (not (is_over (after_happenings (came_for s.port group q (messages_of datagram)) r).stage))
              (not (is_over r.stage)) (λ h. later.pending h) (over-else out)

          lost_then : after_happenings (came_for s.port group q (messages_of datagram)
              ++ if_so (is_some (messages_in {K = ℕ} (λ n. n) datagram).1) (Changed (change.Lose loss.Datagram))) r
              ≡ changed (change.Lose loss.Datagram)
              (after_happenings (came_for s.port group q (messages_of datagram)) r)
          lost_then = after-append (came_for s.port group q (messages_of datagram))
              (if_so (is_some (messages_in {K = ℕ} (λ n. n) datagram).1) (Changed (change.Lose loss.Datagram))) r
              ∙ ap (λ (o : Option DeError). after_happenings (if_so (is_some o) (Changed (change.Lose loss.Datagram)))
              (after_happenings (came_for s.port group q (messages_of datagram)) r)) is

  pub open-step : (c : Call) → IsStep c s t → closes q c ≡ false
      → at t.requests q ≡ Some (after_happenings (happens s.protocol s.port q c) r)
  open-step (Send by bytes) ((whole, some, few, (free, new, awaited, outbox)), rest) stays =
      new q ∙ entries-others (entries_of s.protocol by bytes) q (at s.requests q)
      (taken-out (at s.requests) (entries_of s.protocol by bytes) q free (ap (λ
      (o : Option Request). is_some o) was)) ∙ was
  open-step Ask ((requests, awaited, outbox), rest) stays = requests q ∙ was
  open-step (Outgoing o) (next, leaving, outbox, running, requests, same) stays =
      requests q ∙ ap (λ (x : Option Request). among (numbers_in o) (when change.Leave) q x) was
      ∙ go (is_in q (numbers_in o)) refl
    where
      go : (b : Bool) → is_in q (numbers_in o) ≡ b → among (numbers_in o) (when change.Leave) q (Some r)
          ≡ Some (after_happenings (if_so b (Changed change.Leave)) r)
      go true inside = changed-among change.Leave q (numbers_in o) r open_is (λ out. no-truth (sym out ∙ inside))
      go false out = among-others (when change.Leave) q (numbers_in o) (Some r) out
  open-step Sent (leaving, requests, outbox, running, same) stays =
      among-was change.Sent (numbers_in s.leaving) (λ out. sent-elsewhere r (gone-else out)) (requests q)
  open-step (NotSent errno) (leaving, requests, outbox, running, same) stays =
      among-was (change.Unsent errno) (numbers_in s.leaving) (λ out. unsent-elsewhere errno r (gone-else out))
      (requests q)
  open-step (Receive group joined datagram) is stays = received group joined datagram is
  open-step (Fault errno) (requests, multicast, unasked, congested, names, mails, awaited) stays =
      among-was (change.Lose (loss.Link errno)) s.awaited.items
      (λ out. lost-over (loss.Link errno) r (over-else out)) (requests q)
  open-step Quiet (requests, awaited, congested, names, mails, readers) stays =
      go (answers_at_once s.protocol) (requests q)
    where
      go : (b : Bool)
          → at t.requests q ≡ among (if b then s.awaited.items else []) (when change.Settle) q (at s.requests q)
          → at t.requests q ≡ Some (after_happenings (if_so b (Changed change.Settle)) r)
      go true new = among-was change.Settle s.awaited.items (λ out. settled-over r (over-else out)) new
      go false new = new ∙ was
  open-step (PassAnswer p) (own, others, multicast, unasked, same) stays = go (p == q) refl
    where
      go : (b : Bool) → (p == q) ≡ b → at t.requests q ≡ Some (after_happenings (if_so b Read) r)
      go true is = subst (λ (n : ℕ). at t.requests n ≡ passed_at (at s.requests n)) (eqb-true p q is) own
          ∙ ap (λ (o : Option Request). passed_at o) was
      go false is = others q is ∙ was
  open-step PassMulticast (multicast, requests, unasked, same) stays = rw requests was
  open-step PassUnasked (unasked, requests, multicast, same) stays = rw requests was
  open-step (Close p) (own, others, multicast, unasked, same) stays = others q stays ∙ was
  open-step CloseMulticast (multicast, requests, unasked, same) stays = rw requests was

  -- what the call reads of it
  pub open-read : (c : Call) → passes q s c ≡ returned_by (happens s.protocol s.port q c) r
  open-read (Send by bytes) = refl
  open-read Ask = refl
  open-read (Outgoing o) = go (is_in q (numbers_in o))
    where
      go : (b : Bool) → [] ≡ returned_by (if_so b (Changed change.Leave)) r
      go true = refl
      go false = refl
  open-read Sent = refl
  open-read (NotSent errno) = refl
  open-read (Receive group joined datagram) = sym
      (returned-append (came_for s.port group q (messages_of datagram))
      (if_so (is_some (messages_in {K = ℕ} (λ n. n) datagram).1) (Changed (change.Lose loss.Datagram))) r
      ∙ ap (λ (xs : List Item). xs ++ returned_by (if_so (is_some (messages_in {K = ℕ} (λ n. n) datagram).1)
      (Changed (change.Lose loss.Datagram))) (after_happenings (came_for s.port group q (messages_of datagram)) r))
      (returned-came s.port group q (messages_of datagram) r)
      ∙ go (is_some (messages_in {K = ℕ} (λ n. n) datagram).1)
      (after_happenings (came_for s.port group q (messages_of datagram)) r))
    where
      go : (b : Bool) (x : Request) → returned_by (if_so b (Changed (change.Lose loss.Datagram))) x ≡ []
      go true x = refl
      go false x = refl
  open-read (Fault errno) = refl
  open-read Quiet = go (answers_at_once s.protocol)
    where
      go : (b : Bool) → [] ≡ returned_by (if_so b (Changed change.Settle)) r
      go true = refl
      go false = refl
  open-read (PassAnswer p) = go (p == q)
    where
      go : (b : Bool) → (if b then next_at (at s.requests q) else []) ≡ returned_by (if_so b Read) r
      go true = ap next_at was ∙ sym (append-nil (item_list (next_item r)))
      go false = refl
  open-read PassMulticast = refl
  open-read PassUnasked = refl
  open-read (Close p) = refl
  open-read CloseMulticast = refl

-- ---- whole histories

pub step-port : (c : Call) (s t : Session) → IsStep c s t → t.port ≡ s.port
step-port (Send by bytes) s t (queue, rest) = rest.1
step-port Ask s t (queue, rest) = rest.1
step-port (Outgoing o) s t (next, leaving, outbox, running, requests, same) = same.0.1
step-port Sent s t (leaving, requests, outbox, running, same) = same.0.1
step-port (NotSent errno) s t (leaving, requests, outbox, running, same) = same.0.1
step-port (Receive group joined datagram) s t (whole, faulty, same) = same.0.1
step-port (Fault errno) s t (requests, multicast, unasked, congested, names, mails, awaited) = names.1
step-port Quiet s t (requests, awaited, congested, names, mails, readers) = names.1
step-port (PassAnswer p) s t (own, others, multicast, unasked, same) = same.0.1
step-port PassMulticast s t (multicast, requests, unasked, same) = same.0.1
step-port PassUnasked s t (unasked, requests, multicast, same) = same.0.1
step-port (Close p) s t (own, others, multicast, unasked, same) = same.0.1
step-port CloseMulticast s t (multicast, requests, unasked, same) = same.0.1

pub step-protocol : (c : Call) (s t : Session) → IsStep c s t → t.protocol ≡ s.protocol
step-protocol (Send by bytes) s t (queue, rest) = rest.0
step-protocol Ask s t (queue, rest) = rest.0
step-protocol (Outgoing o) s t (next, leaving, outbox, running, requests, same) = same.0.0
step-protocol Sent s t (leaving, requests, outbox, running, same) = same.0.0
step-protocol (NotSent errno) s t (leaving, requests, outbox, running, same) = same.0.0
step-protocol (Receive group joined datagram) s t (whole, faulty, same) = same.0.0
step-protocol (Fault errno) s t (requests, multicast, unasked, congested, names, mails, awaited) = names.0
step-protocol Quiet s t (requests, awaited, congested, names, mails, readers) = names.0
step-protocol (PassAnswer p) s t (own, others, multicast, unasked, same) = same.0.0
step-protocol PassMulticast s t (multicast, requests, unasked, same) = same.0.0
step-protocol PassUnasked s t (unasked, requests, multicast, same) = same.0.0
step-protocol (Close p) s t (own, others, multicast, unasked, same) = same.0.0
step-protocol CloseMulticast s t (multicast, requests, unasked, same) = same.0.0

pub history-port : (ms : List Moment) (s : Session) → IsHistory s ms → (last s ms).port ≡ s.port
history-port [] s h = refl
history-port (m ∷ ms) s (step, later) = history-port ms m.session later ∙ step-port m.call s m.session step

pub history-protocol : (ms : List Moment) (s : Session) → IsHistory s ms → (last s ms).protocol ≡ s.protocol
history-protocol [] s h = refl
history-protocol (m ∷ ms) s (step, later) = history-protocol ms m.session later ∙ step-protocol m.call s m.session step

pub neither : (a b : Bool) → (a || b) ≡ false → (a ≡ false) × (b ≡ false)
neither true b h = no-falsehood h
neither false b h = (refl, h)

-- what is so of a session's happenings is so of those of another of its protocol and with its port
pub same-happenings : (q : ℕ) (s t : Session) (ms : List Moment) → s.port ≡ t.port → s.protocol ≡ t.protocol
    → (P : List Happening → Type 0) → P (happenings s.protocol s.port q ms) → P (happenings t.protocol t.port q ms)
same-happenings q s t ms port protocol P is =
    subst (λ (f : NlFamily). P (happenings f t.port q ms)) protocol
    (subst (λ (p : ℕ). P (happenings s.protocol p q ms)) port is)

pub followed : (ms : List Moment) (s : Session) (q : ℕ) (r : Request) → IsHistory s ms → IsSoundSession s
    → at s.requests q ≡ Some r → r.is_open ≡ true → is_closed q ms ≡ false
    → IsFollowed q s ms (happenings s.protocol s.port q ms) r
followed [] s q r h sound was open_is stays = record { is = was; read = refl }
followed (m ∷ ms) s q r (step, later) sound was open_is stays =
    let both : (closes q m.call ≡ false) × (is_closed q ms ≡ false) = neither (closes q m.call)
    (is_closed q ms) stays in
    let hs : List Happening = happens s.protocol s.port q m.call in
    let gs : List Happening = happenings s.protocol s.port q ms in
    let now : at m.session.requests q ≡ Some (after_happenings hs r) =
    open-step s m.session q r sound was open_is m.call step both.0 in
    let rest : IsFollowed q m.session ms gs (after_happenings hs r) =
    same-happenings q m.session s ms (step-port m.call s m.session step) (step-protocol m.call s m.session step)
    (λ gs. IsFollowed q m.session ms gs (after_happenings hs r))
    (followed ms m.session q (after_happenings hs r) later (step-sound m.call s m.session step sound) now
    (after-open hs r open_is) both.1) in
    record {
      is = rest.is ∙ ap (λ (x : Request). Some x) (sym (after-append hs gs r));
      read = ap (λ (xs : List Item). xs ++ read_of q m.session ms) (open-read s m.session q r sound was open_is m.call)
          ∙ ap (λ (xs : List Item). returned_by hs r ++ xs) rest.read
          ∙ sym (returned-append hs gs r);
    }

-- ---- from the send on

-- each request of the bytes waits to be sent
pub entry-queued : (f : ℕ → Option Request) (ds : List Entry) (e : Entry) (es : List Entry)
    → first_taken f (ds ++ e ∷ es) ≡ None
    → with_entries (ds ++ e ∷ es) e.number (f e.number) ≡ Some (queued e.answering e.echoes)
entry-queued f [] e es free = go (is_some (f e.number)) free
  where
    same : with_entry e e.number (f e.number) ≡ Some (queued e.answering e.echoes)
    same = ap (λ (b : Bool). if b then Some (queued e.answering e.echoes) else f e.number)
        (eq-eqb e.number e.number refl)

    go : (b : Bool) → (if b then Some e.number else first_taken (λ q. with_entry e q (f q)) es) ≡ None
        → with_entries es e.number (with_entry e e.number (f e.number)) ≡ Some (queued e.answering e.echoes)
    go true h = cc
    go false h = entries-others es e.number (with_entry e e.number (f e.number))
        (taken-out (λ q. with_entry e q (f q)) es e.number h (ap (λ (o : Option Request). is_some o) same)) ∙ same
entry-queued f (d ∷ ds) e es free = go (is_some (f d.number)) free (entry-queued (λ q. with_entry d q (f q)) ds e es)
  where
    go : (b : Bool) → (if b then Some d.number else first_taken (λ q. with_entry d q (f q)) (ds ++ e ∷ es)) ≡ None
        → (first_taken (λ q. with_entry d q (f q)) (ds ++ e ∷ es) ≡ None
        → with_entries (ds ++ e ∷ es) e.number (with_entry d e.number (f e.number)) ≡ Some
        (queued e.answering e.echoes))
        → with_entries (ds ++ e ∷ es) e.number (with_entry d e.number (f e.number))
        ≡ Some (queued e.answering e.echoes)
    go true h more = cc
    go false h more = more h

map-middle : (f : Lent ℕ → Entry) (ms : List (Lent ℕ)) (m : Lent ℕ) (ns : List (Lent ℕ))
    → map f (ms ++ m ∷ ns) ≡ map f ms ++ f m ∷ map f ns
map-middle f [] m ns = refl
map-middle f (x ∷ ms) m ns = ap (λ (es : List Entry). f x ∷ es) (map-middle f ms m ns)

module _ (s t : Session) (by : Option Answering) (bytes : List ℕ) (ms ns : List (Lent ℕ)) (m : Lent ℕ) where
  pub sent-queued : IsStep (Send by bytes) s t → messages_of bytes ≡ ms ++ m ∷ ns
      → at t.requests m.0.sequence_number ≡ Some (queued (answering_by s.protocol by m) (has_all 8 m.0.flags))
  sent-queued ((whole, some, few, (free, new, awaited, outbox)), rest) are =
      new m.0.sequence_number
      ∙ ap (λ (es : List Entry). with_entries es m.0.sequence_number (at s.requests m.0.sequence_number)) split
      ∙ entry-queued (at s.requests) (map (entry_of s.protocol by) ms) (entry_of s.protocol by m)
      (map (entry_of s.protocol by) ns) (ap (λ (es : List Entry). first_taken (at s.requests) es) (sym split) ∙ free)
    where
      split : entries_of s.protocol by bytes ≡ map (entry_of s.protocol by) ms ++ entry_of s.protocol by m
          ∷ map (entry_of s.protocol by) ns
      split = ap (λ (xs : List (Lent ℕ)). map (entry_of s.protocol by) xs) are
          ∙ map-middle (entry_of s.protocol by) ms m ns

-- what a session sent, after any calls
module _ (s t : Session) (by : Option Answering) (bytes : List ℕ) (m : Lent ℕ) (was : HasSent s by bytes m t) where
  pub sent-sound : IsSoundSession t
  sent-sound = step-sound (Send by bytes) (last s was.calls) t was.sent
      (history-sound was.calls s was.came (new-sound s was.is_new))

  pub sent-port : t.port ≡ s.port
  sent-port = step-port (Send by bytes) (last s was.calls) t was.sent ∙ history-port was.calls s was.came

  pub sent-protocol : t.protocol ≡ s.protocol
  sent-protocol = step-protocol (Send by bytes) (last s was.calls) t was.sent ∙ history-protocol was.calls s was.came

  pub sent-at : at t.requests m.0.sequence_number
      ≡ Some (queued (answering_by s.protocol by m) (has_all 8 m.0.flags))
  sent-at = subst (λ (p : NlFamily). at t.requests m.0.sequence_number
      ≡ Some (queued (answering_by p by m) (has_all 8 m.0.flags))) (history-protocol was.calls s was.came)
      (sent-queued (last s was.calls) t by bytes was.one.0 was.one.1 m was.sent was.one.2)

pub requests_followed : (s t : Session) (by : Option Answering) (bytes : List ℕ) (m : Lent ℕ) (later : List Moment)
    → HasSent s by bytes m t → IsHistory t later → is_closed m.0.sequence_number later ≡ false
    → IsFollowed m.0.sequence_number t later (happenings s.protocol s.port m.0.sequence_number later)
    (queued (answering_by s.protocol by m) (has_all 8 m.0.flags))
requests_followed s t by bytes m later was came stays =
    let r : Request = queued (answering_by s.protocol by m) (has_all 8 m.0.flags) in
    let q : ℕ = m.0.sequence_number in
    same-happenings q t s later (sent-port s t by bytes m was) (sent-protocol s t by bytes m was)
    (λ gs. IsFollowed q t later gs r)
    (followed later t q r came (sent-sound s t by bytes m was) (sent-at s t by bytes m was) refl stays)

pub answers-are-read : (s t : Session) (by : Option Answering) (bytes : List ℕ) (m : Lent ℕ) (later : List Moment)
    → HasSent s by bytes m t → IsHistory t later → is_closed m.0.sequence_number later ≡ false
    → (r : Request) × (at (last t later).requests m.0.sequence_number ≡ Some r)
    × (read_of m.0.sequence_number t later ++ left r
    ≡ answer (answering_by s.protocol by m) (has_all 8 m.0.flags)
    (happenings s.protocol s.port m.0.sequence_number later))
answers-are-read s t by bytes m later was came stays =
    let a : Answering = answering_by s.protocol by m in
    let e : Bool = has_all 8 m.0.flags in
    let hs : List Happening = happenings s.protocol s.port m.0.sequence_number later in
    let is = requests_followed s t by bytes m later was came stays in (
      after_happenings hs (queued a e),
      is.is,
      ap (λ (xs : List Item). xs ++ left (after_happenings hs (queued a e))) is.read ∙ reads-answer a e hs,
    )
