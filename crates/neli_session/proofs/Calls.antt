-- What holds of a session after every call.
use Rattle.std.proofs.Common.{ℕ, ◌≡◌, Bool, true, false, List, [], ◌∷◌, Option, Some, None, refl, sym, subst, ◌∙◌}
use Rattle.std.proofs.Common.{eqb-true}
use Rattle.std.specs.Prelude.{nat_eq}
use Rattle.neli_wire.specs.declared.errors.DeError.{DeError}
use Rattle.neli_lent.specs.Messages.{messages_in}
use Rattle.neli_session.specs.declared.change.Change.TheVariants as change
use Rattle.neli_session.specs.declared.loss.Loss.TheVariants as loss
use Rattle.neli_session.specs.declared.request.Request.{Request}
use Rattle.neli_session.specs.declared.session.Session.{Session}
use Rattle.neli_session.specs.Histories.{Ask, BeginsAlone, Call, Close, CloseMulticast, Fault, IsHistory, IsNew, IsOfOne, IsReceived}
use Rattle.neli_session.specs.Histories.{IsStep, Moment, NotSent, Outgoing, PassAnswer, PassMulticast, PassUnasked}
use Rattle.neli_session.specs.Histories.{Quiet, Receive, Send, Sent, last}
use Rattle.neli_session.specs.Messages.{messages_of}
use Rattle.neli_session.specs.Mails.{Mail, answers_at_once, entries_of}
use Rattle.neli_session.specs.Sends.{SameSending, is_running}
use Rattle.neli_session.specs.Sessions.{after_all, among, at, closed_at, passed_at, when}
use Rattle.neli_session.proofs.Later.{IsLater, later-all, later-among, later-closed, later-lost, later-passed}
use Rattle.neli_session.proofs.Later.{later-same, later-sent, later-twice, later-unsent}
use Rattle.neli_session.proofs.Soundness.{IsSound, sent-goes, sound-at-first, sound-gone, sound-later, sound-outgoing}
use Rattle.neli_session.proofs.Soundness.{sound-quiet, sound-send, turn-outgoing, unsent-goes}

abbrev pub IsSoundSession : Session → Type 0
IsSoundSession s = IsSound (at s.requests) s.awaited.items s.outbox.items s.leaving s.running

-- the same of equals
sound-as : (f : ℕ → Option Request) (A A' : List ℕ) (O O' : List Mail) (L L' : Option Mail) (N N' : Option ℕ)
    → A' ≡ A → O' ≡ O → L' ≡ L → N' ≡ N → IsSound f A O L N → IsSound f A' O' L' N'
sound-as f A A' O O' L L' N N' a o l n sound = rw (a, o, l, n) sound

-- where nothing is sent, and each request is later
sound-if-later : (s t : Session) → SameSending s t → ((q : ℕ) → IsLater (at s.requests q) (at t.requests q))
    → IsSoundSession s → IsSoundSession t
sound-if-later s t (names, mails, awaited, congested) later sound =
    sound-as (at t.requests) s.awaited.items t.awaited.items s.outbox.items t.outbox.items s.leaving t.leaving
    s.running t.running (rw awaited refl) (rw mails.0 refl) mails.1 mails.2
    (sound-later (at s.requests) (at t.requests) s.awaited.items s.outbox.items s.leaving s.running sound later)

-- what happens to one request
sound-of-one : (p : ℕ) (f : Option Request → Option Request) → ((o : Option Request) → IsLater o (f o))
    → (s t : Session)
    → IsOfOne p f s t → IsSoundSession s → IsSoundSession t
sound-of-one p f by s t (own, others, multicast, unasked, same) sound = sound-if-later s t same each sound
  where
    each : (q : ℕ) → IsLater (at s.requests q) (at t.requests q)
    each q = go (nat_eq p q) refl
      where
        go : (b : Bool) → nat_eq p q ≡ b → IsLater (at s.requests q) (at t.requests q)
        go true is = subst (λ (n : ℕ). IsLater (at s.requests n) (at t.requests n)) (eqb-true p q is)
            (subst (λ (o : Option Request). IsLater (at s.requests p) o) (sym own) (by (at s.requests p)))
        go false is = subst (λ (o : Option Request). IsLater (at s.requests q) o) (sym (others q is))
            (later-same (at s.requests q))

-- a datagram
later-received : (group : ℕ) (joined : Bool) (datagram : List ℕ) (s t : Session) → IsReceived group joined datagram s t
    → (q : ℕ) → IsLater (at s.requests q) (at t.requests q)
later-received group joined datagram s t (whole, faulty, same) q =
    go (messages_in {K = ℕ} (λ n. n) datagram).1 refl
  where
    go : (e : Option DeError) → (messages_in {K = ℕ} (λ n. n) datagram).1 ≡ e
        → IsLater (at s.requests q) (at t.requests q)
    go None is = subst (λ (o : Option Request). IsLater (at s.requests q) o) (sym ((whole is).requests q))
        (later-all s.port group (messages_of datagram) q (at s.requests q))
    go (Some e) is = subst (λ (o : Option Request). IsLater (at s.requests q) o) (sym ((faulty e is).requests q))
        (later-twice (at s.requests q) (after_all s.port group (messages_of datagram) q (at s.requests q))
        (among s.awaited.items (when (change.Lose loss.Datagram)) q
        (after_all s.port group (messages_of datagram) q (at s.requests q)))
        (later-all s.port group (messages_of datagram) q (at s.requests q))
        (later-among (when (change.Lose loss.Datagram)) (later-lost loss.Datagram) q s.awaited.items
        (after_all s.port group (messages_of datagram) q (at s.requests q))))

-- nothing of the requests
same-requests : (s t : Session) → ((q : ℕ) → at t.requests q ≡ at s.requests q) → (q : ℕ)
    → IsLater (at s.requests q) (at t.requests q)
same-requests s t same q = subst (λ (o : Option Request). IsLater (at s.requests q) o) (sym (same q)) (later-same
    (at s.requests q))

-- the same map
same-map : (s t : Session) → t.requests ≡ s.requests → (q : ℕ) → at t.requests q ≡ at s.requests q
same-map s t same q = rw same refl

pub step-sound : (c : Call) (s t : Session) → IsStep c s t → IsSoundSession s → IsSoundSession t
step-sound (Send by bytes) s t ((whole, some, few, (free, new, awaited, outbox)), rest) sound =
    sound-as (at t.requests) _ t.awaited.items _ t.outbox.items s.leaving t.leaving s.running t.running
    awaited outbox rest.3 rest.4
    (sound-send (at s.requests) (at t.requests) s.awaited.items s.outbox.items s.leaving s.running sound bytes
    (entries_of s.protocol by bytes) free few new)
step-sound Ask s t ((requests, awaited, outbox), rest) sound =
    sound-as (at t.requests) s.awaited.items t.awaited.items s.outbox.items t.outbox.items s.leaving t.leaving
    s.running t.running awaited outbox rest.3 rest.4
    (sound-later (at s.requests) (at t.requests) s.awaited.items s.outbox.items s.leaving s.running sound
    (same-requests s t requests))
step-sound (Outgoing o) s t (next, leaving, outbox, running, requests, same) sound =
    sound-as (at t.requests) s.awaited.items t.awaited.items _ t.outbox.items _ t.leaving _ t.running
    (rw same.2 refl) outbox leaving running
    (sound-outgoing (at s.requests) (at t.requests) s.awaited.items s.outbox.items s.leaving s.running s.is_congested o
    sound next requests)
step-sound Sent s t (leaving, requests, outbox, running, same) sound =
    sound-as (at t.requests) s.awaited.items t.awaited.items s.outbox.items t.outbox.items None t.leaving
    s.running t.running (rw same.2 refl) (rw outbox refl) leaving running
    (sound-gone (at s.requests) (at t.requests) s.awaited.items s.outbox.items s.leaving s.running change.Sent sound
    later-sent sent-goes requests)
step-sound (NotSent errno) s t (leaving, requests, outbox, running, same) sound =
    sound-as (at t.requests) s.awaited.items t.awaited.items s.outbox.items t.outbox.items None t.leaving
    s.running t.running (rw same.2 refl) (rw outbox refl) leaving running
    (sound-gone (at s.requests) (at t.requests) s.awaited.items s.outbox.items s.leaving s.running
    (change.Unsent errno) sound (later-unsent errno) (unsent-goes errno) requests)
step-sound (Receive group joined datagram) s t received sound =
    sound-if-later s t received.2 (later-received group joined datagram s t received) sound
step-sound (Fault errno) s t (requests, multicast, unasked, congested, names, mails, awaited) sound =
    sound-as (at t.requests) s.awaited.items t.awaited.items s.outbox.items t.outbox.items s.leaving t.leaving
    s.running t.running (rw awaited refl) (rw mails.0 refl) mails.1 mails.2
    (sound-later (at s.requests) (at t.requests) s.awaited.items s.outbox.items s.leaving s.running sound
    (λ q. subst (λ (o : Option Request). IsLater (at s.requests q) o) (sym (requests q))
    (later-among (when (change.Lose (loss.Link errno))) (later-lost (loss.Link errno)) q s.awaited.items
    (at s.requests q))))
step-sound Quiet s t (requests, awaited, congested, names, mails, readers) sound =
    sound-as (at t.requests) t.awaited.items t.awaited.items s.outbox.items t.outbox.items s.leaving t.leaving
    s.running t.running refl (rw mails.0 refl) mails.1 mails.2
    (sound-quiet (at s.requests) (at t.requests) s.awaited.items t.awaited.items s.outbox.items s.leaving s.running
    (answers_at_once s.protocol) sound requests awaited)
step-sound (PassAnswer p) s t one sound = sound-of-one p passed_at later-passed s t one sound
step-sound PassMulticast s t (multicast, requests, unasked, same) sound =
    sound-if-later s t same (same-requests s t (same-map s t requests)) sound
step-sound PassUnasked s t (unasked, requests, multicast, same) sound =
    sound-if-later s t same (same-requests s t (same-map s t requests)) sound
step-sound (Close p) s t one sound = sound-of-one p closed_at later-closed s t one sound
step-sound CloseMulticast s t (multicast, requests, unasked, same) sound =
    sound-if-later s t same (same-requests s t (same-map s t requests)) sound

-- ---- of whole histories

pub new-sound : (s : Session) → IsNew s → IsSoundSession s
new-sound s new = sound-as (at s.requests) s.awaited.items s.awaited.items [] s.outbox.items s.leaving s.leaving
    s.running s.running refl new.2 refl refl
    (sound-at-first (at s.requests) s.awaited.items s.leaving s.running new.0)

pub history-sound : (ms : List Moment) (s : Session) → IsHistory s ms → IsSoundSession s → IsSoundSession (last s ms)
history-sound [] s h sound = sound
history-sound (m ∷ ms) s (step, later) sound =
    history-sound ms m.session later (step-sound m.call s m.session step sound)

some-same : (p q : ℕ) → Some p ≡ Some q → p ≡ q
some-same p q h = cc

pub one-dump-runs : (s : Session) (ms : List Moment) → IsNew s → IsHistory s ms → (p q : ℕ)
    → is_running (at (last s ms).requests p) ≡ true → is_running (at (last s ms).requests q) ≡ true → p ≡ q
one-dump-runs s ms new history p q one two =
    let sound : IsSoundSession (last s ms) = history-sound ms s history (new-sound s new) in
    some-same p q (sym (sound.runs p one) ∙ sound.runs q two)

pub dumps_take_turns : (s t : Session) (ms : List Moment) (p : Mail) (n : ℕ) → IsNew s → IsHistory s ms
    → IsStep (Outgoing (Some p)) (last s ms) t → p.dump ≡ Some n → BeginsAlone n (last s ms) t
dumps_take_turns s t ms p n new history (next, leaving, outbox, running, requests, same) is =
    let old : Session = last s ms in
    let both = turn-outgoing (at old.requests) (at t.requests) old.awaited.items old.outbox.items old.leaving
    old.running old.is_congested p n (history-sound ms s history (new-sound s new)) next requests is in
    record { alone = both.0; begins = both.1 }
