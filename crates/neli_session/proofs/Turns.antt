-- In which order datagrams go out.
use Rattle.std.proofs.Common.{◌≡◌, Bool, true, false, not, ◌&&◌, List, [], ◌∷◌, ◌++◌, Option, Some, None, refl, sym, ap}
use Rattle.std.proofs.Common.{◌∙◌, append_assoc, append-nil}
use Rattle.std.specs.Bool.{beq}
use Rattle.std.specs.Prelude.{if◌then◌else◌, is_some}
use Rattle.neli_session.specs.declared.session.Session.{Session}
use Rattle.neli_session.specs.Histories.{Ask, Call, Close, CloseMulticast, Fault, IsHistory, IsNew, IsStep, Moment}
use Rattle.neli_session.specs.Histories.{NotSent, Outgoing, PassAnswer, PassMulticast, PassUnasked, Quiet, Receive}
use Rattle.neli_session.specs.Histories.{Send, Sent, last, out_by, out_in, sent_by, sent_in, those}
use Rattle.neli_session.specs.Mails.{Mail, entries_of, mail_of, may_go, next_mail, next_out, still_waiting}
use Rattle.neli_session.specs.Mails.{without_next}
use Rattle.neli_session.specs.Sends.{runs_now}
use Rattle.neli_session.specs.Sessions.{at}
use Rattle.neli_session.proofs.Later.{no-falsehood, no-truth}
use Rattle.neli_session.proofs.Outboxes.{next-may, same-mail}

module _ (dump : Bool) where
  those-both : (ps qs : List Mail) → those dump (ps ++ qs) ≡ those dump ps ++ those dump qs
  those-both [] qs = refl
  those-both (p ∷ ps) qs = go (beq (is_some p.dump) dump) (those-both ps qs)
    where
      go : (b : Bool) → those dump (ps ++ qs) ≡ those dump ps ++ those dump qs
          → (if b then p ∷ those dump (ps ++ qs) else those dump (ps ++ qs))
          ≡ (if b then p ∷ those dump ps else those dump ps) ++ those dump qs
      go true more = ap (λ (rs : List Mail). p ∷ rs) more
      go false more = more

-- what may not go out has a dump, and what does has none
waits-dump : (runs : Bool) (p : Mail) → may_go runs p ≡ false → (runs ≡ true) × (is_some p.dump ≡ true)
waits-dump runs p h = go runs (is_some p.dump) h
  where
    go : (a b : Bool) → not (a && b) ≡ false → (a ≡ true) × (b ≡ true)
    go true true h = (refl, refl)
    go true false h = no-truth (sym h)
    go false b h = no-truth (sym h)

goes-none : (runs : Bool) (p : Mail) → runs ≡ true → may_go runs p ≡ true → is_some p.dump ≡ false
goes-none runs p is h = go (is_some p.dump) (ap (λ (a : Bool). not (a && is_some p.dump)) (sym is) ∙ h)
  where
    go : (b : Bool) → not b ≡ true → b ≡ false
    go true h = no-truth h
    go false h = refl

-- what goes out was the first of its kind
next-first : (runs dump : Bool) (ps : List Mail) (p : Mail) → next_mail runs ps ≡ Some p
    → those dump ps ≡ those dump (p ∷ []) ++ those dump (without_next runs ps)
next-first runs dump [] p is = cc
next-first runs dump (r ∷ ps) p is = go (may_go runs r) refl is (next-first runs dump ps p)
  where
    -- it has no dump, and the first that waits has one
    past : (d a b : Bool) → a ≡ true → b ≡ false
        → those d ps ≡ (if beq b d then p ∷ [] else []) ++ those d (without_next runs ps)
        → (if beq a d then r ∷ those d ps else those d ps)
        ≡ (if beq b d then p ∷ [] else []) ++ (if beq a d then r ∷ those d (without_next runs ps)
        else those d (without_next runs ps))
    past true true true one two h = no-falsehood two
    past true true false one two h = ap (λ (rs : List Mail). r ∷ rs) h
    past false true b one two h = h
    past d false b one two h = no-truth one

    go : (b : Bool) → may_go runs r ≡ b → (if b then Some r else next_mail runs ps) ≡ Some p
        → (next_mail runs ps ≡ Some p → those dump ps ≡ those dump (p ∷ []) ++ those dump (without_next runs ps))
        → those dump (r ∷ ps)
        ≡ those dump (p ∷ []) ++ those dump (if b then ps else r ∷ without_next runs ps)
    go true may h more = those-both dump (r ∷ []) ps
        ∙ ap (λ (x : Mail). those dump (x ∷ []) ++ those dump ps) (same-mail r p h)
    go false may h more = past dump (is_some r.dump) (is_some p.dump) (waits-dump runs r may).1
        (goes-none runs p (waits-dump runs r may).0 (next-may runs ps p h)) (more h)

-- of what waits, what goes out and what does not
outgoing-first : (dump congested runs : Bool) (L o : Option Mail) (ps : List Mail) → next_out congested L runs ps ≡ o
    → those dump ps ≡ those dump (out_by (Outgoing o)) ++ those dump (still_waiting o runs ps)
outgoing-first dump congested runs L None ps is = refl
outgoing-first dump congested runs (Some r) (Some p) ps is = cc
outgoing-first dump true runs None (Some p) ps is = cc
outgoing-first dump false runs None (Some p) ps is = next-first runs dump ps p is

-- one call
turn-step : (dump : Bool) (c : Call) (s t : Session) → IsStep c s t
    → those dump s.outbox.items ++ those dump (sent_by s c) ≡ those dump (out_by c) ++ those dump t.outbox.items
turn-step dump (Send by bytes) s t ((whole, some, few, (free, new, awaited, outbox)), rest) =
    sym (those-both dump s.outbox.items (mail_of bytes (entries_of s.protocol by bytes) ∷ []))
    ∙ ap (λ (ps : List Mail). those dump ps) (sym outbox)
turn-step dump Ask s t ((requests, awaited, outbox), rest) = append-nil (those dump s.outbox.items)
    ∙ ap (λ (ps : List Mail). those dump ps) (sym outbox)
turn-step dump (Outgoing o) s t (next, leaving, outbox, running, requests, same) = append-nil
    (those dump s.outbox.items)
    ∙ outgoing-first dump s.is_congested (runs_now s.running (at s.requests)) s.leaving o s.outbox.items next
    ∙ ap (λ (ps : List Mail). those dump (out_by (Outgoing o)) ++ those dump ps) (sym outbox)
turn-step dump Sent s t (leaving, requests, outbox, running, same) = rw outbox (append-nil (those dump s.outbox.items))
turn-step dump (NotSent errno) s t (leaving, requests, outbox, running, same) =
    rw outbox (append-nil (those dump s.outbox.items))
turn-step dump (Receive group joined datagram) s t (whole, faulty, same) =
    rw same.1.0 (append-nil (those dump s.outbox.items))
turn-step dump (Fault errno) s t (requests, multicast, unasked, congested, names, mails, awaited) =
    rw mails.0 (append-nil (those dump s.outbox.items))
turn-step dump Quiet s t (requests, awaited, congested, names, mails, readers) =
    rw mails.0 (append-nil (those dump s.outbox.items))
turn-step dump (PassAnswer p) s t (own, others, multicast, unasked, same) =
    rw same.1.0 (append-nil (those dump s.outbox.items))
turn-step dump PassMulticast s t (multicast, requests, unasked, same) =
    rw same.1.0 (append-nil (those dump s.outbox.items))
turn-step dump PassUnasked s t (unasked, requests, multicast, same) =
    rw same.1.0 (append-nil (those dump s.outbox.items))
turn-step dump (Close p) s t (own, others, multicast, unasked, same) =
    rw same.1.0 (append-nil (those dump s.outbox.items))
turn-step dump CloseMulticast s t (multicast, requests, unasked, same) =
    rw same.1.0 (append-nil (those dump s.outbox.items))

-- whole histories
turns : (dump : Bool) (ms : List Moment) (s : Session) → IsHistory s ms
    → those dump s.outbox.items ++ those dump (sent_in s ms)
    ≡ those dump (out_in ms) ++ those dump (last s ms).outbox.items
turns dump [] s h = append-nil (those dump s.outbox.items)
turns dump (m ∷ ms) s (step, later) =
    ap (λ (ps : List Mail). those dump s.outbox.items ++ ps) (those-both dump (sent_by s m.call) (sent_in m.session ms))
    ∙ sym (append_assoc (those dump s.outbox.items) (those dump (sent_by s m.call)) (those dump (sent_in m.session ms)))
    ∙ ap (λ (ps : List Mail). ps ++ those dump (sent_in m.session ms)) (turn-step dump m.call s m.session step)
    ∙ append_assoc (those dump (out_by m.call)) (those dump m.session.outbox.items)
    (those dump (sent_in m.session ms))
    ∙ ap (λ (ps : List Mail). those dump (out_by m.call) ++ ps) (turns dump ms m.session later)
    ∙ sym (append_assoc (those dump (out_by m.call)) (those dump (out_in ms))
    (those dump (last m.session ms).outbox.items))
    ∙ ap (λ (ps : List Mail). ps ++ those dump (last m.session ms).outbox.items)
    (sym (those-both dump (out_by m.call) (out_in ms)))

pub in-order : (s : Session) (ms : List Moment) (dump : Bool) → IsNew s → IsHistory s ms
    → those dump (out_in ms) ++ those dump (last s ms).outbox.items ≡ those dump (sent_in s ms)
in-order s ms dump new history = sym (turns dump ms s history)
    ∙ ap (λ (ps : List Mail). those dump ps ++ those dump (sent_in s ms)) new.2
