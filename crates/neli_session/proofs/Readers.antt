-- What is read of multicast and of the unasked, one call after the other.
use Rattle.std.proofs.Common.{ℕ, ◌≡◌, Bool, false, List, [], ◌∷◌, ◌++◌, Option, Some, None, Err, refl, sym, subst, ap}
use Rattle.std.proofs.Common.{◌∙◌, append_assoc, append-nil}
use Rattle.neli_wire.specs.declared.errors.DeError.{DeError}
use Rattle.neli_lent.specs.Messages.{messages_in}
use Rattle.neli_session.specs.declared.loss.Loss.TheVariants as loss
use Rattle.neli_session.specs.declared.session.Session.{Session}
use Rattle.neli_session.specs.Histories.{Ask, Call, Close, CloseMulticast, Fault, IsHistory, IsNew, IsReceived, IsStep}
use Rattle.neli_session.specs.Histories.{Moment, NotSent, Outgoing, PassAnswer, PassMulticast, PassUnasked, Quiet}
use Rattle.neli_session.specs.Histories.{Receive, Send, Sent, closes_multicast, heard_by, heard_in, is_multicast_closed}
use Rattle.neli_session.specs.Histories.{last, multicast_read, next_in, passes_multicast, passes_unasked, rest_lost}
use Rattle.neli_session.specs.Histories.{unasked_by, unasked_in, unasked_read}
use Rattle.neli_session.specs.Messages.{messages_of}
use Rattle.neli_session.specs.Sessions.{at, gains, heard_of, unasked_of, without_first}
use Rattle.neli_session.specs.Waiting.{Item}
use Rattle.neli_session.proofs.Followed.{neither, step-port}
use Rattle.neli_session.proofs.Later.{no-falsehood}

-- a queue that had xs, of which these items were read, and which got others
record Flows (xs : List Item) (o : Option (List Item)) (read got : List Item) : Type 0 where
  now : List Item
  is : o ≡ Some now
  flow : read ++ now ≡ xs ++ got

module _ (xs : List Item) (o o' : Option (List Item)) (was : o ≡ Some xs) where
  -- nothing of it
  stays : o' ≡ o → Flows xs o' [] []
  stays same = record { now = xs; is = same ∙ was; flow = sym (append-nil xs) }

  -- it got more
  more : (got : List Item) → o' ≡ gains got o → Flows xs o' [] got
  more got by = record { now = xs ++ got; is = by ∙ ap (λ (p : Option (List Item)). gains got p) was; flow = refl }

  -- its first was read
  first : o' ≡ without_first o → Flows xs o' (next_in o) []
  first by = subst (λ (p : Option (List Item)). Flows xs o' (next_in p) []) (sym was)
      (go xs (by ∙ ap (λ (p : Option (List Item)). without_first p) was))
    where
      go : (ys : List Item) → o' ≡ without_first (Some ys) → Flows ys o' (next_in (Some ys)) []
      go [] is = record { now = []; is = is; flow = refl }
      go (y ∷ ys) is = record { now = ys; is = is; flow = sym (append-nil (y ∷ ys)) }

-- one step and then others
then-flows : (xs : List Item) (o o' : Option (List Item)) (read got read' got' : List Item)
    → (one : Flows xs o read got) → Flows one.now o' read' got' → Flows xs o' (read ++ read') (got ++ got')
then-flows xs o o' read got read' got' one two = record {
  now = two.now;
  is = two.is;
  flow = append_assoc read read' two.now ∙ ap (λ (ys : List Item). read ++ ys) two.flow
      ∙ sym (append_assoc read one.now got') ∙ ap (λ (ys : List Item). ys ++ got') one.flow ∙ append_assoc xs got got';
}

-- a datagram, with a fault or without
received : (group : ℕ) (joined : Bool) (datagram : List ℕ) (s t : Session) → IsReceived group joined datagram s t
    → (t.multicast ≡ gains (heard_of s.port group joined (messages_of datagram) ++ rest_lost datagram) s.multicast)
    × (t.unasked ≡ gains (unasked_of s.port group (at s.requests)
    (messages_of datagram) ++ rest_lost datagram) s.unasked)
received group joined datagram s t (whole, faulty, same) = go (messages_in {K = ℕ} (λ n. n) datagram).1 refl
  where
    go : (e : Option DeError) → (messages_in {K = ℕ} (λ n. n) datagram).1 ≡ e
        → (t.multicast ≡ gains (heard_of s.port group joined (messages_of datagram) ++ rest_lost datagram) s.multicast)
        × (t.unasked ≡ gains (unasked_of s.port group (at s.requests) (messages_of datagram) ++ rest_lost datagram)
        s.unasked)
    go None is = rw is (
      (whole is).heard ∙ ap (λ (xs : List Item). gains xs s.multicast)
          (sym (append-nil (heard_of s.port group joined (messages_of datagram)))),
      (whole is).unasked ∙ ap (λ (xs : List Item). gains xs s.unasked)
          (sym (append-nil (unasked_of s.port group (at s.requests) (messages_of datagram)))),
    )
    go (Some e) is = rw is ((faulty e is).heard, (faulty e is).unasked)

multicast-step : (c : Call) (s t : Session) (xs : List Item) → IsStep c s t → s.multicast ≡ Some xs
    → closes_multicast c ≡ false → Flows xs t.multicast (passes_multicast s c) (heard_by s.port c)
multicast-step (Send by bytes) s t xs (queue, rest) was open_is = stays xs s.multicast t.multicast was rest.2.0
multicast-step Ask s t xs (queue, rest) was open_is = stays xs s.multicast t.multicast was rest.2.0
multicast-step (Outgoing o) s t xs (next, leaving, outbox, running, requests, same) was open_is =
    stays xs s.multicast t.multicast was same.1.0
multicast-step Sent s t xs (leaving, requests, outbox, running, same) was open_is =
    stays xs s.multicast t.multicast was same.1.0
multicast-step (NotSent errno) s t xs (leaving, requests, outbox, running, same) was open_is =
    stays xs s.multicast t.multicast was same.1.0
multicast-step (Receive group joined datagram) s t xs is was open_is =
    more xs s.multicast t.multicast was
    (heard_of s.port group joined (messages_of datagram) ++ rest_lost datagram)
    (received group joined datagram s t is).0
multicast-step (Fault errno) s t xs (requests, multicast, unasked, congested, names, mails, awaited) was open_is =
    more xs s.multicast t.multicast was (Err (loss.Link errno) ∷ []) multicast
multicast-step Quiet s t xs (requests, awaited, congested, names, mails, readers) was open_is =
    stays xs s.multicast t.multicast was readers.0
multicast-step (PassAnswer p) s t xs (own, others, multicast, unasked, same) was open_is =
    stays xs s.multicast t.multicast was multicast
multicast-step PassMulticast s t xs (multicast, requests, unasked, same) was open_is =
    first xs s.multicast t.multicast was multicast
multicast-step PassUnasked s t xs (unasked, requests, multicast, same) was open_is =
    stays xs s.multicast t.multicast was multicast
multicast-step (Close p) s t xs (own, others, multicast, unasked, same) was open_is =
    stays xs s.multicast t.multicast was multicast
multicast-step CloseMulticast s t xs is was open_is = no-falsehood open_is

unasked-step : (c : Call) (s t : Session) (xs : List Item) → IsStep c s t → s.unasked ≡ Some xs
    → Flows xs t.unasked (passes_unasked s c) (unasked_by s c)
unasked-step (Send by bytes) s t xs (queue, rest) was = stays xs s.unasked t.unasked was rest.2.1
unasked-step Ask s t xs (queue, rest) was = stays xs s.unasked t.unasked was rest.2.1
unasked-step (Outgoing o) s t xs (next, leaving, outbox, running, requests, same) was =
    stays xs s.unasked t.unasked was same.1.1
unasked-step Sent s t xs (leaving, requests, outbox, running, same) was = stays xs s.unasked t.unasked was same.1.1
unasked-step (NotSent errno) s t xs (leaving, requests, outbox, running, same) was =
    stays xs s.unasked t.unasked was same.1.1
unasked-step (Receive group joined datagram) s t xs is was =
    more xs s.unasked t.unasked was
    (unasked_of s.port group (at s.requests) (messages_of datagram) ++ rest_lost datagram)
    (received group joined datagram s t is).1
unasked-step (Fault errno) s t xs (requests, multicast, unasked, congested, names, mails, awaited) was =
    more xs s.unasked t.unasked was (Err (loss.Link errno) ∷ []) unasked
unasked-step Quiet s t xs (requests, awaited, congested, names, mails, readers) was =
    stays xs s.unasked t.unasked was readers.1
unasked-step (PassAnswer p) s t xs (own, others, multicast, unasked, same) was =
    stays xs s.unasked t.unasked was unasked
unasked-step PassMulticast s t xs (multicast, requests, unasked, same) was = stays xs s.unasked t.unasked was unasked
unasked-step PassUnasked s t xs (unasked, requests, multicast, same) was = first xs s.unasked t.unasked was unasked
unasked-step (Close p) s t xs (own, others, multicast, unasked, same) was = stays xs s.unasked t.unasked was unasked
unasked-step CloseMulticast s t xs (multicast, requests, unasked, same) was = stays xs s.unasked t.unasked was unasked

-- ---- whole histories

multicast-flows : (ms : List Moment) (s : Session) (xs : List Item) → IsHistory s ms → s.multicast ≡ Some xs
    → is_multicast_closed ms ≡ false → Flows xs (last s ms).multicast (multicast_read s ms) (heard_in s.port ms)
multicast-flows [] s xs h was open_is = stays xs s.multicast s.multicast was refl
multicast-flows (m ∷ ms) s xs (step, later) was open_is =
    let both : (closes_multicast m.call ≡ false) × (is_multicast_closed ms ≡ false) =
    neither (closes_multicast m.call) (is_multicast_closed ms) open_is in
    let one : Flows xs m.session.multicast (passes_multicast s m.call) (heard_by s.port m.call) =
    multicast-step m.call s m.session xs step was both.0 in
    then-flows xs m.session.multicast (last m.session ms).multicast (passes_multicast s m.call)
    (heard_by s.port m.call) (multicast_read m.session ms) (heard_in s.port ms) one
    (subst (λ (p : ℕ). Flows one.now (last m.session ms).multicast (multicast_read m.session ms) (heard_in p ms))
    (step-port m.call s m.session step) (multicast-flows ms m.session one.now later one.is both.1))

unasked-flows : (ms : List Moment) (s : Session) (xs : List Item) → IsHistory s ms → s.unasked ≡ Some xs
    → Flows xs (last s ms).unasked (unasked_read s ms) (unasked_in s ms)
unasked-flows [] s xs h was = stays xs s.unasked s.unasked was refl
unasked-flows (m ∷ ms) s xs (step, later) was =
    let one : Flows xs m.session.unasked (passes_unasked s m.call) (unasked_by s m.call) =
    unasked-step m.call s m.session xs step was in
    then-flows xs m.session.unasked (last m.session ms).unasked (passes_unasked s m.call) (unasked_by s m.call)
    (unasked_read m.session ms) (unasked_in m.session ms) one (unasked-flows ms m.session one.now later one.is)

pub multicast-read : (s : Session) (ms : List Moment) → IsNew s → IsHistory s ms → is_multicast_closed ms ≡ false
    → (xs : List Item) × ((last s ms).multicast ≡ Some xs) × (multicast_read s ms ++ xs ≡ heard_in s.port ms)
multicast-read s ms new history open_is =
    let is : Flows [] (last s ms).multicast (multicast_read s ms) (heard_in s.port ms) =
    multicast-flows ms s [] history new.6 open_is in
    (is.now, is.is, is.flow)

pub unasked-read : (s : Session) (ms : List Moment) → s.unasked ≡ Some [] → IsHistory s ms
    → (xs : List Item) × ((last s ms).unasked ≡ Some xs) × (unasked_read s ms ++ xs ≡ unasked_in s ms)
unasked-read s ms was history =
    let is : Flows [] (last s ms).unasked (unasked_read s ms) (unasked_in s ms) = unasked-flows ms s [] history was in
    (is.now, is.is, is.flow)
