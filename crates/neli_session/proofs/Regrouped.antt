-- Two datagrams, one after the other, and one of both.
use Rattle.std.proofs.Common.{ℕ, ◌≡◌, Bool, List, [], ◌∷◌, ◌++◌, Option, Some, Err, refl, sym, subst, ap, ◌∙◌}
use Rattle.std.proofs.Common.{append_assoc}
use Rattle.neli_wire.specs.declared.errors.DeError.{DeError}
use Rattle.neli_reader.specs.Cuts.{Cut, messages_before}
use Rattle.neli_lent.specs.Messages.{Lent, messages_in}
use Rattle.neli_session.specs.declared.change.Change.TheVariants as change
use Rattle.neli_session.specs.declared.loss.Loss.TheVariants as loss
use Rattle.neli_session.specs.declared.request.Request.{Request}
use Rattle.neli_session.specs.declared.session.Session.{Session}
use Rattle.neli_session.specs.Histories.{IsStep, Receive}
use Rattle.neli_session.specs.Messages.{IsWhole, messages_of}
use Rattle.neli_session.specs.Sessions.{HaveCome, HaveComeBeforeLoss, after, after_all, among, at, gains, heard_of}
use Rattle.neli_session.specs.Sessions.{is_heard, is_unasked, share, unasked_of, when}
use Rattle.neli_session.specs.Waiting.{Item}
use Rattle.neli_session.proofs.Datagrams.{gains-twice, joined-in}
use Rattle.neli_session.proofs.Same.{same-again}

-- ---- messages

module _ (port group : ℕ) where
  after-both : (ms ns : List (Lent ℕ)) (q : ℕ) (o : Option Request)
      → after_all port group (ms ++ ns) q o ≡ after_all port group ns q (after_all port group ms q o)
  after-both [] ns q o = refl
  after-both (m ∷ ms) ns q o = after-both ms ns q (after port group m q o)

  heard-both : (joined : Bool) (ms ns : List (Lent ℕ)) → heard_of port group joined (ms ++ ns)
      ≡ heard_of port group joined ms ++ heard_of port group joined ns
  heard-both joined [] ns = refl
  heard-both joined (m ∷ ms) ns =
      ap (λ (xs : List Item). share (is_heard port group joined m) m ++ xs) (heard-both joined ms ns)
      ∙ sym (append_assoc (share (is_heard port group joined m) m) (heard_of port group joined ms)
      (heard_of port group joined ns))

  unasked-both : (f : ℕ → Option Request) (ms ns : List (Lent ℕ)) → unasked_of port group f (ms ++ ns)
      ≡ unasked_of port group f ms ++ unasked_of port group (λ q. after_all port group ms q (f q)) ns
  unasked-both f [] ns = refl
  unasked-both f (m ∷ ms) ns =
      ap (λ (xs : List Item). share (is_unasked port group f m) m ++ xs)
      (unasked-both (λ q. after port group m q (f q)) ms ns)
      ∙ sym (append_assoc (share (is_unasked port group f m) m)
      (unasked_of port group (λ q. after port group m q (f q)) ms)
      (unasked_of port group (λ q. after_all port group ms q (after port group m q (f q))) ns))

-- what came for functions that are equal everywhere
unasked-as : (port group : ℕ) (f g : ℕ → Option Request) (ms : List (Lent ℕ)) → ((q : ℕ) → g q ≡ f q)
    → unasked_of port group g ms ≡ unasked_of port group f ms
unasked-as port group f g ms same = ap (λ (h : ℕ → Option Request). unasked_of port group h ms) (λ i q. same q i)

-- ---- what has come

module _ (port group : ℕ) (joined : Bool) (ms ns : List (Lent ℕ)) (f g g' : ℕ → Option Request)
    (h h' h'' u u' u'' : Option (List Item)) (one : HaveCome port group joined ms f g h h' u u') where
  pub both-come : HaveCome port group joined ns g g' h' h'' u' u'' → HaveCome port group joined (ms ++ ns) f g' h h'' u u''
  both-come two = record {
    requests = λ q. two.requests q ∙ ap (λ (o : Option Request). after_all port group ns q o) (one.requests q)
        ∙ sym (after-both port group ms ns q (f q));
    heard = two.heard ∙ ap (λ (o : Option (List Item)). gains (heard_of port group joined ns) o) one.heard
        ∙ gains-twice (heard_of port group joined ms) (heard_of port group joined ns) h
        ∙ ap (λ (xs : List Item). gains xs h) (sym (heard-both port group joined ms ns));
    unasked = two.unasked
        ∙ ap (λ (xs : List Item). gains xs u')
        (unasked-as port group (λ q. after_all port group ms q (f q)) g ns one.requests)
        ∙ ap (λ (o : Option (List Item)). gains (unasked_of port group (λ q. after_all port group ms q (f q)) ns) o)
        one.unasked
        ∙ gains-twice (unasked_of port group f ms)
        (unasked_of port group (λ q. after_all port group ms q (f q)) ns) u
        ∙ ap (λ (xs : List Item). gains xs u) (sym (unasked-both port group f ms ns));
  }

  both-lost : (awaited : List ℕ) → HaveComeBeforeLoss port group joined ns awaited g g' h' h'' u' u''
      → HaveComeBeforeLoss port group joined (ms ++ ns) awaited f g' h h'' u u''
  both-lost awaited two = record {
    requests = λ q. two.requests q
        ∙ ap (λ (o : Option Request). among awaited (when (change.Lose loss.Datagram)) q (after_all port group ns q o))
        (one.requests q)
        ∙ ap (λ (o : Option Request). among awaited (when (change.Lose loss.Datagram)) q o)
        (sym (after-both port group ms ns q (f q)));
    heard = two.heard
        ∙ ap (λ (o : Option (List Item)). gains (heard_of port group joined ns ++ Err loss.Datagram ∷ []) o) one.heard
        ∙ gains-twice (heard_of port group joined ms) (heard_of port group joined ns ++ Err loss.Datagram ∷ []) h
        ∙ ap (λ (xs : List Item). gains xs h) (sym (append_assoc (heard_of port group joined ms)
        (heard_of port group joined ns) (Err loss.Datagram ∷ []))
        ∙ ap (λ (xs : List Item). xs ++ Err loss.Datagram ∷ []) (sym (heard-both port group joined ms ns)));
    unasked = two.unasked
        ∙ ap (λ (xs : List Item). gains (xs ++ Err loss.Datagram ∷ []) u')
        (unasked-as port group (λ q. after_all port group ms q (f q)) g ns one.requests)
        ∙ ap (λ (o : Option (List Item)). gains (unasked_of port group (λ q. after_all port group ms q (f q)) ns
        ++ Err loss.Datagram ∷ []) o) one.unasked
        ∙ gains-twice (unasked_of port group f ms)
        (unasked_of port group (λ q. after_all port group ms q (f q)) ns ++ Err loss.Datagram ∷ []) u
        ∙ ap (λ (xs : List Item). gains xs u) (sym (append_assoc (unasked_of port group f ms)
        (unasked_of port group (λ q. after_all port group ms q (f q)) ns) (Err loss.Datagram ∷ []))
        ∙ ap (λ (xs : List Item). xs ++ Err loss.Datagram ∷ []) (sym (unasked-both port group f ms ns)));
  }

-- ---- datagrams

pub regrouped : (s t u : Session) (group : ℕ) (joined : Bool) (one two : List ℕ) → IsWhole one
    → IsStep (Receive group joined one) s t → IsStep (Receive group joined two) t u
    → IsStep (Receive group joined (one ++ two)) s u
regrouped s t u group joined one two whole (came, faulty, same) (came', faulty', same') =
    (all_whole, with_fault, same-again s t u same same')
  where
    cut : messages_in {K = ℕ} (λ n. n) (one ++ two) ≡ messages_before (messages_of one) (messages_in (λ n. n) two)
    cut = joined-in one two whole

    split : messages_of (one ++ two) ≡ messages_of one ++ messages_of two
    split = ap (λ (c : Cut (Lent ℕ)). c.0) cut

    fault : (messages_in {K = ℕ} (λ n. n) (one ++ two)).1 ≡ (messages_in {K = ℕ} (λ n. n) two).1
    fault = ap (λ (c : Cut (Lent ℕ)). c.1) cut

    all_whole : IsWhole (one ++ two) → HaveCome s.port group joined (messages_of (one ++ two)) (at s.requests)
        (at u.requests) s.multicast u.multicast s.unasked u.unasked
    all_whole is = subst (λ (ms : List (Lent ℕ)). HaveCome s.port group joined ms (at s.requests) (at u.requests)
        s.multicast u.multicast s.unasked u.unasked) (sym split)
        (both-come s.port group joined (messages_of one) (messages_of two) (at s.requests) (at t.requests)
        (at u.requests) s.multicast t.multicast u.multicast s.unasked t.unasked u.unasked (came whole)
        (subst (λ (p : ℕ). HaveCome p group joined (messages_of two) (at t.requests) (at u.requests) t.multicast
        u.multicast t.unasked u.unasked) same.0.1 (came' (sym fault ∙ is))))

    with_fault : (e : DeError) → (messages_in {K = ℕ} (λ n. n) (one ++ two)).1 ≡ Some e
        → HaveComeBeforeLoss s.port group joined (messages_of (one ++ two)) s.awaited.items (at s.requests)
        (at u.requests) s.multicast u.multicast s.unasked u.unasked
    with_fault e is = subst (λ (ms : List (Lent ℕ)). HaveComeBeforeLoss s.port group joined ms s.awaited.items
        (at s.requests) (at u.requests) s.multicast u.multicast s.unasked u.unasked) (sym split)
        (both-lost s.port group joined (messages_of one) (messages_of two) (at s.requests) (at t.requests)
        (at u.requests) s.multicast t.multicast u.multicast s.unasked t.unasked u.unasked (came whole) s.awaited.items
        (subst (λ (ns : List ℕ). HaveComeBeforeLoss s.port group joined (messages_of two) ns (at t.requests)
        (at u.requests) t.multicast u.multicast t.unasked u.unasked) same_awaited
        (subst (λ (p : ℕ). HaveComeBeforeLoss p group joined (messages_of two) t.awaited.items (at t.requests)
        (at u.requests) t.multicast u.multicast t.unasked u.unasked) same.0.1 (faulty' e (sym fault ∙ is)))))
      where
        same_awaited : t.awaited.items ≡ s.awaited.items
        same_awaited = rw same.2 refl
