-- A datagram, one message after the other.
use Rattle.std.proofs.Common.{ℕ, ◌≡◌, Bool, List, [], ◌∷◌, ◌++◌, length, take, drop, Option, Some, None}
use Rattle.std.proofs.Common.{◌+◌, ◌≤◌, Err, append-nil, arith, refl, sym, ap, ◌∙◌}
use Rattle.std.proofs.Math.Seq.{take-append-add, take-append_seam}
use Rattle.std.proofs.lemmas.List.{length-take-le, take-append-drop, take_all}
use Rattle.neli_wire.specs.declared.errors.DeError.{DeError}
use Rattle.neli_reader.specs.laws.Cuts.{cut_of-join}
use Rattle.neli_reader.specs.laws.Messages.{layout_with-placed}
use Rattle.neli_reader.specs.Cuts.{Cut, messages_before}
use Rattle.neli_lent.specs.Messages.{Lent, lent_message, messages_in}
use Rattle.neli_session.specs.declared.request.Request.{Request}
use Rattle.neli_session.specs.Sessions.{after, after_all, gains, heard_of, is_heard, is_unasked, share}
use Rattle.neli_session.specs.Sessions.{HaveCome, HaveComeBeforeLoss, among, unasked_of, when}
use Rattle.neli_session.specs.declared.change.Change.TheVariants as change
use Rattle.neli_session.specs.declared.loss.Loss.TheVariants as loss
use Rattle.neli_session.specs.Messages.{IsMessage, IsWhole, messages_of}
use Rattle.neli_session.specs.Waiting.{Item}

append-assoc : (xs ys zs : List Item) → (xs ++ ys) ++ zs ≡ xs ++ (ys ++ zs)
append-assoc [] ys zs = refl
append-assoc (x ∷ xs) ys zs = ap (λ (ws : List Item). x ∷ ws) (append-assoc xs ys zs)

append-none : (xs : List Item) → xs ++ [] ≡ xs
append-none [] = refl
append-none (x ∷ xs) = ap (λ (ys : List Item). x ∷ ys) (append-none xs)

-- what was gained twice was gained in order
pub gains-twice : (one two : List Item) (o : Option (List Item)) → gains two (gains one o) ≡ gains (one ++ two) o
gains-twice one two None = refl
gains-twice one two (Some xs) = ap (λ (ws : List Item). Some ws) (append-assoc xs one two)

pub gains-none : (o : Option (List Item)) → gains [] o ≡ o
gains-none None = refl
gains-none (Some xs) = ap (λ (ws : List Item). Some ws) (append-none xs)

module _ (port group : ℕ) where
  -- one message more
  pub after-last : (ms : List (Lent ℕ)) (m : Lent ℕ) (q : ℕ) (o : Option Request)
      → after_all port group (ms ++ m ∷ []) q o ≡ after port group m q (after_all port group ms q o)
  after-last [] m q o = refl
  after-last (n ∷ ms) m q o = after-last ms m q (after port group n q o)

  pub heard-last : (joined : Bool) (ms : List (Lent ℕ)) (m : Lent ℕ) → heard_of port group joined (ms ++ m ∷ [])
      ≡ heard_of port group joined ms ++ share (is_heard port group joined m) m
  heard-last joined [] m = append-none (share (is_heard port group joined m) m)
  heard-last joined (n ∷ ms) m =
      ap (λ (ws : List Item). share (is_heard port group joined n) n ++ ws) (heard-last joined ms m)
      ∙ sym (append-assoc (share (is_heard port group joined n) n) (heard_of port group joined ms)
      (share (is_heard port group joined m) m))

  -- whether a message answers a request depends on that request alone
  pub unasked-same : (f g : ℕ → Option Request) (m : Lent ℕ) → f m.0.sequence_number ≡ g m.0.sequence_number
      → is_unasked port group f m ≡ is_unasked port group g m
  unasked-same f g m same = rw same refl

  pub unasked-last : (f : ℕ → Option Request) (ms : List (Lent ℕ)) (m : Lent ℕ)
      → unasked_of port group f (ms ++ m ∷ [])
      ≡ unasked_of port group f ms ++ share (is_unasked port group (λ q. after_all port group ms q (f q)) m) m
  unasked-last f [] m = append-none (share (is_unasked port group f m) m)
  unasked-last f (n ∷ ms) m =
      ap (λ (ws : List Item). share (is_unasked port group f n) n ++ ws)
      (unasked-last (λ q. after port group n q (f q)) ms m)
      ∙ sym (append-assoc (share (is_unasked port group f n) n)
      (unasked_of port group (λ q. after port group n q (f q)) ms)
      (share (is_unasked port group (λ q. after_all port group ms q (after port group n q (f q))) m) m))

-- ---- what has come

module _ (port group : ℕ) (joined : Bool) where
  -- at first nothing has
  pub come-none : (ms : List (Lent ℕ)) (f : ℕ → Option Request) (h u : Option (List Item)) → ms ≡ []
      → HaveCome port group joined ms f f h h u u
  come-none [] f h u none = record { requests = λ q. refl; heard = sym (gains-none h); unasked = sym (gains-none u) }
  come-none (m ∷ ms) f h u none = cc

  -- one message more
  pub come-more : (ms : List (Lent ℕ)) (m : Lent ℕ) (f g g' : ℕ → Option Request) (h h' h'' u u' u'' : Option (List Item))
      → HaveCome port group joined ms f g h h' u u' → ((q : ℕ) → g' q ≡ after port group m q (g q))
      → h'' ≡ gains (share (is_heard port group joined m) m) h'
      → u'' ≡ gains (share (is_unasked port group g m) m) u'
      → HaveCome port group joined (ms ++ m ∷ []) f g' h h'' u u''
  come-more ms m f g g' h h' h'' u u' u'' so_far own heard unasked = record {
    requests = λ q. own q ∙ ap (λ (o : Option Request). after port group m q o) (so_far.requests q)
        ∙ sym (after-last port group ms m q (f q));
    heard = heard ∙ ap (λ (o : Option (List Item)). gains (share (is_heard port group joined m) m) o) so_far.heard
        ∙ gains-twice (heard_of port group joined ms) (share (is_heard port group joined m) m) h
        ∙ ap (λ (xs : List Item). gains xs h) (sym (heard-last port group joined ms m));
    unasked =
        let same = unasked-same port group g (λ q. after_all port group ms q (f q)) m
        (so_far.requests m.0.sequence_number) in
        unasked ∙ ap (λ (b : Bool). gains (share b m) u') same
        ∙ ap (λ (o : Option (List Item)). gains (share (is_unasked port group
        (λ q. after_all port group ms q (f q)) m) m) o) so_far.unasked
        ∙ gains-twice (unasked_of port group f ms) (share (is_unasked port group
        (λ q. after_all port group ms q (f q)) m) m) u
        ∙ ap (λ (xs : List Item). gains xs u) (sym (unasked-last port group f ms m));
  }

  -- and then a loss
  pub come-loss : (ms : List (Lent ℕ)) (awaited : List ℕ) (f g g' : ℕ → Option Request)
      (h h' h'' u u' u'' : Option (List Item)) → HaveCome port group joined ms f g h h' u u'
      → ((q : ℕ) → g' q ≡ among awaited (when (change.Lose loss.Datagram)) q (g q))
      → h'' ≡ gains (Err loss.Datagram ∷ []) h' → u'' ≡ gains (Err loss.Datagram ∷ []) u'
      → HaveComeBeforeLoss port group joined ms awaited f g' h h'' u u''
  come-loss ms awaited f g g' h h' h'' u u' u'' so_far own heard unasked = record {
    requests = λ q. own q
        ∙ ap (λ (o : Option Request). among awaited (when (change.Lose loss.Datagram)) q o) (so_far.requests q);
    heard = heard ∙ ap (λ (o : Option (List Item)). gains (Err loss.Datagram ∷ []) o) so_far.heard
        ∙ gains-twice (heard_of port group joined ms) (Err loss.Datagram ∷ []) h;
    unasked = unasked ∙ ap (λ (o : Option (List Item)). gains (Err loss.Datagram ∷ []) o) so_far.unasked
        ∙ gains-twice (unasked_of port group f ms) (Err loss.Datagram ∷ []) u;
  }

-- ---- the bytes so far

pub joined-in : (a b : List ℕ) → IsWhole a
    → messages_in {K = ℕ} (λ n. n) (a ++ b) ≡ messages_before (messages_of a) (messages_in (λ n. n) b)
unfolding messages_in
joined-in a b whole = cut_of-join (lent_message (λ n. n)) (layout_with-placed (λ n. n) _) (omega arith) a b whole

-- the bytes up to the end of a message
pub front-more : (bytes span : List ℕ) (place : ℕ) → place ≤ length bytes
    → drop place bytes ≡ span ++ drop (place + length span) bytes
    → take (place + length span) bytes ≡ take place bytes ++ span
front-more bytes span place low split =
    let len : length (take place bytes) ≡ place = length-take-le place bytes low in
    ap (λ (xs : List ℕ). take (place + length span) xs) (sym (take-append-drop place bytes))
    ∙ ap (λ (n : ℕ). take (n + length span) (take place bytes ++ drop place bytes)) (sym len)
    ∙ take-append-add (take place bytes) (drop place bytes) (length span)
    ∙ ap (λ (xs : List ℕ). take place bytes ++ take (length span) xs) split
    ∙ ap (λ (xs : List ℕ). take place bytes ++ xs) (take-append_seam span (drop (place + length span) bytes))

pub front-messages : (bytes span : List ℕ) (place : ℕ) (m : Lent ℕ) → place ≤ length bytes
    → drop place bytes ≡ span ++ drop (place + length span) bytes → IsWhole (take place bytes) → IsMessage span m
    → messages_in {K = ℕ} (λ n. n) (take (place + length span) bytes)
    ≡ (messages_of (take place bytes) ++ m ∷ [], None)
front-messages bytes span place m low split whole is =
    ap (λ (xs : List ℕ). messages_in {K = ℕ} (λ n. n) xs) (front-more bytes span place low split)
    ∙ joined-in (take place bytes) span whole
    ∙ ap (λ (c : Cut (Lent ℕ)). messages_before (messages_of (take place bytes)) c) is

-- a datagram whose rest is refused
pub fault-messages : (bytes : List ℕ) (place : ℕ) (e : DeError) → IsWhole (take place bytes)
    → messages_in {K = ℕ} (λ n. n) (drop place bytes) ≡ ([], Some e)
    → messages_in {K = ℕ} (λ n. n) bytes ≡ (messages_of (take place bytes), Some e)
fault-messages bytes place e whole is =
    ap (λ (xs : List ℕ). messages_in {K = ℕ} (λ n. n) xs) (sym (take-append-drop place bytes))
    ∙ joined-in (take place bytes) (drop place bytes) whole
    ∙ ap (λ (c : Cut (Lent ℕ)). messages_before (messages_of (take place bytes)) c) is
    ∙ ap (λ (ms : List (Lent ℕ)). (ms, Some e)) (append-nil (messages_of (take place bytes)))

-- all of a datagram
pub all-taken : (bytes : List ℕ) (place : ℕ) → place ≤ length bytes → length bytes ≤ place → take place bytes ≡ bytes
all-taken bytes place low high = take_all place bytes high
