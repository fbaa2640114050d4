-- The deliveries of a datagram, message by message.
use Rattle.std.proofs.Common.{◌≡◌, ℕ, zero, suc, ◌+◌, ◌-◌, ◌≤◌, ◌<◌, true, List, [], ◌∷◌, ◌++◌, length}
use Rattle.std.proofs.Common.{map, take, drop}
use Rattle.std.proofs.Common.{Option, Some, None, Ok, Err, refl, sym, ap, subst, ◌∙◌, arith, append_assoc}
use Rattle.std.proofs.Common.{length-append, is_some}
use Rattle.std.specs.List.{slice_get}
use Rattle.std.specs.Prelude.{slice_range}
use Rattle.std.proofs.lemmas.List.{append-nil, map-append}
use Rattle.neli_wire.specs.declared.errors.DeError.{DeError}
use Rattle.neli_wire.specs.Frames.{frame_at}
use Rattle.neli_wire.specs.laws.Frames.{frame_at-frame, frame_of-frame_at}
use Rattle.neli_reader.specs.Agreement.{untyped_layout}
use Rattle.neli_reader.specs.Cuts.{Cut, cut_of, message_before}
use Rattle.neli_reader.specs.laws.Cuts.{cut_of-end, cut_of-fault, cut_of-message, empty_is}
use Rattle.neli_reader.specs.laws.Messages.{layout_with-placed}
use Rattle.neli_lent.specs.Spans.{IsSpan, Spells}
use Rattle.neli_deliveries.specs.declared.delivery.Delivery.{Delivery}
use Rattle.neli_deliveries.specs.declared.delivery.Delivery.TheVariants as delivery
use Rattle.neli_deliveries.specs.Deliveries.{Untyped, datagram_share}
use Rattle.neli_log.specs.declared.entry.Entry.{Entry}
use Rattle.neli_log.specs.Places.{HasReader}
use Rattle.neli_log.specs.Routes.{entry}
use Rattle.neli_log.specs.declared.span.Span.{Span}
use Rattle.neli_log.specs.Spans.{AreApart, AreSpansOf, Apart, IsWithin}
use Rattle.neli_reader.specs.SocketError.TheVariants as socket
use Rattle.neli_log.specs.declared.entry.Route.TheVariants as route
use Rattle.neli_log.specs.declared.content.Content.{Content}
use Rattle.neli_log.specs.declared.next.Address.{Address}
use Rattle.neli_log.specs.Contents.{AreMessages, delivery_of, entry_read, part_of, span_of, spans_of}
use Rattle.neli_log.specs.Routed.{AreAwaited, is_open, message_routed}
use Rattle.neli_log.specs.Staged.{AreDueBefore, AreStaged, HaveReaders, IsFound, deliveries_added}
use Rattle.neli_log.specs.Staged.{entries_due}
use Rattle.neli_log.proofs.Entries.{each_joined, each_one, items_read, spans_append}
use Rattle.neli_log.proofs.Routed.{awaited_items, awaited_more, awaited_skipped, items_routed}

-- ---- a span after others

apart_push : (s : Span) (ss : List Span) (t : Span) (at : ℕ) → s.end ≤ at
    → ((i : ℕ) (x : Span) → slice_get ss i ≡ Some x → x.end ≤ at) → at ≤ t.start → Apart s ss → Apart s (ss ++ t ∷ [])
apart_push s [] t at le before from h = ((λ same. omega arith), tt)
apart_push s (x ∷ xs) t at le before from h = (
  h.0,
  apart_push x xs t at (before 0 x refl)
      (λ i y there. before (suc i) y there) from h.1,
)

are_apart_push : (ss : List Span) (t : Span) (at : ℕ) → ((i : ℕ) (x : Span) → slice_get ss i ≡ Some x → x.end ≤ at)
    → at ≤ t.start → AreApart ss → AreApart (ss ++ t ∷ [])
are_apart_push [] t at before from h = tt
are_apart_push (s ∷ ss) t at before from h = apart_push s ss t at (before 0 s refl)
    (λ i x there. before (suc i) x there) from h

of_further : (serial at at' : ℕ) (ss : List Span) → at ≤ at' → AreSpansOf serial at ss → AreSpansOf serial at' ss
of_further serial at at' ss le h = record {
  one = λ i s there. (let a = h.one i s there in (a.0, (a.1.0, (let b = a.1.1 in omega arith))));
  apart = h.apart;
}

of_push : (serial at : ℕ) (ss : List Span) (t : Span) → t.datagram ≡ serial → at ≤ t.start → t.start ≤ t.end
    → AreSpansOf serial at ss → AreSpansOf serial t.end (ss ++ t ∷ [])
of_push serial at ss t same from le h = record {
  one = each_joined (λ s. (s.datagram ≡ serial) × IsWithin t.end s) ss (t ∷ [])
      (λ i s there. (let a = h.one i s there in (a.0, (a.1.0, (let b = a.1.1 in omega arith)))))
      (each_one (λ s. (s.datagram ≡ serial) × IsWithin t.end s) t (same, (le, omega arith)));
  apart = are_apart_push ss t at (λ i x there. (h.one i x there).1.1) from h.apart;
}

-- ---- stages

module _ (P : Option ℕ → Option (List Content)) (port serial : ℕ) (bytes groups : List ℕ) (cut : Cut Untyped) where
  readers_push : (es : List (Entry Content)) (e : Entry Content) → HasReader P e.route → HaveReaders P es
      → HaveReaders P (es ++ e ∷ [])
  readers_push es e r h = each_joined (λ x. HasReader P x.route) es (e ∷ []) h (each_one (λ x. HasReader P x.route) e r)

  spans_push : (es : List (Entry Content)) (e : Entry Content) → spans_of (es ++ e ∷ []) ≡ spans_of es ++ span_of e.item
  spans_push es e = spans_append es (e ∷ []) ∙ ap (λ ss. spans_of es ++ ss) (append-nil (span_of e.item))

  -- the entry e is that of `d`, which is due before `rest`
  each_push : (es : List (Entry Content)) (e : Entry Content) (d : Entry Delivery) (whole rest : Cut Untyped)
      → AreDueBefore P port bytes groups cut es whole
      → entries_due port P groups whole ≡ d ∷ entries_due port P groups rest
      → entry_read (part_of bytes) e ≡ d → HasReader P e.route
      → AreDueBefore P port bytes groups cut (es ++ e ∷ []) rest
  each_push es e d whole rest h parts is r = (
    h.0 ++ d ∷ [],
    append_assoc h.0 (d ∷ []) (entries_due port P groups rest) ∙ ap (λ ds. h.0 ++ ds) (sym parts) ∙ h.1,
    subst (AreAwaited P (h.0 ++ d ∷ []))
        (ap (λ x. map (entry_read (part_of bytes)) es ++ x ∷ []) (sym is)
        ∙ sym (map-append (entry_read (part_of bytes)) es (e ∷ [])))
        (awaited_more P h.0 (map (entry_read (part_of bytes)) es) d
        (subst (λ x. HasReader P x.route) is r) h.2),
  )

  -- it has no receiver
  each_skip : (es : List (Entry Content)) (d : Entry Delivery) (whole rest : Cut Untyped)
      → AreDueBefore P port bytes groups cut es whole
      → entries_due port P groups whole ≡ d ∷ entries_due port P groups rest
      → (HasReader P d.route → ⊥) → AreDueBefore P port bytes groups cut es rest
  each_skip es d whole rest h parts none = (
    h.0 ++ d ∷ [],
    append_assoc h.0 (d ∷ []) (entries_due port P groups rest) ∙ ap (λ ds. h.0 ++ ds) (sym parts) ∙ h.1,
    awaited_skipped P h.0 (map (entry_read (part_of bytes)) es) d none h.2,
  )

  -- the entry of a message is added
  pub staged_kept : (es : List (Entry Content)) (at : ℕ) (u : Untyped) (rest : Cut Untyped) (e : Entry Content)
      (s : Span) (a : Address) → AreStaged P port serial bytes groups cut es at (message_before u rest)
      → IsFound serial at bytes s u a → entry_read (part_of bytes) e ≡ message_routed port (is_open P) groups u
      → span_of e.item ≡ s ∷ [] → HasReader P e.route
      → AreStaged P port serial bytes groups cut (es ++ e ∷ []) s.end rest
  staged_kept es at u rest e s a h f is has r =
      let spans : spans_of (es ++ e ∷ []) ≡ spans_of es ++ s ∷ [] = spans_push es e
      ∙ ap (λ ss. spans_of es ++ ss) has in
      record {
        each = each_push es e (message_routed port (is_open P) groups u) (message_before u rest) rest h.each refl is r;
        spans = subst (AreSpansOf serial s.end) (sym spans)
            (of_push serial at (spans_of es) s f.datagram f.after f.ordered h.spans);
        messages = subst (AreMessages (part_of bytes)) (sym spans)
            (each_joined (λ x. IsSpan (part_of bytes x)) (spans_of es) (s ∷ []) h.messages
            (each_one (λ x. IsSpan (part_of bytes x)) s (u, f.spells)));
        readers = readers_push es e r h.readers;
      }

  -- the message has no receiver
  pub staged_skipped : (es : List (Entry Content)) (at : ℕ) (u : Untyped) (rest : Cut Untyped) (e : Entry Content)
      (s : Span) (a : Address) → AreStaged P port serial bytes groups cut es at (message_before u rest)
      → IsFound serial at bytes s u a → entry_read (part_of bytes) e ≡ message_routed port (is_open P) groups u
      → (HasReader P e.route → ⊥) → AreStaged P port serial bytes groups cut es s.end rest
  staged_skipped es at u rest e s a h f is none = record {
    each = each_skip es (message_routed port (is_open P) groups u) (message_before u rest) rest h.each refl
        (subst (λ x. HasReader P x.route → ⊥) is none);
    spans = of_further serial at s.end (spans_of es) (let x = f.after in let y = f.ordered in omega arith) h.spans;
    messages = h.messages;
    readers = h.readers;
  }

  -- ---- the fault at the end

  pub staged_fault : (es : List (Entry Content)) (at : ℕ) (c : Content) (fault : DeError)
      → delivery_of (part_of bytes) c ≡ delivery.Fault (socket.De fault) → span_of c ≡ []
      → AreStaged P port serial bytes groups cut es at ([], Some fault) → HasReader P route.Numbers
      → AreStaged P port serial bytes groups cut (es ++ entry c route.Numbers ∷ []) at ([], None)
  staged_fault es at c fault says none h r =
      let e : Entry Content = entry c route.Numbers in
      let spans : spans_of (es ++ e ∷ []) ≡ spans_of es =
      spans_push es e ∙ ap (λ ss. spans_of es ++ ss) none ∙ append-nil (spans_of es) in
      record {
        each = each_push es e (entry (delivery.Fault (socket.De fault)) route.Numbers) ([], Some fault) ([], None)
            h.each refl (ap (λ d. entry d route.Numbers) says) r;
        spans = subst (AreSpansOf serial at) (sym spans) h.spans;
        messages = subst (AreMessages (part_of bytes)) (sym spans) h.messages;
        readers = readers_push es e r h.readers;
      }

  pub staged_unread_fault : (es : List (Entry Content)) (at : ℕ) (fault : DeError)
      → AreStaged P port serial bytes groups cut es at ([], Some fault) → (HasReader P route.Numbers → ⊥)
      → AreStaged P port serial bytes groups cut es at ([], None)
  staged_unread_fault es at fault h none = record {
    each = each_skip es (entry (delivery.Fault (socket.De fault)) route.Numbers) ([], Some fault) ([], None) h.each refl
        none;
    spans = h.spans;
    messages = h.messages;
    readers = h.readers;
  }

  -- all staged before a place is staged before a later one
  pub staged_further : (es : List (Entry Content)) (at at' : ℕ) (rest : Cut Untyped) → at ≤ at'
      → AreStaged P port serial bytes groups cut es at rest → AreStaged P port serial bytes groups cut es at' rest
  staged_further es at at' rest le h = record {
    each = h.each;
    spans = of_further serial at at' (spans_of es) le h.spans;
    messages = h.messages;
    readers = h.readers;
  }

  -- in the end the entries are those of all due deliveries that have a receiver
  pub staged_each : (es : List (Entry Content)) (at : ℕ) → AreStaged P port serial bytes groups cut es at ([], None)
      → AreAwaited P (entries_due port P groups cut) (map (entry_read (part_of bytes)) es)
  staged_each es at h = subst (λ ds. AreAwaited P ds (map (entry_read (part_of bytes)) es))
      (sym (append-nil h.each.0) ∙ h.each.1) h.each.2

  -- so each opened list gains its share
  pub staged_gains : (es : List (Entry Content)) (at : ℕ) → AreStaged P port serial bytes groups cut es at ([], None)
      → (w : Option ℕ) → is_some (P w) ≡ true
      → deliveries_added bytes w es ≡ datagram_share port (is_open P) w cut groups
  staged_gains es at h w opened = sym (items_read (part_of bytes) w es)
      ∙ awaited_items P w opened (entries_due port P groups cut) (map (entry_read (part_of bytes)) es)
      (staged_each es at h) ∙ items_routed port (is_open P) w groups cut

-- ---- the bytes of a message

drop_before : (xs ys : List ℕ) → drop (length xs) (xs ++ ys) ≡ ys
drop_before [] ys = refl
drop_before (x ∷ xs) ys = drop_before xs ys

take_before : (n : ℕ) (xs ys : List ℕ) → n ≡ length xs → take n (xs ++ ys) ≡ xs
take_before zero [] ys h = refl
take_before zero (x ∷ xs) ys h = cc
take_before (suc n) [] ys h = cc
take_before (suc n) (x ∷ xs) ys h = ap (λ zs. x ∷ zs) (take_before n xs ys (omega arith))

-- the bytes between two places of a datagram, if a message was read from the one to the other
pub span_spells : (before s after r : List ℕ) (u : Untyped) → frame_at untyped_layout s ≡ Ok (u, r)
    → after ++ r ≡ before ++ s → Spells (slice_range (before ++ s) (length before) (length after)) u
span_spells before s after r u is same =
    let f = frame_of-frame_at untyped_layout (layout_with-placed (λ n. n) _) s r u.0 u.1 is in
    let total = ap length same in
    let n : length after - length before ≡ length f.0 =
    omega (arith, total, length-append after r, length-append before s, ap length f.1, length-append f.0 r) in
    let text : slice_range (before ++ s) (length before) (length after) ≡ f.0 =
    ap (take (length after - length before)) (drop_before before s) ∙ ap (take (length after - length before)) f.1
    ∙ take_before (length after - length before) f.0 r n in
    rw text (ap (frame_at untyped_layout) (sym (append-nil f.0))
    ∙ frame_at-frame untyped_layout (layout_with-placed (λ n. n) _) f.0 [] u.0 u.1 f.2)

-- its place follows the one where the rest began
pub after_more : (before s after r : List ℕ) → length r ≤ length s → after ++ r ≡ before ++ s
    → length before ≤ length after
after_more before s after r le same = omega (arith, ap length same, length-append after r, length-append before s)

-- the message read is a span of the datagram
pub staged_found : (serial : ℕ) (before s after r : List ℕ) (u : Untyped) (a : Address) (x : Span) → x.datagram ≡ serial
    → x.start ≡ length before → x.end ≡ length after → frame_at untyped_layout s ≡ Ok (u, r) → length r + 16 ≤ length s
    → after ++ r ≡ before ++ s
    → a.number ≡ u.0.sequence_number → a.port ≡ u.0.port → IsFound serial (length before) (before ++ s) x u a
staged_found serial before s after r u a x of start end is short same number port = record {
  datagram = of;
  after = omega (arith, start);
  ordered = (let le = after_more before s after r (omega arith) same in omega (arith, start, end, le));
  spells = rw (start, end) (span_spells before s after r u is same);
  number = number;
  port = port;
}

-- ---- the cut, step by step

pub cut_first : (s r : List ℕ) (u : Untyped) → frame_at untyped_layout s ≡ Ok (u, r)
    → cut_of untyped_layout s ≡ message_before u (cut_of untyped_layout r)
cut_first s r u is = cut_of-message untyped_layout (layout_with-placed (λ n. n) _) (omega arith) s r u is

pub cut_last : (s : List ℕ) (e : DeError) → 0 < length s → frame_at untyped_layout s ≡ Err e
    → cut_of untyped_layout s ≡ ([], Some e)
cut_last s e some is = cut_of-fault untyped_layout (layout_with-placed (λ n. n) _) (omega arith) s e
    (λ none. (let l = ap length none in omega arith)) is

pub cut_done : (s : List ℕ) → length s ≡ 0 → cut_of untyped_layout s ≡ ([], None)
cut_done s none = rw (empty_is s none) (cut_of-end untyped_layout (layout_with-placed (λ n. n) _) (omega arith))

-- a place is within the bytes
pub before_within : (before rest bytes : List ℕ) → before ++ rest ≡ bytes → length before ≤ length bytes
before_within before rest bytes is = omega (arith, ap length is, length-append before rest)
