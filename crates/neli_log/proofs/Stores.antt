-- Entries and the datagrams that they name, together.
use Rattle.std.proofs.Common.{◌≡◌, ℕ, zero, suc, ◌+◌, ◌-◌, ◌<◌, ◌↔◌, Bool, true, false, List, [], ◌∷◌, ◌++◌}
use Rattle.std.proofs.Common.{length, map, drop, Option, Some, None, refl, sym, ap, subst, ◌∙◌, arith}
use Rattle.std.proofs.Common.{inl, inr}
use Rattle.std.proofs.Common.{is_some, option_map}
use Rattle.std.specs.List.{slice_get}
use Rattle.std.specs.Prelude.{slice_range, Result, Ok, Err, OnOk}
use Rattle.std.proofs.lemmas.List.{append-nil, map-append}
use Rattle.neli_reader.specs.Agreement.{untyped_layout}
use Rattle.neli_reader.specs.Cuts.{Cut, cut_of}
use Rattle.neli_reader.specs.SocketError.{SocketError}
use Rattle.neli_lent.specs.Spans.{IsSpan}
use Rattle.neli_deliveries.specs.declared.delivery.Delivery.{Delivery}
use Rattle.neli_deliveries.specs.Deliveries.{Untyped, datagram_share, fault_share, is_would_block}
use Rattle.neli_log.specs.declared.entry.Entry.{Entry}
use Rattle.neli_log.specs.declared.entry.Route.{Route}
use Rattle.neli_log.specs.declared.entry.Route.TheVariants as route
use Rattle.neli_log.specs.declared.place.Place.{Place}
use Rattle.neli_log.specs.declared.places.Places.{Places}
use Rattle.neli_log.specs.Places.{HasReader, entries_of, place_of, rest}
use Rattle.neli_log.specs.Places.{pending_of as items_of, head_of as first_of}
use Rattle.neli_log.specs.Routes.{entry, items_for, leads}
use Rattle.neli_log.specs.declared.span.Span.{Span}
use Rattle.neli_log.specs.declared.datagrams.Datagrams.{Datagrams}
use Rattle.neli_log.specs.Spans.{AreSpansOf, SpansName, next_serial, span_bytes}
use Rattle.neli_log.specs.declared.content.Content.{Content}
use Rattle.neli_deliveries.specs.declared.delivery.Delivery.TheVariants as delivery
use Rattle.neli_log.specs.declared.content.Content.TheVariants as content
use Rattle.neli_log.specs.Contents.{AreBacked, AreMessages, IsReadable, delivery_of, entry_read, part_of}
use Rattle.neli_log.specs.Contents.{span_of}
use Rattle.neli_log.specs.Contents.{spans_of}
use Rattle.neli_log.specs.declared.store.Store.{Store}
use Rattle.neli_log.specs.Log.{Keeps, KeepsEachOnce, entries_read, pending_of}
use Rattle.neli_log.specs.Routed.{AreAwaited, datagram_routed, is_open}
use Rattle.neli_log.specs.Staged.{deliveries_added, entries_due}
use Rattle.neli_log.proofs.Entries.{each_joined, true_or_false, get_end, get_right, items_same}
use Rattle.neli_log.proofs.Entries.{read_same, spans_append}
use Rattle.neli_log.proofs.Routed.{awaited_same, items_routed, routed_nothing, routed_same}

-- ---- lists that are mapped, if they exist

pub mapped_none : {A B : Type 0} (f : A → B) (o : Option A) → option_map f o ≡ None → o ≡ None
mapped_none f None h = refl
mapped_none f (Some x) h = cc

pub mapped_is_some : {A B : Type 0} (f : A → B) (o : Option A) → is_some (option_map f o) ≡ is_some o
mapped_is_some f None = refl
mapped_is_some f (Some x) = refl

pub mapped_some : {A B : Type 0} (f : A → B) (o : Option A) (y : B) → option_map f o ≡ Some y
    → (x : A) × (o ≡ Some x) × (f x ≡ y)
mapped_some f None y h = cc
mapped_some f (Some x) y h = (x, refl, (let s : f x ≡ y = cc in s))

pub mapped_cons : {A B : Type 0} (f : A → B) (xs : List A) (d : B) (ds : List B) → map f xs ≡ d ∷ ds
    → (x : A) × (ys : List A) × (xs ≡ x ∷ ys) × (map f ys ≡ ds)
mapped_cons f [] d ds h = cc
mapped_cons f (x ∷ xs) d ds h = (x, xs, refl, (let s : map f xs ≡ ds = cc in s))

-- without its first item
pub mapped_taken : {A B : Type 0} (f : A → B) (o o' : Option (List A)) (d : B) (ds : List B)
    → option_map (map f) o ≡ Some (d ∷ ds) → ((x : A) (xs : List A) → o ≡ Some (x ∷ xs) → o' ≡ Some xs)
    → option_map (map f) o' ≡ Some ds
mapped_taken f o o' d ds h next =
    let a = mapped_some (map f) o (d ∷ ds) h in
    let b = mapped_cons f a.0 d ds a.2 in
    let n = next b.0 b.1 (a.1 ∙ ap (λ xs. Some xs) b.2) in
    rw n (ap (λ xs. Some xs) b.3)

-- no item remains exactly if no delivery does
pub mapped_empty : {A B : Type 0} (f : A → B) (P : Option ℕ → Option (List A))
    → ((w : Option ℕ) (xs : List A) → P w ≡ Some xs → xs ≡ []) ↔ ((w : Option ℕ) (ds : List B)
    → option_map (map f) (P w) ≡ Some ds → ds ≡ [])
mapped_empty {A = A} {B = B} f P = (
  (λ all w ds is. (let m = mapped_some (map f) (P w) ds is in sym m.2 ∙ ap (map f) (all w m.0 m.1))),
  (λ all w xs is. none xs (all w (map f xs) (ap (option_map (map f)) is))),
)
  where
    none : (xs : List A) → map f xs ≡ [] → xs ≡ []
    none [] h = refl
    none (x ∷ xs) h = cc

pub mapped_more : (f : Content → Delivery) (o : Option (List Content)) (a b : List Delivery)
    → (is_some o ≡ true → a ≡ b) → option_map (λ ds. ds ++ a) (option_map (map f) o)
    ≡ option_map (λ ds. ds ++ b) (option_map (map f) o)
mapped_more f None a b h = refl
mapped_more f (Some xs) a b h = ap (λ zs. Some (map f xs ++ zs)) (h refl)

pub mapped_nothing : (f : Content → Delivery) (o : Option (List Content)) (a : List Delivery)
    → (is_some o ≡ true → [] ≡ a) → option_map (map f) o ≡ option_map (λ ds. ds ++ a) (option_map (map f) o)
mapped_nothing f None a h = refl
mapped_nothing f (Some xs) a h = ap (λ zs. Some zs) (sym (append-nil (map f xs)) ∙ ap (λ zs. map f xs ++ zs) (h refl))

-- ---- spans among entries

-- a span of later entries is one of all
pub span_dropped : (k : ℕ) (es : List (Entry Content)) (i : ℕ) (x : Span) → slice_get (spans_of (drop k es)) i ≡ Some x
    → (j : ℕ) × (slice_get (spans_of es) j ≡ Some x)
span_dropped zero es i x at = (i, at)
span_dropped (suc k) [] i x at = cc
span_dropped (suc k) (e ∷ es) i x at =
    let r = span_dropped k es i x at in
    let j : length (span_of e.item) + r.0 - length (span_of e.item) ≡ r.0 = omega arith in (
      length (span_of e.item) + r.0,
      get_right (span_of e.item) (spans_of es) (length (span_of e.item) + r.0)
          (omega arith) ∙ (rw j r.1),
    )

-- the span of the first item of a list is one of the entries'
pub item_span : (w : Option ℕ) (es : List (Entry Content)) (c : Content) (cs : List Content) (x : Span)
    → items_for w es ≡ c ∷ cs → span_of c ≡ x ∷ [] → (j : ℕ) × (slice_get (spans_of es) j ≡ Some x)
item_span w [] c cs x is has = cc
item_span w (e ∷ es) c cs x is has = elim (true_or_false (leads w e.route)) [
  | inl it ↦ (let a = rw it at is in let same : e.item ≡ c = cc in (0, rw (same, has) refl))
  | inr it ↦ (let r = item_span w es c cs x (rw it at is) has in
      let j : length (span_of e.item) + r.0 - length (span_of e.item) ≡ r.0 = omega arith in (
        length (span_of e.item) + r.0,
        get_right (span_of e.item) (spans_of es) (length (span_of e.item) + r.0)
            (omega arith) ∙ (rw j r.1),
      ))
]

first_span : (base : ℕ) (es : List (Entry Content)) (w : Option ℕ) (o : Option Place) (c : Content) (x : Span)
    → Some c ≡ first_of (option_map (λ p. items_for w (rest base es p)) o) → span_of c ≡ x ∷ []
    → (j : ℕ) × (slice_get (spans_of es) j ≡ Some x)
first_span base es w None c x is has = cc
first_span base es w (Some p) c x is has =
    let l = list (items_for w (rest base es p)) is in
    let r = item_span w (rest base es p) c l.0 x l.1 has in
    span_dropped (p.from - base) es r.0 x r.1
  where
    list : (xs : List Content) → Some c ≡ first_of (Some xs) → (cs : List Content) × (xs ≡ c ∷ cs)
    list [] h = cc
    list (y ∷ ys) h = (ys, (let s : y ≡ c = cc in ap (λ z. z ∷ ys) s))

-- the first delivery that waits can be read
pub first_readable : (s : Places Content) (d : Datagrams) (w : Option ℕ) (c : Content) → AreBacked d (entries_of s)
    → Some c ≡ first_of (items_of s w) → IsReadable d c
first_readable s d w (content.Message x) h is = (let j = first_span s.base (entries_of s) w (place_of s w)
    (content.Message x) x is refl in ((spans_of (entries_of s), j.0, h.names, j.1), h.messages j.0 x j.1))
first_readable s d w (content.Stray x) h is = (let j = first_span s.base (entries_of s) w (place_of s w)
    (content.Stray x) x is refl in ((spans_of (entries_of s), j.0, h.names, j.1), h.messages j.0 x j.1))
first_readable s d w (content.Fault e) h is = tt

-- ---- an entry is removed, with its span

module _ (s s' : Places Content) (d d' : Datagrams) (c : Content) (r : Route)
    (taken : entries_of s ≡ entry c r ∷ entries_of s') (same : (w : Option ℕ)
    → items_of s' w ≡ items_of s w) (backed : AreBacked d (entries_of s)) where
  pub released_names : SpansName d (span_of c ++ spans_of (entries_of s'))
  released_names = subst (λ es. SpansName d (spans_of es)) taken backed.names

  released_messages : AreMessages (span_bytes d) (spans_of (entries_of s'))
  released_messages i x at =
      let all = subst (λ es. AreMessages (span_bytes d) (spans_of es)) taken backed.messages in
      let j : length (span_of c) + i - length (span_of c) ≡ i = omega arith in
      all (length (span_of c) + i) x (get_right (span_of c) (spans_of (entries_of s')) (length (span_of c) + i)
      (omega arith) ∙ (rw j at))

  module _ (names : (ss : List Span) → SpansName d (span_of c ++ ss) → SpansName d' ss)
      (texts : (ss : List Span) (i : ℕ) (x : Span) → SpansName d (span_of c ++ ss) → slice_get ss i ≡ Some x
      → span_bytes d' x ≡ span_bytes d x) where
    pub released_backed : AreBacked d' (entries_of s')
    released_backed = record {
      names = names (spans_of (entries_of s')) released_names;
      messages = λ i x at. subst IsSpan (sym (texts (spans_of (entries_of s')) i x released_names at))
          (released_messages i x at);
    }

    pub released_pending : (w : Option ℕ) → option_map (map (delivery_of (span_bytes d'))) (items_of s' w)
        ≡ option_map (map (delivery_of (span_bytes d))) (items_of s w)
    released_pending w = by (place_of s' w) ∙ ap (option_map (map (delivery_of (span_bytes d)))) (same w)
      where
        by : (o : Option Place) → option_map (map (delivery_of (span_bytes d')))
            (option_map (λ p. items_for w (rest s'.base (entries_of s') p)) o)
            ≡ option_map (map (delivery_of (span_bytes d)))
            (option_map (λ p. items_for w (rest s'.base (entries_of s') p)) o)
        by None = refl
        by (Some p) = ap (λ ds. Some ds) (items_same (span_bytes d) (span_bytes d') w (rest s'.base (entries_of s') p)
            (λ i x at. (let j = span_dropped (p.from - s'.base) (entries_of s') i x at in
            texts (spans_of (entries_of s')) j.0 x released_names j.1)))

-- ---- entries are added, and their datagram

module _ (s s' : Places Content) (d d' : Datagrams) (bytes : List ℕ) (es : List (Entry Content))
    (entries : entries_of s' ≡ entries_of s ++ es) (more : (w : Option ℕ)
    → items_of s' w ≡ option_map (λ xs. xs ++ items_for w es) (items_of s w))
    (spans : AreSpansOf (next_serial d) (length bytes) (spans_of es))
    (messages : AreMessages (part_of bytes) (spans_of es))
    (backed : AreBacked d (entries_of s))
    (names : (old new : List Span) → SpansName d old → AreSpansOf (next_serial d) (length bytes) new
    → length new ≡ length (spans_of es) → SpansName d' (old ++ new))
    (texts : (old : List Span) (i : ℕ) (x : Span) → SpansName d old → slice_get old i ≡ Some x
    → span_bytes d' x ≡ span_bytes d x)
    (new_span : (x : Span) → 0 < length (spans_of es) → x.datagram ≡ next_serial d
    → span_bytes d' x ≡ slice_range bytes x.start x.end) where
  kept_text : (i : ℕ) (x : Span) → slice_get (spans_of (entries_of s)) i ≡ Some x → span_bytes d' x ≡ span_bytes d x
  kept_text i x at = texts (spans_of (entries_of s)) i x backed.names at

  added_text : (i : ℕ) (x : Span) → slice_get (spans_of es) i ≡ Some x → span_bytes d' x ≡ part_of bytes x
  added_text i x at = new_span x (let e = get_end (spans_of es) i x at in omega arith) (spans.one i x at).0

  pub handed_backed : AreBacked d' (entries_of s')
  handed_backed = rw entries (record {
    names = rw (spans_append (entries_of s) es) (names (spans_of (entries_of s)) (spans_of es) backed.names spans refl);
    messages = rw (spans_append (entries_of s) es) (each_joined (λ x. IsSpan (span_bytes d' x))
        (spans_of (entries_of s)) (spans_of es)
        (λ i x at. subst IsSpan (sym (kept_text i x at)) (backed.messages i x at))
        (λ i x at. subst IsSpan (sym (added_text i x at)) (messages i x at)));
  })

  pub handed_read : map (entry_read (span_bytes d')) (entries_of s')
      ≡ map (entry_read (span_bytes d)) (entries_of s) ++ map (entry_read (part_of bytes)) es
  handed_read = ap (map (entry_read (span_bytes d'))) entries
      ∙ map-append (entry_read (span_bytes d')) (entries_of s) es
      ∙ ap (λ xs. xs ++ map (entry_read (span_bytes d')) es)
      (read_same (span_bytes d) (span_bytes d') (entries_of s) kept_text)
      ∙ ap (λ xs. map (entry_read (span_bytes d)) (entries_of s) ++ xs)
      (read_same (part_of bytes) (span_bytes d') es added_text)

  pub handed_pending : (w : Option ℕ) → option_map (map (delivery_of (span_bytes d'))) (items_of s' w)
      ≡ option_map (λ ds. ds ++ deliveries_added bytes w es)
      (option_map (map (delivery_of (span_bytes d))) (items_of s w))
  handed_pending w = ap (option_map (map (delivery_of (span_bytes d')))) (more w) ∙ by (place_of s w)
    where
      new : map (delivery_of (span_bytes d')) (items_for w es) ≡ deliveries_added bytes w es
      new = items_same (part_of bytes) (span_bytes d') w es added_text

      by : (o : Option Place) → option_map (map (delivery_of (span_bytes d')))
          (option_map (λ xs. xs ++ items_for w es) (option_map (λ p. items_for w (rest s.base (entries_of s) p)) o))
          ≡ option_map (λ ds. ds ++ deliveries_added bytes w es)
          (option_map (map (delivery_of (span_bytes d)))
          (option_map (λ p. items_for w (rest s.base (entries_of s) p)) o))
      by None = refl
      by (Some p) =
          let old : List Content = items_for w (rest s.base (entries_of s) p) in
          let first : map (delivery_of (span_bytes d')) old ≡ map (delivery_of (span_bytes d)) old =
          items_same (span_bytes d) (span_bytes d') w (rest s.base (entries_of s) p)
          (λ i x at. (let j = span_dropped (p.from - s.base) (entries_of s) i x at in kept_text j.0 x j.1)) in
          ap (λ ds. Some ds) (map-append (delivery_of (span_bytes d')) old (items_for w es)
          ∙ ap (λ ds. ds ++ map (delivery_of (span_bytes d')) (items_for w es)) first
          ∙ ap (λ ds. map (delivery_of (span_bytes d)) old ++ ds) new)

-- ---- deliveries that are due

-- the lists of deliveries and those of entries state the same open numbers
pub due_same : (s : Store) (groups : List ℕ) (cut : Cut Untyped) → entries_due s.port (items_of s.places) groups cut
    ≡ datagram_routed s.port (is_open (pending_of s)) groups cut
due_same s groups cut = routed_same s.port (is_open (items_of s.places)) (is_open (pending_of s))
    (λ q. sym (mapped_is_some (map (delivery_of (span_bytes s.datagrams))) (items_of s.places (Some q)))) groups cut

-- and the same due share of each list
pub share_same : (s : Store) (w : Option ℕ) (groups : List ℕ) (cut : Cut Untyped)
    → datagram_share s.port (is_open (items_of s.places)) w cut groups
    ≡ datagram_share s.port (is_open (pending_of s)) w cut groups
share_same s w groups cut = sym (items_routed s.port (is_open (items_of s.places)) w groups cut)
    ∙ ap (items_for w) (due_same s groups cut)
    ∙ items_routed s.port (is_open (pending_of s)) w groups cut

-- an empty datagram brings nothing
pub received_nothing : (port : ℕ) (o : ℕ → Bool) (w : Option ℕ) (groups : List ℕ)
    → [] ≡ datagram_share port o w (cut_of untyped_layout []) groups
received_nothing port o w groups = sym (ap (items_for w) (routed_nothing port o groups))
    ∙ items_routed port o w groups (cut_of untyped_layout [])

-- ---- a fault of the link

pub blocked_brings : (w : Option ℕ) (e : SocketError) → is_would_block e ≡ true → [] ≡ fault_share w e
blocked_brings None e h = refl
blocked_brings (Some q) e h = rw h refl

pub unread_brings : (P : Option ℕ → Option (List Content)) (w : Option ℕ) (e : SocketError)
    → (HasReader P route.Numbers → ⊥) → is_some (P w) ≡ true → [] ≡ fault_share w e
unread_brings P None e none opened = refl
unread_brings P (Some q) e none opened = absurd (none (Some q, opened, refl))

pub fault_brings : (text : Span → List ℕ) (w : Option ℕ) (c : Content) (e : SocketError)
    → delivery_of text c ≡ delivery.Fault e → is_would_block e ≡ false
    → map (delivery_of text) (items_for w (record { item = c; route = route.Numbers } ∷ [])) ≡ fault_share w e
fault_brings text None c e says h = refl
fault_brings text (Some q) c e says h = rw (h, says) refl

pub fault_pending : (text : Span → List ℕ) (w : Option ℕ) (c : Content) (e : SocketError)
    (o o' : Option (List Content)) → delivery_of text c ≡ delivery.Fault e
    → is_would_block e ≡ false → o' ≡ option_map (λ xs. xs ++ items_for w
    (record { item = c; route = route.Numbers } ∷ [])) o
    → option_map (map (delivery_of text)) o' ≡ option_map (λ ds. ds ++ fault_share w e)
    (option_map (map (delivery_of text)) o)
fault_pending text w c e o o' says h is = rw is (by o)
  where
    by : (o : Option (List Content)) → option_map (map (delivery_of text))
        (option_map (λ xs. xs ++ items_for w (record { item = c; route = route.Numbers } ∷ [])) o)
        ≡ option_map (λ ds. ds ++ fault_share w e) (option_map (map (delivery_of text)) o)
    by None = refl
    by (Some xs) = ap (λ ds. Some ds) (map-append (delivery_of text) xs
        (items_for w (record { item = c; route = route.Numbers } ∷ []))
        ∙ ap (λ ds. map (delivery_of text) xs ++ ds) (fault_brings text w c e says h))

pub fault_spans : (es : List (Entry Content)) (c : Content) → span_of c ≡ []
    → spans_of (es ++ record { item = c; route = route.Numbers } ∷ []) ≡ spans_of es
fault_spans es c none = spans_append es (record { item = c; route = route.Numbers } ∷ [])
    ∙ ap (λ ss. spans_of es ++ (ss ++ [])) none ∙ append-nil (spans_of es)

pub fault_backed : (d : Datagrams) (es es' : List (Entry Content)) (c : Content) → span_of c ≡ []
    → es' ≡ es ++ record { item = c; route = route.Numbers } ∷ [] → AreBacked d es → AreBacked d es'
fault_backed d es es' c none is h = rw is (record {
  names = rw (fault_spans es c none) h.names;
  messages = rw (fault_spans es c none) h.messages;
})

-- ---- a result

pub on_ok : {A E : Type 0} (r : Result A E) (X Y : Type 0) → (X → Y) → OnOk r X → OnOk r Y
on_ok (Ok a) X Y f h = f h
on_ok (Err e) X Y f h = tt

-- ---- unchanged parts of a call

pub keeps_none : (s : Store) (bytes : List ℕ) → Keeps s s bytes []
keeps_none s bytes = record {
  entries = sym (append-nil (entries_of s.places));
  readers = λ i e at. cc;
  counted = omega arith;
}

-- the deliveries that have a receiver are those that some list of the log gets
pub awaited_open : (s : Store) (ds es : List (Entry Delivery)) → AreAwaited (items_of s.places) ds es
    → AreAwaited (pending_of s) ds es
awaited_open s ds es h = awaited_same (items_of s.places) (pending_of s)
    (λ w. mapped_is_some (map (delivery_of (span_bytes s.datagrams))) (items_of s.places w)) ds es h

pub keeps_once_none : (s : Store) (ds : List (Entry Delivery)) → AreAwaited (items_of s.places) ds []
    → KeepsEachOnce s s ds
keeps_once_none s ds h = ([], awaited_open s ds [] h, sym (append-nil (entries_read s)))

-- ---- a list is emptied

-- the number that wait
abbrev pub waiting_count : {A : Type 0} → Option (List A) → ℕ
waiting_count None = 0
waiting_count (Some xs) = length xs

-- a delivery waits if an item does
pub something_waits : {A B C : Type 0} (f : A → B) (g : C → A) (first : Option C) (o : Option (List A))
    → option_map g first ≡ first_of o → is_some first ≡ true
    → (d : B) × (ds : List B) × (option_map (map f) o ≡ Some (d ∷ ds))
something_waits f g None o e is = cc
something_waits f g (Some c) None e is = cc
something_waits f g (Some c) (Some []) e is = cc
something_waits f g (Some c) (Some (x ∷ xs)) e is = (f x, map f xs, refl)

-- no delivery waits if no item does
pub nothing_waits : {A B C : Type 0} (f : A → B) (g : C → A) (first : Option C) (o : Option (List A))
    (old : Option (List B)) → option_map g first ≡ first_of o → is_some first ≡ false
    → is_some (option_map (map f) o) ≡ is_some old → option_map (map f) o ≡ option_map (λ _. []) old
nothing_waits f g (Some c) o old e none is = cc
nothing_waits f g None None None e none there = refl
nothing_waits f g None None (Some xs) e none is = cc
nothing_waits f g None (Some []) None e none is = cc
nothing_waits f g None (Some []) (Some xs) e none there = refl
nothing_waits f g None (Some (x ∷ xs)) old e none is = cc
