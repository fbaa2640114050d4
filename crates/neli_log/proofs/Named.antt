-- Spans and their datagrams.
use Rattle.std.proofs.Common.{ℕ, zero, suc, ◌≡◌, ◌≢◌, ◌+◌, ◌-◌, ◌≤◌, ◌<◌, ◌^◌, List, [], ◌∷◌, ◌++◌}
use Rattle.std.proofs.Common.{length, drop, map}
use Rattle.std.proofs.Common.{get_or, Some, refl, sym, ap, ◌∙◌, inl, inr, ◌⊎◌, arith, add-one, append_assoc}
use Rattle.std.proofs.Common.{length-append}
use Rattle.std.specs.List.{slice_get}
use Rattle.std.proofs.Math.ListN.{set}
use Rattle.std.proofs.lemmas.Bool.{cases_lt}
use Rattle.std.proofs.lemmas.List.{map-append, append-nil}
use Rattle.neli_log.specs.declared.span.Span.{Span}
use Rattle.neli_log.specs.declared.span.Datagram.{Datagram}
use Rattle.std.specs.Prelude.{slice_range}
use Rattle.neli_log.specs.Spans.{span_bytes_in, copies, serials_by_span, Apart, AreApart, SpansNameFrom}
use Rattle.neli_log.specs.Spans.{AreSpansOf}

apart_tail : (s : Span) (ss : List Span) → Apart s ss → AreApart ss
apart_tail s [] h = tt
apart_tail s (t ∷ ts) h = h.1

tail_same : (x y : ℕ) (xs ys : List ℕ) → x ∷ xs ≡ y ∷ ys → xs ≡ ys
tail_same x y xs ys h = cc

-- the last span of the first datagram is removed
pub released_last : (first : ℕ) (d : Datagram) (ds : List Datagram) (s : Span) (ss : List Span) → d.spans ≡ 1
    → SpansNameFrom first (d ∷ ds) (s ∷ ss) → SpansNameFrom (first + 1) ds ss
released_last first d ds s ss one h = record {
  fits = (let a = h.fits in omega arith);
  serials = (let a = rw one at h.serials in rw add-one
      (tail_same s.datagram first (map (λ s. s.datagram) ss) (serials_by_span (suc first) ds) a));
  some = λ i x at. h.some (suc i) x at;
  apart = apart_tail s ss h.apart;
  within = λ i j t x at is there. h.within (suc i) (suc j) t x at (omega (arith, is)) there;
}

-- another span of it is removed
pub released_one : (first n : ℕ) (d d' : Datagram) (ds : List Datagram) (s : Span) (ss : List Span)
    → d.spans ≡ suc (suc n) → d'.spans ≡ suc n → d'.bytes ≡ d.bytes → SpansNameFrom first (d ∷ ds) (s ∷ ss)
    → SpansNameFrom first (d' ∷ ds) ss
released_one first n d d' ds s ss more less same h = record {
  fits = h.fits;
  serials = (let a = rw more at h.serials in rw less (tail_same s.datagram first (map (λ s. s.datagram) ss)
      (first ∷ copies n first ++ serials_by_span (suc first) ds) a));
  some = some_of h.some;
  apart = apart_tail s ss h.apart;
  within = within_of h.within;
}
  where
    some_of : ((i : ℕ) (x : Datagram) → slice_get (d ∷ ds) i ≡ Some x → 0 < x.spans) → (i : ℕ) (x : Datagram)
        → slice_get (d' ∷ ds) i ≡ Some x → 0 < x.spans
    some_of g zero x at = (let f : d' ≡ x = cc in let e : suc n ≡ x.spans = sym less ∙ ap (λ y. y.spans) f in
        omega arith)
    some_of g (suc i) x at = g (suc i) x at

    within_of : ((i j : ℕ) (t : Span) (x : Datagram) → slice_get (s ∷ ss) i ≡ Some t → t.datagram ≡ first + j
        → slice_get (d ∷ ds) j ≡ Some x → (t.start ≤ t.end) × (t.end ≤ length x.bytes.items))
        → (i j : ℕ) (t : Span) (x : Datagram) → slice_get ss i ≡ Some t → t.datagram ≡ first + j
        → slice_get (d' ∷ ds) j ≡ Some x → (t.start ≤ t.end) × (t.end ≤ length x.bytes.items)
    within_of g i zero t x at is there =
        let f : d' ≡ x = cc in
        let e : d.bytes ≡ x.bytes = sym same ∙ ap (λ y. y.bytes) f in
        let r = g (suc i) zero t d at is refl in
        (r.0, (let l = ap (λ b. length b.items) e in let r1 = r.1 in omega (arith, l)))
    within_of g i (suc j) t x at is there = g (suc i) (suc j) t x at is there

laid_push : (n : ℕ) (ds : List Datagram) (x : Datagram)
    → serials_by_span n (ds ++ x ∷ []) ≡ serials_by_span n ds ++ copies x.spans (n + length ds)
laid_push n [] x = (let s : n + 0 ≡ n = omega arith in rw s (append-nil (copies x.spans n)))
laid_push n (d ∷ ds) x =
    let s : n + suc (length ds) ≡ suc n + length ds = omega arith in
    rw s (ap (λ l. copies d.spans n ++ l) (laid_push (suc n) ds x)
    ∙ sym (append_assoc (copies d.spans n) (serials_by_span (suc n) ds) (copies x.spans (suc n + length ds))))

of_serials : (serial : ℕ) (ss : List Span) → ((i : ℕ) (s : Span) → slice_get ss i ≡ Some s → s.datagram ≡ serial)
    → map (λ s. s.datagram) ss ≡ copies (length ss) serial
of_serials serial [] h = refl
of_serials serial (s ∷ ss) h = rw (h 0 s refl, of_serials serial ss (λ i t at. h (suc i) t at)) refl

-- each serial number that is named
bound_repeated : (k n m i : ℕ) (rest : List ℕ) → slice_get (copies k n ++ rest) i ≡ Some m
    → (m ≡ n) ⊎ ((j : ℕ) × (slice_get rest j ≡ Some m))
bound_repeated zero n m i rest h = inr (i, h)
bound_repeated (suc k) n m zero rest h = inl (let f : n ≡ m = cc in sym f)
bound_repeated (suc k) n m (suc i) rest h = bound_repeated k n m i rest h

pub laid_bound : (n : ℕ) (ds : List Datagram) (i m : ℕ) → slice_get (serials_by_span n ds) i ≡ Some m
    → (n ≤ m) × (m < n + length ds)
laid_bound n [] i m h = cc
laid_bound n (d ∷ ds) i m h = elim (bound_repeated d.spans n m i (serials_by_span (suc n) ds) h) [
  | inl same ↦ (omega arith, omega arith)
  | inr more ↦ (let r = laid_bound (suc n) ds more.0 m more.1 in let a = r.0 in let b = r.1 in
      (omega arith, omega arith))
]

get_map : (ss : List Span) (i : ℕ) (s : Span) → slice_get ss i ≡ Some s
    → slice_get (map (λ s. s.datagram) ss) i ≡ Some s.datagram
get_map [] i s h = cc
get_map (t ∷ ts) zero s h = let f : t ≡ s = cc in ap (λ x. Some x.datagram) f
get_map (t ∷ ts) (suc i) s h = get_map ts i s h

-- the datagram of each span is kept
pub named_bound : (first : ℕ) (ds : List Datagram) (ss : List Span) (i : ℕ) (s : Span) → SpansNameFrom first ds ss
    → slice_get ss i ≡ Some s → (first ≤ s.datagram) × (s.datagram < first + length ds)
named_bound first ds ss i s h at = laid_bound first ds i s.datagram (rw (← h.serials) (get_map ss i s at))

get_left : {A : Type 0} (xs ys : List A) (i : ℕ) → i < length xs → slice_get (xs ++ ys) i ≡ slice_get xs i
get_left [] ys i h = absurd (omega arith)
get_left (x ∷ xs) ys zero h = refl
get_left (x ∷ xs) ys (suc i) h = get_left xs ys i (omega arith)

get_right : {A : Type 0} (xs ys : List A) (i : ℕ) → length xs ≤ i
    → slice_get (xs ++ ys) i ≡ slice_get ys (i - length xs)
get_right [] ys i h = let s : i - 0 ≡ i = omega arith in rw s refl
get_right (x ∷ xs) ys zero h = absurd (omega arith)
get_right (x ∷ xs) ys (suc i) h = let s : suc i - suc (length xs) ≡ i - length xs = omega arith in
    rw s (get_right xs ys i (omega arith))

get_end : {A : Type 0} (xs : List A) (i : ℕ) (x : A) → slice_get xs i ≡ Some x → i < length xs
get_end [] i x h = cc
get_end (y ∷ ys) zero x h = omega arith
get_end (y ∷ ys) (suc i) x h = let f = get_end ys i x h in omega arith

pub get_here : {A : Type 0} (xs : List A) (i : ℕ) → i < length xs → (x : A) × (slice_get xs i ≡ Some x)
get_here [] i h = absurd (omega arith)
get_here (x ∷ xs) zero h = (x, refl)
get_here (x ∷ xs) (suc i) h = get_here xs i (omega arith)

apart_from : (serial : ℕ) (s : Span) (new : List Span) → s.datagram < serial
    → ((i : ℕ) (t : Span) → slice_get new i ≡ Some t → t.datagram ≡ serial) → AreApart new → Apart s new
apart_from serial s [] lt of h = tt
apart_from serial s (t ∷ ts) lt of h = ((λ e. (let f = of 0 t refl in absurd (omega arith))), h)

apart_join : (serial : ℕ) (s : Span) (old new : List Span) → s.datagram < serial
    → ((i : ℕ) (t : Span) → slice_get old i ≡ Some t → t.datagram < serial)
    → ((i : ℕ) (t : Span) → slice_get new i ≡ Some t → t.datagram ≡ serial) → Apart s old → AreApart new
    → Apart s (old ++ new)
apart_join serial s [] new lt low of h g = apart_from serial s new lt of g
apart_join serial s (t ∷ ts) new lt low of h g = (
  h.0,
  apart_join serial t ts new (low 0 t refl) (λ i u at. low (suc i) u at) of h.1 g,
)

apart_append : (serial : ℕ) (old new : List Span) → ((i : ℕ) (t : Span) → slice_get old i ≡ Some t
    → t.datagram < serial) → ((i : ℕ) (t : Span) → slice_get new i ≡ Some t → t.datagram ≡ serial) → AreApart old
    → AreApart new → AreApart (old ++ new)
apart_append serial [] new low of h g = g
apart_append serial (s ∷ ss) new low of h g = apart_join serial s ss new (low 0 s refl)
    (λ i t at. low (suc i) t at) of h g

-- a datagram is added, with its spans after all others
pub kept : (first : ℕ) (ds ds' : List Datagram) (x : Datagram) (old new : List Span) → ds' ≡ ds ++ x ∷ []
    → first + length ds + 1 < 2 ^ 64 → 0 < x.spans → length new ≡ x.spans
    → AreSpansOf (first + length ds) (length x.bytes.items) new → SpansNameFrom first ds old
    → SpansNameFrom first ds' (old ++ new)
kept first ds ds' x old new is few some long of h = rw is (record {
  fits = (let a = length-append ds (x ∷ []) in omega (arith, a, few));
  serials = map-append (λ s. s.datagram) old new ∙ (rw (
    h.serials,
    of_serials (first + length ds) new (λ i s at. (of.one i s at).0),
    long,
  ) (sym (laid_push first ds x)));
  some = some_of;
  apart = apart_append (first + length ds) old new (λ i t at. (named_bound first ds old i t h at).1)
      (λ i t at. (of.one i t at).0) h.apart of.apart;
  within = within_of;
})
  where
    some_of : (i : ℕ) (y : Datagram) → slice_get (ds ++ x ∷ []) i ≡ Some y → 0 < y.spans
    some_of i y at = elim (cases_lt i (length ds)) [
      | inl lt ↦ h.some i y (rw (get_left ds (x ∷ []) i lt) at at)
      | inr ge ↦ (let a = rw (get_right ds (x ∷ []) i ge) at at in let e = get_end (x ∷ []) (i - length ds) y a in
          let z : i - length ds ≡ 0 = omega arith in let b = rw z at a in let f : x ≡ y = cc in
          let g = ap (λ d. d.spans) f in omega (arith, g, some))
    ]

    within_of : (i j : ℕ) (s : Span) (y : Datagram) → slice_get (old ++ new) i ≡ Some s → s.datagram ≡ first + j
        → slice_get (ds ++ x ∷ []) j ≡ Some y → (s.start ≤ s.end) × (s.end ≤ length y.bytes.items)
    within_of i j s y at is' there = elim (cases_lt i (length old)) [
      | inl lt ↦
          let a = rw (get_left old new i lt) at at in
          let b = (named_bound first ds old i s h a).1 in
          let l : j < length ds = omega (arith, b, is') in
          h.within i j s y a is' (rw (get_left ds (x ∷ []) j l) at there)
      | inr ge ↦
          let a = rw (get_right old new i ge) at at in
          let o = of.one (i - length old) s a in
          let j_is : j ≡ length ds = (let o0 = o.0 in omega (arith, is')) in
          let c = rw (get_right ds (x ∷ []) j (omega arith)) at there in
          let z : j - length ds ≡ 0 = omega arith in
          let d = rw z at c in
          let f : x ≡ y = cc in
          let g = ap (λ d. length d.bytes.items) f in
          (o.1.0, (let o2 = o.1.1 in omega (arith, g)))
    ]

pub front_is : (ds : List Datagram) (x : Datagram) → 0 < length ds → x ≡ get_or ds 0 x
    → (es : List Datagram) × (ds ≡ x ∷ es)
front_is [] x l h = absurd (omega arith)
front_is (d ∷ ds) x l h = (ds, ap (λ y. y ∷ ds) (sym h))

pub released_pop : (first : ℕ) (d : Datagram) (es items items' : List Datagram) (s : Span) (ss : List Span)
    → items ≡ d ∷ es → items' ≡ drop 1 items → d.spans ≡ 1 → SpansNameFrom first items (s ∷ ss)
    → SpansNameFrom (first + 1) items' ss
released_pop first d es items items' s ss is rest one h = let f : items' ≡ es = rest ∙ ap (drop 1) is in
    rw f (released_last first d es s ss one (rw is at h))

pub released_set : (first : ℕ) (d x d' : Datagram) (es items : List Datagram) (s : Span) (ss : List Span)
    → items ≡ d ∷ es → x ≡ get_or items 0 x → d'.bytes ≡ x.bytes → d'.spans ≡ x.spans - 1 → d.spans ≢ 1
    → SpansNameFrom first items (s ∷ ss) → SpansNameFrom first (set items 0 d') ss
released_set first d x d' es items s ss is read bytes less more h =
    let same : x ≡ d = (let a = rw is at read in a) in
    let g = rw is at h in
    let up = g.some 0 d refl in
    let n : d.spans ≡ suc (suc (d.spans - 2)) = omega arith in
    let e = ap (λ y. y.spans) same in
    let m : d'.spans ≡ suc (d.spans - 2) = omega (arith, less, e) in
    rw is (released_one first (d.spans - 2) d d' es s ss n m (bytes ∙ ap (λ y. y.bytes) same) g)

-- the datagram of a span, and its bounds there
pub span_in : (first : ℕ) (ds : List Datagram) (ss : List Span) (i : ℕ) (s : Span) → SpansNameFrom first ds ss
    → slice_get ss i ≡ Some s
    → (x : Datagram) × (slice_get ds (s.datagram - first) ≡ Some x) × (first ≤ s.datagram)
    × (s.datagram - first < length ds) × (s.start ≤ s.end) × (s.end ≤ length x.bytes.items)
span_in first ds ss i s h at =
    let b = named_bound first ds ss i s h at in
    let b0 = b.0 in let b1 = b.1 in
    let lt : s.datagram - first < length ds = omega arith in
    let x = get_here ds (s.datagram - first) lt in
    let w = h.within i (s.datagram - first) s x.0 at (omega arith) x.1 in
    (x.0, x.1, b0, lt, w.0, w.1)

pub same_read : (ds : List Datagram) (i : ℕ) (x y : Datagram) → slice_get ds i ≡ Some x → slice_get ds i ≡ Some y
    → x ≡ y
same_read ds i x y a b = cc

pub text_read : (s : Span) (ds : List Datagram) (i : ℕ) (x : Datagram) (bytes : List ℕ) {text : List ℕ}
    → slice_get ds i ≡ Some x → bytes ≡ x.bytes.items → text ≡ slice_range bytes s.start s.end
    → text ≡ span_bytes_in s (slice_get ds i)
text_read s ds i x bytes at is h = rw (at, ← is) h

-- the other spans keep their text
pub text_popped : (first : ℕ) (d : Datagram) (es items items' : List Datagram) (s : Span) (ss : List Span) (i : ℕ)
    (t : Span) → items ≡ d ∷ es → items' ≡ drop 1 items → d.spans ≡ 1 → SpansNameFrom first items (s ∷ ss)
    → slice_get ss i ≡ Some t
    → span_bytes_in t (slice_get items' (t.datagram - (first + 1)))
    ≡ span_bytes_in t (slice_get items (t.datagram - first))
text_popped first d es items items' s ss i t is gone one h at =
    let f : items' ≡ es = gone ∙ ap (drop 1) is in
    let b = (named_bound (first + 1) items' ss i t (released_pop first d es items items' s ss is gone one h) at).0 in
    let j : t.datagram - first ≡ suc (t.datagram - (first + 1)) = omega arith in
    rw (f, is, j) refl

text_head : (t : Span) (d d' : Datagram) (es : List Datagram) (j : ℕ) → d'.bytes ≡ d.bytes
    → span_bytes_in t (slice_get (d' ∷ es) j) ≡ span_bytes_in t (slice_get (d ∷ es) j)
text_head t d d' es zero same = ap (λ b. slice_range b.items t.start t.end) same
text_head t d d' es (suc j) same = refl

pub text_set : (d x d' : Datagram) (es items : List Datagram) (t : Span) (j : ℕ) → items ≡ d ∷ es → x ≡ get_or items 0 x
    → d'.bytes ≡ x.bytes → span_bytes_in t (slice_get (set items 0 d') j) ≡ span_bytes_in t (slice_get items j)
text_set d x d' es items t j is read bytes =
    let same : x ≡ d = (let a = rw is at read in a) in
    rw is (text_head t d d' es j (bytes ∙ ap (λ y. y.bytes) same))

-- if no span remains, no datagram does
pub none_named : (first : ℕ) (ds : List Datagram) → SpansNameFrom first ds [] → ds ≡ []
none_named first [] h = refl
none_named first (d ∷ ds) h = by d.spans (h.some 0 d refl) h.serials
  where
    by : (n : ℕ) → 0 < n → [] ≡ copies n first ++ serials_by_span (suc first) ds → d ∷ ds ≡ []
    by zero some is = absurd (omega arith)
    by (suc n) some is = cc

-- adding a datagram leaves the text of each earlier span
pub text_pushed : (first : ℕ) (ds ds' : List Datagram) (x : Datagram) (old : List Span) (i : ℕ) (s : Span)
    → ds' ≡ ds ++ x ∷ [] → SpansNameFrom first ds old → slice_get old i ≡ Some s
    → span_bytes_in s (slice_get ds' (s.datagram - first)) ≡ span_bytes_in s (slice_get ds (s.datagram - first))
text_pushed first ds ds' x old i s is h at =
    let b = named_bound first ds old i s h at in
    let b0 = b.0 in let b1 = b.1 in
    let lt : s.datagram - first < length ds = omega arith in
    rw (is, get_left ds (x ∷ []) (s.datagram - first) lt) refl

-- a span of the added datagram means its bytes
pub text_new : (first : ℕ) (ds ds' : List Datagram) (x : Datagram) (s : Span) → ds' ≡ ds ++ x ∷ []
    → s.datagram ≡ first + length ds
    → span_bytes_in s (slice_get ds' (s.datagram - first)) ≡ slice_range x.bytes.items s.start s.end
text_new first ds ds' x s is at =
    let j : s.datagram - first ≡ length ds = omega (arith, at) in
    let z : length ds - length ds ≡ 0 = omega arith in
    rw (is, j, get_right ds (x ∷ []) (length ds) (omega arith), z) refl
