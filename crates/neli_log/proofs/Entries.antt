-- Entries: their items and their spans.
use Rattle.std.proofs.Common.{◌≡◌, ℕ, zero, suc, ◌+◌, ◌-◌, ◌≤◌, ◌<◌, Bool, true, false, List, [], ◌∷◌}
use Rattle.std.proofs.Common.{◌++◌, length}
use Rattle.std.proofs.Common.{map, drop, get_or, Option, Some, None, refl, sym, ap, subst, ◌∙◌, arith}
use Rattle.std.proofs.Common.{inl, inr, ◌⊎◌}
use Rattle.std.proofs.Common.{append_assoc, length-append, is_some, option_map}
use Rattle.std.specs.List.{slice_get}
use Rattle.std.proofs.lemmas.Bool.{cases_lt}
use Rattle.std.proofs.lemmas.List.{append-nil}
use Rattle.neli_deliveries.specs.declared.delivery.Delivery.{Delivery}
use Rattle.neli_log.specs.declared.entry.Entry.{Entry}
use Rattle.neli_log.specs.declared.places.Places.{Places}
use Rattle.neli_log.specs.Places.{Gains, HasReader, HasRoom}
use Rattle.neli_log.specs.Routes.{entry, items_for, leads}
use Rattle.neli_log.specs.declared.span.Span.{Span}
use Rattle.neli_log.specs.declared.content.Content.{Content}
use Rattle.neli_log.specs.declared.content.Content.TheVariants as content
use Rattle.neli_log.specs.Contents.{delivery_of, entry_read, span_of, spans_of}
use Rattle.neli_log.specs.Staged.{HaveReaders}

pub true_or_false : (b : Bool) → (b ≡ true) ⊎ (b ≡ false)
true_or_false true = inl refl
true_or_false false = inr refl

-- ---- lists by index

pub get_end : {A : Type 0} (xs : List A) (i : ℕ) (x : A) → slice_get xs i ≡ Some x → i < length xs
get_end [] i x h = cc
get_end (y ∷ ys) zero x h = omega arith
get_end (y ∷ ys) (suc i) x h = let f = get_end ys i x h in omega arith

pub get_left : {A : Type 0} (xs ys : List A) (i : ℕ) → i < length xs → slice_get (xs ++ ys) i ≡ slice_get xs i
get_left [] ys i h = absurd (omega arith)
get_left (x ∷ xs) ys zero h = refl
get_left (x ∷ xs) ys (suc i) h = get_left xs ys i (omega arith)

pub get_right : {A : Type 0} (xs ys : List A) (i : ℕ) → length xs ≤ i
    → slice_get (xs ++ ys) i ≡ slice_get ys (i - length xs)
get_right [] ys i h = let s : i - 0 ≡ i = omega arith in rw s refl
get_right (x ∷ xs) ys zero h = absurd (omega arith)
get_right (x ∷ xs) ys (suc i) h = let s : suc i - suc (length xs) ≡ i - length xs = omega arith in
    rw s (get_right xs ys i (omega arith))

-- each of two lists that are joined
pub each_joined : {A : Type 0} (P : A → Type 0) (xs ys : List A) → ((i : ℕ) (x : A) → slice_get xs i ≡ Some x → P x)
    → ((i : ℕ) (x : A) → slice_get ys i ≡ Some x → P x) → (i : ℕ) (x : A) → slice_get (xs ++ ys) i ≡ Some x → P x
each_joined P xs ys left right i x at = elim (cases_lt i (length xs)) [
  | inl lt ↦ left i x (sym (get_left xs ys i lt) ∙ at)
  | inr ge ↦ right (i - length xs) x (sym (get_right xs ys i ge) ∙ at)
]

pub each_one : {A : Type 0} (P : A → Type 0) (y : A) → P y → (i : ℕ) (x : A) → slice_get (y ∷ []) i ≡ Some x → P x
each_one P y h zero x at = let same : y ≡ x = cc in subst P same h
each_one P y h (suc i) x at = cc

-- ---- spans and items of entries that are joined

pub spans_append : (xs ys : List (Entry Content)) → spans_of (xs ++ ys) ≡ spans_of xs ++ spans_of ys
spans_append [] ys = refl
spans_append (x ∷ xs) ys = ap (λ ss. span_of x.item ++ ss) (spans_append xs ys)
    ∙ sym (append_assoc (span_of x.item) (spans_of xs) (spans_of ys))

pub items_append : {T : Type 0} (w : Option ℕ) (xs ys : List (Entry T))
    → items_for w (xs ++ ys) ≡ items_for w xs ++ items_for w ys
items_append w [] ys = refl
items_append w (x ∷ xs) ys = elim (true_or_false (leads w x.route)) [
  | inl it ↦ rw it (ap (λ zs. x.item ∷ zs) (items_append w xs ys))
  | inr it ↦ rw it (items_append w xs ys)
]

pub items_first : {T : Type 0} (w : Option ℕ) (x : Entry T) (xs : List (Entry T))
    → items_for w (x ∷ xs) ≡ items_for w (x ∷ []) ++ items_for w xs
items_first w x xs = items_append w (x ∷ []) xs

pub spans_few : (es : List (Entry Content)) → length (spans_of es) ≤ length es
spans_few [] = omega arith
spans_few (e ∷ es) = (let a = one e.item in let b = spans_few es in
    omega (arith, a, b, length-append (span_of e.item) (spans_of es)))
  where
    one : (c : Content) → length (span_of c) ≤ 1
    one (content.Message s) = omega arith
    one (content.Stray s) = omega arith
    one (content.Fault e) = omega arith

-- the spans of an entry are among those of the entries from it on
pub spans_at : (es : List (Entry Content)) (i : ℕ) (x : Entry Content) → i < length es → x ≡ get_or es i x
    → length (span_of x.item) ≤ length (spans_of (drop i es))
spans_at [] i x lt is = absurd (omega arith)
spans_at (e ∷ es) zero x lt is = (let same : x ≡ e = is in let l = length-append (span_of e.item) (spans_of es) in
    let k = ap (λ y. length (span_of y.item)) same in omega (arith, l, k))
spans_at (e ∷ es) (suc i) x lt is = spans_at es i x (omega arith) is

-- ---- deliveries

-- where two readings of spans agree on the entries' spans, the entries are the same deliveries
pub read_same : (f g : Span → List ℕ) (es : List (Entry Content))
    → ((i : ℕ) (s : Span) → slice_get (spans_of es) i ≡ Some s → g s ≡ f s)
    → map (entry_read g) es ≡ map (entry_read f) es
read_same f g [] same = refl
read_same f g (e ∷ es) same =
    ap2 (ap (λ d. entry d e.route) (one e.item (λ i s at. same i s (left i s at)))) (read_same f g es later)
  where
    later : (i : ℕ) (s : Span) → slice_get (spans_of es) i ≡ Some s → g s ≡ f s
    later i s at = same (length (span_of e.item) + i) s
        (let j : length (span_of e.item) + i - length (span_of e.item) ≡ i = omega arith in
        get_right (span_of e.item) (spans_of es) (length (span_of e.item) + i) (omega arith) ∙ rw j at)

    left : (i : ℕ) (s : Span) → slice_get (span_of e.item) i ≡ Some s
        → slice_get (span_of e.item ++ spans_of es) i ≡ Some s
    left i s at = get_left (span_of e.item) (spans_of es) i (get_end (span_of e.item) i s at) ∙ at

    one : (c : Content) → ((i : ℕ) (s : Span) → slice_get (span_of c) i ≡ Some s → g s ≡ f s)
        → delivery_of g c ≡ delivery_of f c
    one (content.Message s) h = rw (h 0 s refl) refl
    one (content.Stray s) h = rw (h 0 s refl) refl
    one (content.Fault e) h = refl

    ap2 : {a b : Entry Delivery} {xs ys : List (Entry Delivery)} → a ≡ b → xs ≡ ys → a ∷ xs ≡ b ∷ ys
    ap2 {b = b} {xs = xs} h k = ap (λ x. x ∷ xs) h ∙ ap (λ zs. b ∷ zs) k

-- a list's items as deliveries are those of the entries as deliveries
pub items_read : (f : Span → List ℕ) (w : Option ℕ) (es : List (Entry Content))
    → items_for w (map (entry_read f) es) ≡ map (delivery_of f) (items_for w es)
items_read f w [] = refl
items_read f w (e ∷ es) = elim (true_or_false (leads w e.route)) [
  | inl it ↦ rw it (ap (λ ds. delivery_of f e.item ∷ ds) (items_read f w es))
  | inr it ↦ rw it (items_read f w es)
]

pub items_same : (f g : Span → List ℕ) (w : Option ℕ) (es : List (Entry Content))
    → ((i : ℕ) (s : Span) → slice_get (spans_of es) i ≡ Some s → g s ≡ f s)
    → map (delivery_of g) (items_for w es) ≡ map (delivery_of f) (items_for w es)
items_same f g w es same = sym (items_read g w es) ∙ ap (items_for w) (read_same f g es same) ∙ items_read f w es

-- ---- entries that are pushed one by one

pub readers_first : (P : Option ℕ → Option (List Content)) (e : Entry Content) (es : List (Entry Content))
    → HaveReaders P (e ∷ es) → HasReader P e.route
readers_first P e es h = h 0 e refl

pub readers_left : (P P' : Option ℕ → Option (List Content)) (e : Entry Content) (es : List (Entry Content))
    → Gains P e P' → HaveReaders P (e ∷ es) → HaveReaders P' es
readers_left P P' e es gains h i x at =
    let r = h (suc i) x at in
    (r.0, ap is_some (gains r.0) ∙ (some_mapped (λ xs. xs ++ items_for r.0 (e ∷ [])) (P r.0) ∙ r.1), r.2)
  where
    some_mapped : (f : List Content → List Content) (o : Option (List Content)) → is_some (option_map f o) ≡ is_some o
    some_mapped f None = refl
    some_mapped f (Some xs) = refl

pub gains_more : (P P' : Option ℕ → Option (List Content)) (e : Entry Content) (es : List (Entry Content))
    → Gains P e P' → (w : Option ℕ)
    → option_map (λ xs. xs ++ items_for w es) (P' w) ≡ option_map (λ xs. xs ++ items_for w (e ∷ es)) (P w)
gains_more P P' e es gains w = rw (gains w) (by (P w))
  where
    by : (o : Option (List Content)) → option_map (λ xs. xs ++ items_for w es)
        (option_map (λ xs. xs ++ items_for w (e ∷ [])) o) ≡ option_map (λ xs. xs ++ items_for w (e ∷ es)) o
    by None = refl
    by (Some xs) = ap Some (append_assoc xs (items_for w (e ∷ [])) (items_for w es)
        ∙ ap (λ zs. xs ++ zs) (sym (items_first w e es)))

pub gains_none : (o : Option (List Content)) → option_map (λ xs. xs ++ []) o ≡ o
gains_none None = refl
gains_none (Some xs) = ap Some (append-nil xs)

pub room_one : (n : ℕ) (s : Places Content) → HasRoom (suc n) s → HasRoom 1 s
room_one n s h = record {
  positions = (let a = h.positions in omega arith);
  entries = (let a = h.entries in omega arith);
  links = (let a = h.links in omega arith);
  shared = (let a = h.shared in omega arith);
}

pub room_more : (n : ℕ) (s : Places Content) → HasRoom (suc n) s → HasRoom (n + 1) s
room_more n s h = let e : suc n ≡ n + 1 = omega arith in rw (← e) h
