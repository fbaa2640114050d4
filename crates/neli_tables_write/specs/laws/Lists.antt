-- What was written is read.
use Rattle.std.proofs.Common.{◌≡◌, ◌∙◌, ℕ, zero, suc, ◌+◌, ◌<◌, ◌≤◌, List, [], ◌∷◌, ◌++◌}
use Rattle.std.proofs.Common.{length, Some, None, Ok, Err, refl, sym, ap, append_assoc}
use Rattle.std.proofs.Common.{arith}
use Rattle.std.proofs.lemmas.List.{append-nil}
use Rattle.neli_attr.specs.Attributes.{Head}
use Rattle.neli_attr.specs.AttrType.{AttrType}
use Rattle.neli_attr.specs.TypeField.{type_of}
use Rattle.neli_attr.specs.laws.Attributes.{attribute-placed}
use Rattle.neli_reader.specs.laws.Cuts.{frame_at-longer}
use Rattle.neli_wire.specs.Bytes.{Reading}
use Rattle.neli_wire.specs.Frames.{IsFrame, frame_at}
use Rattle.neli_attr.specs.laws.RoundTrips.{attribute_bytes-frame}
use Rattle.neli_wire.specs.Writing.{append_wire}
use Rattle.neli_attr.specs.Attributes.{attribute_wire}
use Rattle.neli_wire.specs.laws.Frames.{IsPlaced, frame_at-frame, frame_of-frame_at}
use Rattle.neli_tables_walk.specs.Elements.{Elem, Elements, Lent, attribute_layout, attribute_read}
use Rattle.neli_tables_walk.specs.Elements.{element_at, element_before, elements_by, elements_from, elements_of}
use Rattle.neli_tables_write.specs.Lists.{IsRead, any_sort, attribute_bytes, attribute_element, read_of}

-- ---- one attribute

abbrev head : ℕ → ℕ → Head (AttrType ℕ)
head len field = record { len = len; kind = type_of (λ n. n) field }

lent-placed : IsPlaced attribute_layout
lent-placed = attribute-placed (type_of (λ n. n)) _

-- the bytes of an attribute are its frame
attribute-frame : (field : ℕ) (payload : List ℕ) → field < 65536 → length payload ≤ 65531
    → IsFrame attribute_layout (attribute_bytes field payload) (head (4 + length payload) field) payload
attribute-frame field payload small short =
    attribute_bytes-frame (type_of (λ n. n)) (λ (bytes : List ℕ). Ok bytes) field payload payload small
    (omega (arith, short)) refl

attribute-at : (field : ℕ) (payload rest : List ℕ) → field < 65536 → length payload ≤ 65531
    → element_at any_sort (attribute_bytes field payload ++ rest) ≡ Ok (attribute_element field payload, rest)
attribute-at field payload rest small short =
    ap attribute_read (frame_at-frame attribute_layout lent-placed (attribute_bytes field payload) rest
    (head (4 + length payload) field) payload (attribute-frame field payload small short))

-- ---- one element after the other

abbrev rest_of : Reading Elem → List ℕ
rest_of (Ok r) = r.1
rest_of (Err e) = []

shorter-by : (s r : List ℕ) (e : Elem) (found : Reading Lent) → frame_at attribute_layout s ≡ found
    → attribute_read found ≡ Ok (e, r) → length r < length s
shorter-by s r e (Ok p) is read =
    let same : p.1 ≡ r = ap rest_of read in
    let long = frame_at-longer attribute_layout lent-placed (omega arith) s p.1 p.0 is in
    omega (arith, long, ap length same)
shorter-by s r e (Err x) is read = absurd cc

shorter : (s r : List ℕ) (e : Elem) → element_at any_sort s ≡ Ok (e, r) → length r < length s
shorter s r e is = shorter-by s r e _ refl is

abbrev first_or : Elem → Reading Elem → Elem
first_or e (Ok r) = r.0
first_or e (Err d) = e

-- an element depends on its own bytes alone
longer-by : (s r t : List ℕ) (e : Elem) (found : Reading Lent) → frame_at attribute_layout s ≡ found
    → attribute_read found ≡ Ok (e, r) → element_at any_sort (s ++ t) ≡ Ok (e, r ++ t)
longer-by s r t e (Ok p) is read =
    let f = frame_of-frame_at attribute_layout lent-placed s p.1 p.0.0 p.0.1 is in
    let more : frame_at attribute_layout (s ++ t) ≡ Ok (p.0, p.1 ++ t) =
    ap (λ (x : List ℕ). frame_at attribute_layout (x ++ t)) f.1
    ∙ ap (frame_at attribute_layout) (append_assoc f.0 p.1 t)
    ∙ frame_at-frame attribute_layout lent-placed f.0 (p.1 ++ t) p.0.0 p.0.1 f.2 in
    let same : (Some p.0.0.kind, p.0.1) ≡ e = ap (first_or e) read in
    let rest : p.1 ≡ r = ap rest_of read in
    ap attribute_read more ∙ ap (λ (x : Elem). Ok (x, p.1 ++ t)) same
    ∙ ap (λ (x : List ℕ). Ok (e, x ++ t)) rest
longer-by s r t e (Err x) is read = absurd cc

element-append : (s r t : List ℕ) (e : Elem) → element_at any_sort s ≡ Ok (e, r)
    → element_at any_sort (s ++ t) ≡ Ok (e, r ++ t)
element-append s r t e is = longer-by s r t e _ refl is

from_same : (s : List ℕ) (read : Reading Elem) (f g : List ℕ → Elements) → element_at any_sort s ≡ read
    → ((t : List ℕ) → length t < length s → f t ≡ g t) → elements_from s read f ≡ elements_from s read g
from_same s (Err e) f g is same = refl
from_same s (Ok p) f g is same = ap (element_before p.0) (same p.1 (shorter s p.1 p.0 is))

enough : (n m : ℕ) (s : List ℕ) → length s ≤ n → length s ≤ m
    → elements_by any_sort n s ≡ elements_by any_sort m s
unfolding elements_by
enough zero zero s p q = refl
enough zero (suc m) [] p q = refl
enough (suc n) zero [] p q = refl
enough (suc n) (suc m) [] p q = refl
enough zero (suc m) (b ∷ s) p q = absurd (omega (arith, p))
enough (suc n) zero (b ∷ s) p q = absurd (omega (arith, q))
enough (suc n) (suc m) (b ∷ s) p q =
    from_same (b ∷ s) (element_at any_sort (b ∷ s)) (elements_by any_sort n) (elements_by any_sort m) refl
    (λ t lt. enough n m t (omega (arith, p, lt)) (omega (arith, q, lt)))

unfold_one : (b : ℕ) (s : List ℕ) → elements_of any_sort (b ∷ s)
    ≡ elements_from (b ∷ s) (element_at any_sort (b ∷ s)) (elements_of any_sort)
unfolding elements_by elements_of
unfold_one b s =
    from_same (b ∷ s) (element_at any_sort (b ∷ s)) (elements_by any_sort (length s)) (elements_of any_sort)
    refl (λ t lt. enough (length s) (length t) t (omega (arith, lt)) (omega arith))

-- no bytes are no elements
pub read_nothing : IsRead [] []
unfolding elements_by elements_of
read_nothing = refl

more-of : (s r : List ℕ) (e : Elem) → element_at any_sort s ≡ Ok (e, r)
    → elements_of any_sort s ≡ element_before e (elements_of any_sort r)
more-of [] r e is = absurd (omega (arith, shorter [] r e is))
more-of (b ∷ s) r e is = unfold_one b s ∙ ap (λ read. elements_from (b ∷ s) read (elements_of any_sort)) is

-- ---- lists

-- the elements of bytes without a rest, and those of what follows them
abbrev Joins : List ℕ → List ℕ → Type 0
Joins s t = elements_of any_sort (s ++ t)
    ≡ ((elements_of any_sort s).0 ++ (elements_of any_sort t).0, (elements_of any_sort t).1)

joins-nothing : (t : List ℕ) → Joins [] t
joins-nothing t = ap (λ (x : Elements). (x.0 ++ (elements_of any_sort t).0, (elements_of any_sort t).1)) (sym read_nothing)

joins-one : (b : ℕ) (s t : List ℕ) (read : Reading Elem) → element_at any_sort (b ∷ s) ≡ read
    → (elements_of any_sort (b ∷ s)).1 ≡ None
    → ((r : List ℕ) → length r < length (b ∷ s) → (elements_of any_sort r).1 ≡ None → Joins r t) → Joins (b ∷ s) t
joins-one b s t (Ok p) is done ih =
    let one = more-of (b ∷ s) p.1 p.0 is in
    let both = more-of ((b ∷ s) ++ t) (p.1 ++ t) p.0 (element-append (b ∷ s) p.1 t p.0 is) in
    let later : (elements_of any_sort p.1).1 ≡ None = ap (λ (x : Elements). x.1) (sym one) ∙ done in
    both ∙ ap (element_before p.0) (ih p.1 (shorter (b ∷ s) p.1 p.0 is) later)
    ∙ ap (λ (x : Elements). (x.0 ++ (elements_of any_sort t).0, (elements_of any_sort t).1)) (sym one)
joins-one b s t (Err e) is done ih =
    let none = unfold_one b s ∙ ap (λ read. elements_from (b ∷ s) read (elements_of any_sort)) is in
    absurd (let bad : Some ((b ∷ s), e) ≡ None = ap (λ (x : Elements). x.1) (sym none) ∙ done in cc)

joins-by : (n : ℕ) (s t : List ℕ) → length s ≤ n → (elements_of any_sort s).1 ≡ None → Joins s t
joins-by n [] t le done = joins-nothing t
joins-by zero (b ∷ s) t le done = absurd (omega (arith, le))
joins-by (suc n) (b ∷ s) t le done =
    joins-one b s t (element_at any_sort (b ∷ s)) refl done (λ r lt ends. joins-by n r t (omega (arith, le, lt)) ends)

-- one more attribute is read as one more element
pub read_more : (bytes : List ℕ) (field : ℕ) (payload : List ℕ) → field < 65536 → length payload ≤ 65531
    → (elements_of any_sort bytes).1 ≡ None
    → elements_of any_sort (bytes ++ attribute_bytes field payload)
    ≡ (read_of bytes ++ attribute_element field payload ∷ [], None)
read_more bytes field payload small short done =
    let frame : List ℕ = attribute_bytes field payload in
    let at = attribute-at field payload [] small short in
    let one : elements_of any_sort frame ≡ (attribute_element field payload ∷ [], None) =
    ap (elements_of any_sort) (sym (append-nil frame))
    ∙ more-of (frame ++ []) [] (attribute_element field payload) at
    ∙ ap (element_before (attribute_element field payload)) read_nothing in
    joins-by (length bytes) bytes frame (omega arith) done
    ∙ ap (λ (x : Elements). (read_of bytes ++ x.0, x.1)) one

-- ---- how it is written

-- what is appended as an attribute's wire is its bytes
pub wire_is : (old : List ℕ) (field : ℕ) (payload new : List ℕ)
    → append_wire old (attribute_wire (4 + length payload) field (Ok payload)) ≡ Ok new
    → new ≡ old ++ attribute_bytes field payload
wire_is old field payload new e =
    let same : old ++ attribute_bytes field payload ≡ new = cc in sym same
