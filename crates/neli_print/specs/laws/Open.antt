-- Lists of attributes in JSON, while they are open.
use Rattle.std.proofs.Common.{◌≡◌, ℕ, zero, suc, ◌+◌, Bool, true, false, List, [], ◌++◌, codes}
use Rattle.std.proofs.Common.{refl, sym, ap, subst, ◌∙◌, append_assoc, append-nil, arith}
use Rattle.std.specs.List.{list_all}
use Rattle.neli_tables_walk.specs.Json.{AreMembers, IsJson, is_plain, object}
use Rattle.neli_tables_walk.specs.laws.Parts.{FirstElements, Turns, array_of, comma, first_elements_more}
use Rattle.neli_tables_walk.specs.laws.Parts.{part, turns_then}
use Rattle.neli_print.specs.Pieces.{repeated}

-- ---- words

-- an array that began after a text with P, with elements or none yet
abbrev pub InArray : (List ℕ → Type 0) → Bool → List ℕ → Type 0
InArray P first text =
    (start inner : List ℕ) × P start × FirstElements first inner × (text ≡ start ++ inner)

-- the place of the next element
abbrev pub InPlace : (List ℕ → Type 0) → List ℕ → Type 0
InPlace P text =
    (start : List ℕ) × (first : Bool) × InArray P first start × (text ≡ start ++ comma first)

-- an element that is an object with members, not closed yet
abbrev pub InElement : (List ℕ → Type 0) → List ℕ → Type 0
InElement P text =
    (start members : List ℕ) × InPlace P start × AreMembers members
    × (text ≡ start ++ (codes "{" ++ members))

-- the text that begins a list as a member
abbrev pub beginning : List ℕ → List ℕ
beginning name = codes ",\"" ++ (name ++ codes "\":[")

-- the attributes of a message begin, or the nth list in them
abbrev pub IsListBegun : ℕ → List ℕ → Type 0
IsListBegun zero text =
    (start : List ℕ) × AreMembers start × (text ≡ start ++ beginning (codes "attributes"))
IsListBegun (suc n) text =
    (start name : List ℕ) × InElement (IsListBegun n) start × (list_all is_plain name ≡ true)
    × (text ≡ start ++ beginning name)

-- so many lists are open
abbrev pub IsOpen : ℕ → Bool → List ℕ → Type 0
IsOpen zero first text = ⊥
IsOpen (suc n) first text = InArray (IsListBegun n) first text

-- and the next element's place, or an element
abbrev pub IsPlace : ℕ → List ℕ → Type 0
IsPlace zero text = ⊥
IsPlace (suc n) text = InPlace (IsListBegun n) text

abbrev pub IsElement : ℕ → List ℕ → Type 0
IsElement zero text = ⊥
IsElement (suc n) text = InElement (IsListBegun n) text

-- ---- nothing more

pub turns_none : (P : List ℕ → Type 0) → Turns P P []
turns_none P before is = subst P (sym (append-nil before)) is

-- ---- elements

place_value : (P : List ℕ → Type 0) (value : List ℕ) → IsJson value
    → Turns (InPlace P) (InArray P false) value
place_value P value json before is =
    let a = is.2 in (
      a.0,
      a.1 ++ (comma is.1 ++ value),
      a.2,
      first_elements_more is.1 a.1 value a.3 json,
      ap (λ (l : List ℕ). l ++ value)
          (is.3 ∙ ap (λ (l : List ℕ). l ++ comma is.1) a.4 ∙ append_assoc a.0 a.1 (comma is.1))
          ∙ append_assoc a.0 (a.1 ++ comma is.1) value
          ∙ ap (λ (l : List ℕ). a.0 ++ l) (append_assoc a.1 (comma is.1) value),
    )

element_more : (P : List ℕ → Type 0) (text : List ℕ) → Turns AreMembers AreMembers text
    → Turns (InElement P) (InElement P) text
element_more P text more before is = (
  is.0,
  is.1 ++ text,
  is.2,
  more is.1 is.3,
  ap (λ (l : List ℕ). l ++ text) is.4 ∙ append_assoc is.0 (codes "{" ++ is.1) text,
)

element_end : (P : List ℕ → Type 0) → Turns (InElement P) (InArray P false) (codes "}")
element_end P before is =
    subst (InArray P false)
    (sym (ap (λ (l : List ℕ). l ++ codes "}") is.4
    ∙ append_assoc is.0 (codes "{" ++ is.1) (codes "}")))
    (place_value P (codes "{" ++ (is.1 ++ codes "}")) (object is.1 is.3) is.0 is.2)

-- a list that is the last member of an element ends, and the element with it
array_end :
    (P : List ℕ → Type 0) (name inner : List ℕ) (first : Bool) → list_all is_plain name ≡ true
    → FirstElements first inner
    → Turns (InElement P) (InArray P false) (beginning name ++ (inner ++ codes "]}"))
array_end P name inner first is some before begun =
    let value = codes "[" ++ (inner ++ codes "]") in
    let more = element_more P _ (part name value is (array_of first inner some)) before begun in
    subst (InArray P false) (
    append_assoc before (codes ",\"" ++ (name ++ (codes "\":" ++ value))) (codes "}")
    ∙ ap (λ (l : List ℕ). before ++ (codes ",\"" ++ l)) (
    append_assoc name (codes "\":" ++ value) (codes "}")
    ∙ ap (λ (l : List ℕ). name ++ (codes "\":[" ++ l)) (append_assoc inner (codes "]") (codes "}"))
    ∙ sym (append_assoc name (codes "\":[") (inner ++ codes "]}"))))
    (element_end P _ more)

-- ---- lists

pub list_begin : Turns AreMembers (IsOpen 1 true) (codes ",\"attributes\":[")
list_begin before is =
    let text = before ++ codes ",\"attributes\":[" in
    (text, [], (before, is, refl), refl, sym (append-nil text))

pub list_end : (first : Bool) → Turns (IsOpen 1 first) AreMembers (codes "]")
list_end first before is =
    let start = is.2.0 in
    subst AreMembers (sym (
    ap (λ (l : List ℕ). l ++ codes "]")
    (is.4 ∙ ap (λ (l : List ℕ). l ++ is.1) is.2.2 ∙ append_assoc start _ is.1)
    ∙ append_assoc start (codes ",\"attributes\":[" ++ is.1) (codes "]")))
    (part (codes "attributes") (codes "[" ++ (is.1 ++ codes "]")) refl (array_of first is.1 is.3)
    start is.2.1)

pub nest_begin : (n : ℕ) (name : List ℕ) → list_all is_plain name ≡ true
    → Turns (IsElement n) (IsOpen (suc n) true) (beginning name)
nest_begin zero name plain before is = absurd is
nest_begin (suc n) name plain before is =
    let text = before ++ beginning name in
    (text, [], (before, name, is, plain, refl), refl, sym (append-nil text))

pub nest_end : (n : ℕ) (first : Bool)
    → Turns (IsOpen (suc (suc n)) first) (IsOpen (suc n) false) (codes "]}")
nest_end n first before is =
    let begun = is.2 in
    subst (InArray (IsListBegun n) false) (sym (
    ap (λ (l : List ℕ). l ++ codes "]}")
    (is.4 ∙ ap (λ (l : List ℕ). l ++ is.1) begun.4 ∙ append_assoc begun.0 (beginning begun.1) is.1)
    ∙ append_assoc begun.0 (beginning begun.1 ++ is.1) (codes "]}")
    ∙ ap (λ (l : List ℕ). begun.0 ++ l) (append_assoc (beginning begun.1) is.1 (codes "]}"))))
    (array_end (IsListBegun n) begun.1 is.1 first begun.3 is.3 begun.0 begun.2)

pub place_begin : (n : ℕ) (first : Bool) → Turns (IsOpen n first) (IsPlace n) (comma first)
place_begin zero first before is = absurd is
place_begin (suc n) first before is = (before, first, is, refl)

pub place_end : (n : ℕ) (value : List ℕ) → IsJson value → Turns (IsPlace n) (IsOpen n false) value
place_end zero value json before is = absurd is
place_end (suc n) value json before is = place_value (IsListBegun n) value json before is

pub object_begin : (n : ℕ) (text : List ℕ) → AreMembers text
    → Turns (IsPlace n) (IsElement n) (codes "{" ++ text)
object_begin zero text some before is = absurd is
object_begin (suc n) text some before is = (before, text, is, some, refl)

pub object_more : (n : ℕ) (text : List ℕ) → Turns AreMembers AreMembers text
    → Turns (IsElement n) (IsElement n) text
object_more zero text more before is = absurd is
object_more (suc n) text more before is = element_more (IsListBegun n) text more before is

pub object_end : (n : ℕ) → Turns (IsElement n) (IsOpen n false) (codes "}")
object_end zero before is = absurd is
object_end (suc n) before is = element_end (IsListBegun n) before is

-- ---- several ends

-- nothing is in the innermost list, unless one has ended
abbrev pub after_ends : ℕ → Bool → Bool
after_ends zero first = first
after_ends (suc k) first = false

pub ends : (k m : ℕ) (first : Bool)
    → Turns (IsOpen (suc m + k) first) (IsOpen (suc m) (after_ends k first))
    (repeated (codes "]}") k)
ends zero m first before is =
    let same : suc m + 0 ≡ suc m = omega arith in
    subst (λ (n : ℕ). IsOpen n first (before ++ [])) same
    (turns_none (IsOpen (suc m + 0) first) before is)
ends (suc k) m first before is =
    let same : suc m + suc k ≡ suc (suc m) + k = omega arith in
    turns_then (IsOpen (suc (suc m) + k) first) (IsOpen (suc (suc m)) (after_ends k first))
    (IsOpen (suc m) false) (repeated (codes "]}") k) (codes "]}") (ends k (suc m) first)
    (nest_end m (after_ends k first)) before (subst (λ (n : ℕ). IsOpen n first before) same is)
