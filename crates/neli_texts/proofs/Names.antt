-- The names of a set, printed one by one.
use Rattle.std.proofs.Common.{◌≡◌, ◌==◌, ◌<◌, ◌≤◌, ◌+◌, ℕ, Bool, true, false, List, [], ◌∷◌, ◌++◌, append_assoc, append-nil, length, drop, map, get_or, refl, sym, ap, ◌∙◌}
use Rattle.std.specs.Prelude.{codes, if◌then◌else◌}
use Rattle.std.specs.Fmt.{digits}
use Rattle.std.specs.List.{flat_map}
use Rattle.std.proofs.lemmas.List.{drop_all, drop_more}
use Rattle.bitflags.specs.Sets.{Row, is_next, without}
use Rattle.neli_texts.specs.FlagNames.{barred, left_over, mark, names_in}

-- the text of names, first or after others
abbrev pub from_here : Bool → List (List ℕ) → List ℕ
from_here true names = barred names
from_here false names = flat_map (λ other. codes "|" ++ other) names

-- a name is printed after its mark, and then what follows it
from_here_more : (first : Bool) (name : List ℕ) (rest : List (List ℕ))
    → from_here first (name ∷ rest) ≡ (mark first ++ name) ++ from_here false rest
from_here_more true name rest = refl
from_here_more false name rest = refl

-- a named flag is printed before the rest
named_step :
    (done all : List ℕ) (first : Bool) (row : Row) (rows : List Row) (set left : ℕ)
    → is_next row.0 row.1 set left ≡ true → done ++ from_here first (names_in (row ∷ rows) set left) ≡ all
    → (done ++ (mark first ++ row.0)) ++ from_here false (names_in rows set (without 32 left row.1)) ≡ all
unfolding names_in
named_step done all first row rows set left next so_far =
    append_assoc done (mark first ++ row.0) (from_here false (names_in rows set (without 32 left row.1)))
    ∙ ap (λ (l : List ℕ). done ++ l)
    (sym (from_here_more first row.0 (names_in rows set (without 32 left row.1)))
    ∙ sym (ap (λ (b : Bool). from_here first
    (if b then row.0 ∷ names_in rows set (without 32 left row.1) else names_in rows set left)) next))
    ∙ so_far

-- any other flag is skipped
passed_step :
    (done all : List ℕ) (first : Bool) (row : Row) (rows : List Row) (set left : ℕ)
    → is_next row.0 row.1 set left ≡ false → done ++ from_here first (names_in (row ∷ rows) set left) ≡ all
    → done ++ from_here first (names_in rows set left) ≡ all
unfolding names_in
passed_step done all first row rows set left passed so_far =
    ap (λ (l : List ℕ). done ++ l)
    (sym (ap (λ (b : Bool). from_here first
    (if b then row.0 ∷ names_in rows set (without 32 left row.1) else names_in rows set left)) passed))
    ∙ so_far

-- the rest of a list begins with the item at that place
first_left : {A : Type 0} (items : List A) (i : ℕ) (item d : A) → i < length items → item ≡ get_or items i d
    → drop i items ≡ item ∷ drop (i + 1) items
first_left {A} items i item d short is =
    drop_more items i d short ∙ ap (λ (x : A). x ∷ drop (i + 1) items) (sym is)

-- the step of a named flag, by its place in the list
pub named_at : {A : Type 0} (items : List A) (row_of : A → Row) (i : ℕ) (item d : A) → i < length items
    → item ≡ get_or items i d → (done all : List ℕ) (first after : Bool) (set left left_after : ℕ)
    → is_next (row_of item).0 (row_of item).1 set left ≡ true → after ≡ false
    → left_after ≡ without 32 left (row_of item).1
    → done ++ from_here first (names_in (map row_of (drop i items)) set left) ≡ all
    → (done ++ (mark first ++ (row_of item).0))
    ++ from_here after (names_in (map row_of (drop (i + 1) items)) set left_after) ≡ all
named_at {A} items row_of i item d short is done all first after set left left_after next a l so_far =
    ap (λ (b : Bool). (done ++ (mark first ++ (row_of item).0))
    ++ from_here b (names_in (map row_of (drop (i + 1) items)) set left_after)) a
    ∙ ap (λ (n : ℕ). (done ++ (mark first ++ (row_of item).0))
    ++ from_here false (names_in (map row_of (drop (i + 1) items)) set n)) l
    ∙ named_step done all first (row_of item) (map row_of (drop (i + 1) items)) set left next
    (ap (λ (fs : List A). done ++ from_here first (names_in (map row_of fs) set left))
    (sym (first_left items i item d short is)) ∙ so_far)

-- the step of any other flag
pub passed_at : {A : Type 0} (items : List A) (row_of : A → Row) (i : ℕ) (item d : A) → i < length items
    → item ≡ get_or items i d → (done all : List ℕ) (first after : Bool) (set left left_after : ℕ)
    → is_next (row_of item).0 (row_of item).1 set left ≡ false → after ≡ first → left_after ≡ left
    → done ++ from_here first (names_in (map row_of (drop i items)) set left) ≡ all
    → done ++ from_here after (names_in (map row_of (drop (i + 1) items)) set left_after) ≡ all
passed_at {A} items row_of i item d short is done all first after set left left_after passed a l so_far =
    ap (λ (b : Bool). done ++ from_here b (names_in (map row_of (drop (i + 1) items)) set left_after)) a
    ∙ ap (λ (n : ℕ). done ++ from_here first (names_in (map row_of (drop (i + 1) items)) set n)) l
    ∙ passed_step done all first (row_of item) (map row_of (drop (i + 1) items)) set left passed
    (ap (λ (fs : List A). done ++ from_here first (names_in (map row_of fs) set left))
    (sym (first_left items i item d short is)) ∙ so_far)

-- after the last flag only a number is left
pub at_end : {A : Type 0} (items : List A) (row_of : A → Row) (i : ℕ) → length items ≤ i
    → (done all : List ℕ) (first : Bool) (set left : ℕ)
    → done ++ from_here first (names_in (map row_of (drop i items)) set left) ≡ all
    → done ++ from_here first (left_over left) ≡ all
unfolding names_in
at_end {A} items row_of i long done all first set left so_far =
    ap (λ (fs : List A). done ++ from_here first (names_in (map row_of fs) set left)) (sym (drop_all i items long))
    ∙ so_far

-- this number is printed after its mark
pub left_step :
    (done all : List ℕ) (first : Bool) (left : ℕ) → (left == 0) ≡ false
    → done ++ from_here first (left_over left) ≡ all
    → done ++ (mark first ++ (codes "0x" ++ digits 16 false left)) ≡ all
left_step done all first left some so_far =
    ap (λ (l : List ℕ). done ++ l)
    (sym (append-nil (mark first ++ (codes "0x" ++ digits 16 false left)))
    ∙ sym (from_here_more first (codes "0x" ++ digits 16 false left) [])
    ∙ sym (ap (λ (b : Bool). from_here first
    (if b then [] else (codes "0x" ++ digits 16 false left) ∷ [])) some))
    ∙ so_far

-- for the empty set it is 0
pub none_step :
    (done all : List ℕ) (first : Bool) (left : ℕ) → first ≡ true → left ≡ 0
    → done ++ from_here first (left_over left) ≡ all
    → done ++ (mark first ++ (codes "0x" ++ digits 16 false left)) ≡ all
unfolding digits
none_step done all first left f l so_far =
    ap (λ (b : Bool). done ++ (mark b ++ (codes "0x" ++ digits 16 false left))) f
    ∙ ap (λ (n : ℕ). done ++ (mark true ++ (codes "0x" ++ digits 16 false n))) l
    ∙ sym (ap (λ (n : ℕ). done ++ from_here true (left_over n)) l)
    ∙ sym (ap (λ (b : Bool). done ++ from_here b (left_over left)) f)
    ∙ so_far

-- and nothing follows names that leave no bit
pub end_step :
    (done all : List ℕ) (first : Bool) (left : ℕ) → first ≡ false → left ≡ 0
    → done ++ from_here first (left_over left) ≡ all → done ≡ all
end_step done all first left f l so_far =
    sym (append-nil done)
    ∙ sym (ap (λ (b : Bool). done ++ from_here b (left_over 0)) f)
    ∙ sym (ap (λ (n : ℕ). done ++ from_here first (left_over n)) l)
    ∙ so_far
