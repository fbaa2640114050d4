-- Elements that were passed, and those to come.
use Rattle.std.proofs.Common.{get_or, ◌<◌, ◌≤◌, ◌≡◌, ◌∙◌, ℕ, zero, suc, ◌+◌, Bool, true, false, not, List, [], ◌∷◌, length, drop}
use Rattle.std.proofs.Common.{take, map, Option}
use Rattle.std.proofs.Common.{Some, None}
use Rattle.std.proofs.Common.{cond, nat_lt, refl, sym, ap, arith, length-drop, ◌-◌}
use Rattle.std.specs.List.{position, prefix_len}
use Rattle.std.proofs.lemmas.List.{drop_more, drop-map, get_or-map, length-map, take_all, take-map}
use Rattle.std.proofs.lemmas.List.Folds.{length-prefix_len}
use Rattle.std.proofs.lemmas.List.Sums.{prefix_len-le-length}
use Rattle.std.proofs.lemmas.Bool.Decides.{nat_tests}
use Rattle.std.specs.Borrow.{Bor}
use Rattle.std.specs.Option.{option_map, option_or}
use Rattle.neli_tables.specs.declared.line.Line.{Line}
use Rattle.neli_tables.specs.declared.setting.Setting.{Setting}
use Rattle.neli_tables.specs.Lines.{LineSeen, line_view}
use Rattle.neli_tables.specs.Settings.{setting_view}
use Rattle.neli_tables.specs.Options.{first_word, word_in}
use Rattle.neli_tables.specs.declared.tables.MessagePlace.{MessagePlace}
use Rattle.neli_tables.specs.Families.{Lines, message_at, message_from, message_of}
use Rattle.neli_tables.specs.FoundRows.{before, begins_section, is_case, rows_among, rows_of, size_before, sizes_of}

abbrev Lent : Type 0
Lent = Setting (Bor (List ℕ))

-- what is said of the elements from this one on
pub turn : {A B R : Type 0} (view : A → B) (f : List B → R) (whole : R) (xs : List A) (i : ℕ) (d : A)
    → whole ≡ f (drop i (map view xs)) → i < length xs
    → whole ≡ f (view (get_or xs i d) ∷ drop (i + 1) (map view xs))
turn view f whole xs i d said within =
    said ∙ ap f (drop_more (map view xs) i (view d) (omega (arith, within, length-map xs view))
    ∙ ap (λ y. y ∷ drop (i + 1) (map view xs)) (get_or-map view xs i d (view d) within))

-- the same, by the element there
pub turn_at : {A B R : Type 0} (view : A → B) (f : List B → R) (whole : R) (xs : List A) (i : ℕ) (x : A)
    → whole ≡ f (drop i (map view xs)) → i < length xs → x ≡ get_or xs i x
    → whole ≡ f (view x ∷ drop (i + 1) (map view xs))
turn_at view f whole xs i x said within at =
    turn view f whole xs i x said within ∙ ap (λ y. f (view y ∷ drop (i + 1) (map view xs))) (sym at)

prefix_len-map : {A B : Type 0} (view : A → B) (p : B → Bool) (xs : List A)
    → prefix_len p (map view xs) ≡ prefix_len (λ x. p (view x)) xs
prefix_len-map view p [] = refl
prefix_len-map view p (x ∷ xs) = ap (λ n. cond (p (view x)) (1 + n) 0) (prefix_len-map view p xs)

-- what stands first among what is seen
pub position-map : {A B : Type 0} (view : A → B) (p : B → Bool) (xs : List A)
    → position p (map view xs) ≡ position (λ x. p (view x)) xs
position-map view p xs =
    ap (λ n. cond (nat_lt n (length (map view xs))) (Some n) None) (prefix_len-map view (λ y. not (p y)) xs)
    ∙ ap (λ n. cond (nat_lt (prefix_len (λ x. not (p (view x))) xs) n)
    (Some (prefix_len (λ x. not (p (view x))) xs)) None) (length-map xs view)

-- what stands before an index, seen
pub before-map : {A B : Type 0} (view : A → B) (index : Option ℕ) (xs : List A)
    → map view (before index xs) ≡ before index (map view xs)
before-map view (Some i) xs = sym (take-map view i xs)
before-map view None xs = refl

-- the first word among options
pub word_here : (whole : Option (List ℕ)) (settings : List Lent) (i : ℕ) (d : Lent) (o : Option (List ℕ))
    → whole ≡ first_word (drop i (map setting_view settings)) → i < length settings
    → o ≡ word_in (setting_view (get_or settings i d))
    → whole ≡ option_or o (first_word (drop (i + 1) (map setting_view settings)))
word_here whole settings i d o said within is =
    turn setting_view first_word whole settings i d said within
    ∙ ap (λ o. option_or o (first_word (drop (i + 1) (map setting_view settings)))) (sym is)

-- rows up to the next section
pub rows_here : (lines : List Line) (index : Option ℕ)
    → index ≡ position (λ (line : Line). begins_section (line_view line)) lines
    → map line_view (before index lines) ≡ rows_among (map line_view lines)
rows_here lines index is =
    before-map line_view index lines
    ∙ ap (λ o. before o (map line_view lines)) (is ∙ sym (position-map line_view begins_section lines))

-- what stands behind a section
pub below : (lines : List Line) (section : ℕ)
    → take (length lines - (section + 1)) (drop (section + 1) lines) ≡ drop (section + 1) lines
below lines section = take_all _ (drop (section + 1) lines) (omega (arith, length-drop (section + 1) lines))

-- the rows of a section
pub rows_below : (lines : List Line) (section : ℕ)
    → rows_among (map line_view (take (length lines - (section + 1)) (drop (section + 1) lines)))
    ≡ rows_of section (map line_view lines)
rows_below lines section =
    ap (λ (ls : List Line). rows_among (map line_view ls)) (below lines section)
    ∙ ap rows_among (sym (drop-map line_view (section + 1) lines))

-- the case that a text picks
pub case_found : (rows : List Line) (lines : List LineSeen) (choice : ℕ) (text : List ℕ) (index : Option ℕ)
    → index ≡ position (λ (row : Line). is_case text (line_view row)) rows → map line_view rows ≡ rows_of choice lines
    → option_map (λ n. choice + 1 + n) index
    ≡ option_map (λ n. choice + 1 + n) (position (is_case text) (rows_of choice lines))
case_found rows lines choice text index is rows_are =
    ap (option_map (λ n. choice + 1 + n))
    (is ∙ sym (position-map line_view (is_case text) rows) ∙ ap (position (is_case text)) rows_are)

-- a message in one table more
pub message_here : (protocol : Option ℕ) (way : ℕ) (first : Option ℕ) (number : ℕ) (whole : Option MessagePlace)
    (tables : List Lines) (i : ℕ) (x : Lines) (o : Option ℕ)
    → whole ≡ message_from protocol way first number i (drop i tables) → i < length tables → x ≡ get_or tables i x
    → o ≡ message_of protocol way first number x
    → whole ≡ message_at i o (message_from protocol way first number (i + 1) (drop (i + 1) tables))
message_here protocol way first number whole tables i x o said within at is =
    said ∙ ap (message_from protocol way first number i) (drop_more tables i x within
    ∙ ap (λ y. y ∷ drop (i + 1) tables) (sym at))
    ∙ ap (λ m. message_at i m (message_from protocol way first number (i + 1) (drop (i + 1) tables))) (sym is)

-- ---- the options of rows

-- so many of a list as some first ones of it are
take_own : {A : Type 0} (i : ℕ) (xs : List A) → take (length (take i xs)) xs ≡ take i xs
take_own zero xs = refl
take_own (suc i) [] = refl
take_own (suc i) (x ∷ xs) = ap (λ ys. x ∷ ys) (take_own i xs)

before_own : {A : Type 0} (index : Option ℕ) (xs : List A) → take (length (before index xs)) xs ≡ before index xs
before_own (Some i) xs = take_own i xs
before_own None xs = take_all (length xs) xs (omega arith)

-- how many rows follow the line at a place
pub sizes_get : (lines : List LineSeen) (section d : ℕ) → section < length lines
    → get_or (sizes_of lines) section d ≡ length (rows_of section lines)
sizes_get [] section d h = absurd (omega (arith, h))
sizes_get (line ∷ lines) zero d h = refl
sizes_get (line ∷ lines) (suc section) d h =
    let next : suc (section + 1) ≡ suc section + 1 = omega arith in
    sizes_get lines section d (omega (arith, h)) ∙ ap (λ n. length (rows_among (drop n (line ∷ lines)))) next

-- as many as there are lines
pub length-sizes : (lines : List LineSeen) → length (sizes_of lines) ≡ length lines
length-sizes [] = refl
length-sizes (line ∷ lines) = ap suc (length-sizes lines)

-- rows are those before the first line that is none
abbrev row_first : LineSeen → Bool
row_first line = not (begins_section line)

among_length : (lines : List LineSeen) → length (rows_among lines) ≡ prefix_len row_first lines
among_length lines = among (nat_lt (prefix_len row_first lines) (length lines)) refl
  where
    among : (b : Bool) → nat_lt (prefix_len row_first lines) (length lines) ≡ b
        → length (before (cond b (Some (prefix_len row_first lines)) None) lines) ≡ prefix_len row_first lines
    among true is = length-prefix_len row_first lines
    among false is =
        let few = prefix_len-le-length row_first lines in grind (arith, nat_tests, is, few)

-- one row less follows each row
row_less : (lines : List LineSeen) (n : ℕ) → length (rows_among lines) ≡ suc n → get_or (sizes_of lines) 0 0 ≡ n
row_less [] n is = cc
row_less (line ∷ lines) n is =
    by (row_first line) refl
  where
    by : (b : Bool) → row_first line ≡ b → length (rows_among lines) ≡ n
    by true it =
        let all = rw it at (sym (among_length (line ∷ lines)) ∙ is) in
        among_length lines ∙ omega (arith, all)
    by false it = let none = rw it at (sym (among_length (line ∷ lines)) ∙ is) in absurd (omega (arith, none))

size_less : (lines : List LineSeen) (place n : ℕ) → get_or (sizes_of lines) place 0 ≡ suc n
    → get_or (sizes_of lines) (suc place) 0 ≡ n
size_less [] place n is = cc
size_less (line ∷ lines) zero n is = row_less lines n is
size_less (line ∷ lines) (suc place) n is = size_less lines place n is

-- the size at a place where rows follow the line before
pub size_next : (lines : List LineSeen) (place : ℕ) → 0 < size_before lines place
    → size_before lines place - 1 ≡ get_or (sizes_of lines) place 0
size_next lines zero some = absurd (omega (arith, some))
size_next lines (suc place) some =
    sym (size_less lines place (get_or (sizes_of lines) place 0 - 1) (omega (arith, some)))

-- the size of a section, at its place
pub size_here : (lines : List LineSeen) (sizes : List ℕ) (section n : ℕ) → sizes ≡ sizes_of lines
    → section < length sizes → n ≡ get_or sizes section n → n ≡ length (rows_of section lines)
size_here lines sizes section n are within is =
    is ∙ ap (λ ns. get_or ns section n) are
    ∙ sizes_get lines section n (omega (arith, within, ap length are, length-sizes lines))

take_few : {A : Type 0} (i : ℕ) (xs : List A) → length (take i xs) ≤ length xs
take_few zero xs = omega arith
take_few (suc i) [] = omega arith
take_few (suc i) (x ∷ xs) = (let few = take_few i xs in omega (arith, few))

before_within : {A : Type 0} (index : Option ℕ) (xs : List A) → length (before index xs) ≤ length xs
before_within (Some i) xs = take_few i xs
before_within None xs = omega arith

-- the rows of a section are lines
pub size_within : (lines : List LineSeen) (section : ℕ) → 0 < length (rows_of section lines)
    → section + 1 + length (rows_of section lines) ≤ length lines
size_within lines section some =
    let all = drop (section + 1) lines in
    let few : length (rows_of section lines) ≤ length all = before_within (position begins_section all) all in
    omega (arith, some, few, length-drop (section + 1) lines)

-- a place past the lines has no rows
pub size_past : (lines : List LineSeen) (sizes : List ℕ) (section : ℕ) → sizes ≡ sizes_of lines
    → length sizes ≤ section → 0 ≡ length (rows_of section lines)
size_past lines sizes section are past =
    let all = drop (section + 1) lines in
    let few : length (rows_of section lines) ≤ length all = before_within (position begins_section all) all in
    omega (arith, few, past, ap length are, length-sizes lines, length-drop (section + 1) lines)

-- what is kept of the lines that stand where the rows of a section do
pub rows_kept : {A : Type 0} (f : LineSeen → A) (kept : List A) (lines : List LineSeen) (size section : ℕ)
    → kept ≡ map f lines → size ≡ length (rows_of section lines)
    → take (section + 1 + size - (section + 1)) (drop (section + 1) kept) ≡ map f (rows_of section lines)
rows_kept f kept lines size section are is =
    let all = drop (section + 1) lines in
    let many : section + 1 + size - (section + 1) ≡ length (rows_among all) = omega (arith, is) in
    rw (are, many, drop-map f (section + 1) lines, take-map f (length (rows_among all)) all)
    (ap (map f) (before_own (position begins_section all) all))

-- the rows themselves
pub rows_seen : (lines : List Line) (size section : ℕ) → size ≡ length (rows_of section (map line_view lines))
    → map line_view (take (section + 1 + size - (section + 1)) (drop (section + 1) lines))
    ≡ rows_of section (map line_view lines)
rows_seen lines size section is =
    let all = drop (section + 1) (map line_view lines) in
    let many : section + 1 + size - (section + 1) ≡ length (rows_among all) = omega (arith, is) in
    sym (take-map line_view (section + 1 + size - (section + 1)) (drop (section + 1) lines))
    ∙ ap (take (section + 1 + size - (section + 1))) (sym (drop-map line_view (section + 1) lines))
    ∙ ap (λ n. take n all) many ∙ before_own (position begins_section all) all

-- and what is kept of them in another form
pub rows_viewed : {A B : Type 0} (view : A → B) (f : LineSeen → B) (kept : List A) (lines : List LineSeen)
    (size section : ℕ) → map view kept ≡ map f lines → size ≡ length (rows_of section lines)
    → map view (take (section + 1 + size - (section + 1)) (drop (section + 1) kept)) ≡ map f (rows_of section lines)
rows_viewed view f kept lines size section are is =
    let many = section + 1 + size - (section + 1) in
    sym (take-map view many (drop (section + 1) kept))
    ∙ ap (take many) (sym (drop-map view (section + 1) kept))
    ∙ rows_kept f (map view kept) lines size section are is
