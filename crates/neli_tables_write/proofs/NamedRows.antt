-- Rows by their names, among the lines of a table.
use Rattle.std.proofs.Common.{◌≡◌, ◌∙◌, ◌+◌, ◌<◌, Bool, [], ◌∷◌, cond, ◌≤◌, ℕ, List, length, map, drop, Option, Some, None, refl, sym, ap, nat_lt}
use Rattle.std.proofs.Common.{arith, length-drop}
use Rattle.std.specs.Prelude.{not}
use Rattle.std.specs.List.{position, prefix_len}
use Rattle.std.specs.Option.{option_map}
use Rattle.std.proofs.lemmas.List.{length-map, length-take}
use Rattle.neli_tables.specs.declared.line.Line.{Line}
use Rattle.neli_tables.specs.FoundRows.{before, begins_section, rows_of}
use Rattle.neli_tables.specs.Lines.{LineSeen, line_view}
use Rattle.neli_tables_write.specs.Named.{is_named, is_request}

prefix_len-map : {A B : Type 0} (view : A → B) (p : B → Bool) (xs : List A)
    → prefix_len p (map view xs) ≡ prefix_len (λ x. p (view x)) xs
prefix_len-map view p [] = refl
prefix_len-map view p (x ∷ xs) = ap (λ n. cond (p (view x)) (1 + n) 0) (prefix_len-map view p xs)

-- what stands first among what is seen
position-map : {A B : Type 0} (view : A → B) (p : B → Bool) (xs : List A)
    → position p (map view xs) ≡ position (λ x. p (view x)) xs
position-map view p xs =
    ap (λ n. cond (nat_lt n (length (map view xs))) (Some n) None) (prefix_len-map view (λ y. not (p y)) xs)
    ∙ ap (λ n. cond (nat_lt (prefix_len (λ x. not (p (view x))) xs) n)
    (Some (prefix_len (λ x. not (p (view x))) xs)) None) (length-map xs view)

before-le : (o : Option ℕ) (xs : List LineSeen) → length (before o xs) ≤ length xs
before-le (Some index) xs = omega (arith, length-take index xs)
before-le None xs = omega arith

-- the rows of a section stand behind it, among the lines
pub rows_within : (section : ℕ) (lines : List LineSeen) (rows : List Line) (index : ℕ)
    → map line_view rows ≡ rows_of section lines → index < length rows → section + 1 + index < length lines
rows_within section lines rows index are lt =
    let few = before-le (position begins_section (drop (section + 1) lines)) (drop (section + 1) lines) in
    omega (arith, few, length-drop (section + 1) lines, ap length are, length-map rows line_view, lt)

-- the row that was found among rows is that of the section
pub named_found : (rows : List Line) (lines : List LineSeen) (section : ℕ) (name : List ℕ) (index : Option ℕ)
    → index ≡ position (λ (row : Line). is_named name (line_view row)) rows → map line_view rows ≡ rows_of section lines
    → option_map (λ n. section + 1 + n) index
    ≡ option_map (λ n. section + 1 + n) (position (is_named name) (rows_of section lines))
named_found rows lines section name index is rows_are =
    ap (option_map (λ n. section + 1 + n))
    (is ∙ sym (position-map line_view (is_named name) rows) ∙ ap (position (is_named name)) rows_are)

-- the same of a message among all lines
pub request_found : (lines : List Line) (table : List LineSeen) (name : List ℕ) (index : Option ℕ)
    → index ≡ position (λ (line : Line). is_request name (line_view line)) lines → map line_view lines ≡ table
    → index ≡ position (is_request name) table
request_found lines table name index is are =
    is ∙ sym (position-map line_view (is_request name) lines) ∙ ap (position (is_request name)) are
