-- The lines of a text, one after the other.
use Rattle.std.proofs.Common.{Bor, get_or, ◌<◌, ◌≡◌, ◌∙◌, ℕ, ◌+◌, List, [], ◌∷◌, ◌++◌, length, drop, map}
use Rattle.std.proofs.Common.{Option, Result}
use Rattle.std.proofs.Common.{Ok, Err, refl, sym, ap, append_assoc}
use mathlib.Core.Path.{fun_ext}
use Rattle.neli_tables.specs.declared.text.Worded.{Worded}
use Rattle.neli_tables.specs.declared.why.Unread.{Unread}
use Rattle.neli_tables.specs.declared.why.Unread.TheVariants.{Memory, Refused}
use Rattle.neli_tables.specs.declared.why.Why.{Why}
use Rattle.neli_tables.specs.declared.word.Word.{Word}
use Rattle.neli_tables.specs.Lines.{LineSeen, line_view}
use Rattle.neli_tables.specs.Refusals.{Reads}
use Rattle.neli_tables.specs.Schemas.{IsWhyNot, before, error_at, line_at, lines_from, section_after}
use Rattle.neli_tables.specs.Schemas.{with_line}
use Rattle.neli_tables.specs.Text.{worded_view}
use Rattle.neli_tables.proofs.Places.{line_left}

abbrev Find : Type 0
Find = Word → List ℕ → Option ℕ

abbrev Outcome : Type 0
Outcome = Result (List LineSeen) (ℕ × Why)

before_more : (lines : List LineSeen) (read : LineSeen) (later : Outcome)
    → before lines (before (read ∷ []) later) ≡ before (lines ++ read ∷ []) later
before_more lines read (Ok others) = ap Ok (sym (append_assoc lines (read ∷ []) others))
before_more lines read (Err refused) = refl

-- the lines after the next one
abbrev next : Find → Option Word → ℕ → List (ℕ × List (List ℕ)) → Result LineSeen Why → Outcome
next find section number others read =
    with_line number read (λ line. lines_from find (section_after section line.word) others)

-- the next line is this one
turn : (find : Find) (whole : Outcome) (lines : List LineSeen) (section : Option Word) (worded : List Worded) (i : ℕ)
    (x : Worded) → whole ≡ before lines (lines_from find section (drop i (map worded_view worded))) → i < length worded
    → x ≡ get_or worded i x
    → whole ≡ before lines (next find section x.number (drop (i + 1) (map worded_view worded))
    (line_at find section x.number (worded_view x).1))
turn find whole lines section worded i x said within at =
    said ∙ ap (λ others. before lines (lines_from find section others)) (line_left worded i x within)
    ∙ ap (λ (y : Worded). before lines (next find section y.number (drop (i + 1) (map worded_view worded))
    (line_at find section y.number (worded_view y).1))) (sym at)

pass_bad : (find : Find) (whole : Outcome) (lines : List LineSeen) (section : Option Word) (worded : List Worded)
    (i : ℕ) (x : Worded) (w : Why)
    → whole ≡ before lines (lines_from find section (drop i (map worded_view worded))) → i < length worded
    → x ≡ get_or worded i x → line_at find section x.number (worded_view x).1 ≡ Err w
    → whole ≡ Err (x.number, w)
pass_bad find whole lines section worded i x w said within at is =
    turn find whole lines section worded i x said within at
    ∙ ap (λ read. before lines (next find section x.number (drop (i + 1) (map worded_view worded)) read)) is

-- the line of these words is refused
pub pass_unread : (find : Find) (whole : Outcome) (lines : List LineSeen) (section : Option Word) (worded : List Worded)
    (i : ℕ) (x : Worded) (words : List (Bor (List ℕ))) (unread : Unread)
    → whole ≡ before lines (lines_from find section (drop i (map worded_view worded))) → i < length worded
    → x ≡ get_or worded i x → words ≡ x.words.items
    → Reads line_view (line_at find section x.number (map (λ (word : Bor (List ℕ)). word.now) words)) (Err unread)
    → IsWhyNot whole (error_at x.number unread)
pass_unread find whole lines section worded i x words (Refused w) said within at same is =
    pass_bad find whole lines section worded i x w said within at
    (sym (ap (λ ws. line_at find section x.number (map (λ (word : Bor (List ℕ)). word.now) ws)) same) ∙ is)
pass_unread find whole lines section worded i x words Memory said within at same is = is

-- the line is read
pub pass_read : (find : Find) (whole : Outcome) (lines : List LineSeen) (section : Option Word) (worded : List Worded)
    (i : ℕ) (x : Worded) (read : LineSeen)
    → whole ≡ before lines (lines_from find section (drop i (map worded_view worded))) → i < length worded
    → x ≡ get_or worded i x → line_at find section x.number (worded_view x).1 ≡ Ok read
    → whole ≡ before (lines ++ read ∷ [])
    (lines_from find (section_after section read.word) (drop (i + 1) (map worded_view worded)))
pass_read find whole lines section worded i x read said within at is =
    turn find whole lines section worded i x said within at
    ∙ ap (λ r. before lines (next find section x.number (drop (i + 1) (map worded_view worded)) r)) is
    ∙ before_more lines read (lines_from find (section_after section read.word) (drop (i + 1) (map worded_view worded)))

-- the lines of a text, with the places found
pub found_so : (find places : Find) (section : Option Word) (lines : List (ℕ × List (List ℕ)))
    → ((w : Word) (name : List ℕ) → find w name ≡ places w name) → lines_from find section lines ≡ lines_from places section lines
found_so find places section lines same = ap (λ f. lines_from f section lines) (fun_ext (λ w. fun_ext (λ name. same w name)))
