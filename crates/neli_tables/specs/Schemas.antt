-- A text of a family: its lines, each in a valid place, or its first bad line.
use Rattle.std.specs.Prelude.{⊤, ◌≡◌, ℕ, Bool, true, false, if◌then◌else◌, List, [], ◌∷◌, ◌++◌, codes}
use Rattle.std.specs.Prelude.{Option, Some, None}
use Rattle.std.specs.Prelude.{Result, Ok, Err}
use Rattle.std.specs.Fmt.{decimal}
use Rattle.neli_tables.specs.declared.schema.ReadError.{ReadError}
use Rattle.neli_tables.specs.declared.schema.ReadError.TheVariants.{Line, Memory}
use Rattle.neli_tables.specs.declared.why.Unread.{Unread}
use Rattle.neli_tables.specs.declared.why.Unread.TheVariants as unread
use Rattle.neli_tables.specs.declared.why.Why.{Why}
use Rattle.neli_tables.specs.declared.why.Why.TheVariants as why
use Rattle.neli_tables.specs.declared.word.Word.{Word}
use Rattle.neli_tables.specs.declared.word.Word.TheVariants as word
use Rattle.neli_tables.specs.Lines.{LineSeen, has_values, line_in}
use Rattle.neli_tables.specs.Names.{place_in}
use Rattle.neli_tables.specs.Refusals.{and_then, why_text}
use Rattle.neli_tables.specs.Text.{worded_in}

-- ---- the lines that may stand below others

-- the section that the lines below belong to: that of a row, or the one that begins
abbrev pub section_after : Option Word → Word → Option Word
section_after section word.Value = section
section_after section word.Field = section
section_after section word.Attr = section
section_after section word.Each = section
section_after section word.Case = section
section_after section word.Else = section
section_after section w = Some w

abbrev pub is_struct : Word → Bool
is_struct word.Struct = true
is_struct w = false

abbrev pub is_set : Word → Bool
is_set word.Set = true
is_set w = false

abbrev pub is_choice : Word → Bool
is_choice word.Choice = true
is_choice w = false

-- a row stands in a section of its kind
abbrev pub row_fits : Word → Word → Bool
row_fits section word.Value = has_values section
row_fits section word.Field = is_struct section
row_fits section word.Attr = is_set section
row_fits section word.Each = is_set section
row_fits section word.Case = is_choice section
row_fits section word.Else = is_choice section
row_fits section w = true

abbrev pub row_fault : Word → Word → Option Why
row_fault section w = if row_fits section w then None else Some why.RowElsewhere

-- the family stands first and nowhere else, and rows stand in their sections
abbrev pub place_fault : Option Word → Word → Option Why
place_fault None word.Family = None
place_fault None w = Some why.FamilyFirst
place_fault (Some section) word.Family = Some why.FamilyFirst
place_fault (Some section) w = row_fault section w

-- ---- the lines of a text

abbrev pub placed : Option Why → LineSeen → Result LineSeen Why
placed None line = Ok line
placed (Some w) line = Err w

-- the line of these words, if its place is valid
abbrev pub line_at : (Word → List ℕ → Option ℕ) → Option Word → ℕ → List (List ℕ) → Result LineSeen Why
line_at find section number words =
    and_then (line_in find number words) (λ line. placed (place_fault section line.word) line)

-- lines before others, or the first of them that is refused
abbrev pub before : List LineSeen → Result (List LineSeen) (ℕ × Why) → Result (List LineSeen) (ℕ × Why)
before lines (Ok others) = Ok (lines ++ others)
before lines (Err refused) = Err refused

-- a line, and those after it; or its number, and why it is refused
abbrev pub with_line : ℕ → Result LineSeen Why → (LineSeen → Result (List LineSeen) (ℕ × Why))
    → Result (List LineSeen) (ℕ × Why)
with_line number (Err w) others = Err (number, w)
with_line number (Ok line) others = before (line ∷ []) (others line)

-- these lines, the first of them in this section
abbrev pub lines_from : (Word → List ℕ → Option ℕ) → Option Word → List (ℕ × List (List ℕ))
    → Result (List LineSeen) (ℕ × Why)
lines_from find section [] = Ok []
lines_from find section (line ∷ lines) =
    with_line line.0 (line_at find section line.0 line.1)
    (λ read. lines_from find (section_after section read.word) lines)

-- the lines of a text: each refers to the first line with the name
abbrev pub table_in : List ℕ → Result (List LineSeen) (ℕ × Why)
table_in text = lines_from (λ w name. place_in w name 0 (worded_in text)) None (worded_in text)

-- ---- why a text is not read

-- the reported refusal of the line with this number
abbrev pub error_at : ℕ → Unread → ReadError
error_at number (unread.Refused w) = Line number w
error_at number unread.Memory = Memory

abbrev pub IsWhyNot : Result (List LineSeen) (ℕ × Why) → ReadError → Type 0
IsWhyNot said (Line number w) = said ≡ Err (number, w)
IsWhyNot said Memory = ⊤

abbrev pub error_text : ReadError → List ℕ
error_text (Line number w) = codes "line " ++ (decimal number ++ (codes ": " ++ why_text w))
error_text Memory = codes "out of memory"
