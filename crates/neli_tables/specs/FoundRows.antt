-- What is found among the lines of a table.
use Rattle.std.specs.Prelude.{ℕ, zero, suc, ◌+◌, Bool, true, false, ◌&&◌, not, List, [], ◌∷◌, length, take, drop}
use Rattle.std.specs.Prelude.{get_or, position}
use Rattle.std.specs.Prelude.{Option, Some, None, is_none}
use Rattle.std.specs.Option.{option_map, option_or}
use Rattle.std.specs.Str.{bytes_eq}
use Rattle.neli_tables.specs.declared.word.Word.{Word}
use Rattle.neli_tables.specs.declared.word.Word.TheVariants as word
use Rattle.neli_tables.specs.Lines.{LineSeen}
use Rattle.neli_tables.specs.RowKeys.{group_key, is_row, message_key, place_of, rest_key, row_key}

-- ---- the rows of a section

-- a line begins a section
abbrev pub begins_section : LineSeen → Bool
begins_section line = not (is_row line.word)

-- what stands before this index; all where there is none
abbrev pub before : {A : Type 0} → Option ℕ → List A → List A
before (Some index) xs = take index xs
before None xs = xs

-- these lines, up to the first that begins a section
abbrev pub rows_among : List LineSeen → List LineSeen
rows_among lines = before (position begins_section lines) lines

-- the rows of the section at this place
abbrev pub rows_of : ℕ → List LineSeen → List LineSeen
rows_of section lines = rows_among (drop (section + 1) lines)

-- how many rows follow each line
abbrev pub sizes_of : List LineSeen → List ℕ
sizes_of [] = []
sizes_of (line ∷ lines) = length (rows_among lines) ∷ sizes_of lines

-- how many follow the line before this place; none before the first
abbrev pub size_before : List LineSeen → ℕ → ℕ
size_before lines zero = 0
size_before lines (suc place) = get_or (sizes_of lines) place 0

-- the place of the first row that has this number in a section, or of that for all others
abbrev pub row_in : List LineSeen → ℕ → ℕ → Option ℕ
row_in lines section number = option_or (place_of (row_key section number) lines) (place_of (rest_key section) lines)

abbrev pub is_case_word : Word → Bool
is_case_word word.Case = true
is_case_word w = false

-- a case without a number is picked by the text that is its name
abbrev pub is_case : List ℕ → LineSeen → Bool
is_case text row = is_case_word row.word && (is_none row.span && bytes_eq row.name text)

-- the place of the first case of a choice that a text picks, or of that for all others
abbrev pub case_in : List LineSeen → ℕ → List ℕ → Option ℕ
case_in lines choice text =
    option_or (option_map (λ index. choice + 1 + index) (position (is_case text) (rows_of choice lines)))
    (place_of (rest_key choice) lines)

-- ---- messages and groups

-- the place of the first message with this number for such bodies that goes this way; or else that goes both ways
abbrev pub message_for : List LineSeen → ℕ → Option ℕ → ℕ → Option ℕ
message_for lines way first number =
    option_or (place_of (message_key way first number) lines) (place_of (message_key 0 first number) lines)

-- the place of the message for bodies that begin with this byte, or else of that for all bodies
abbrev pub message_in : List LineSeen → ℕ → Option ℕ → ℕ → Option ℕ
message_in lines way None number = message_for lines way None number
message_in lines way (Some first) number =
    option_or (message_for lines way (Some first) number) (message_for lines way None number)

abbrev pub group_in : List LineSeen → ℕ → Option ℕ
group_in lines number = place_of (group_key number) lines
