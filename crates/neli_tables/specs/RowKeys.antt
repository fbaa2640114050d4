-- What lines are found by.
use Rattle.std.specs.Prelude.{ℕ, ◌+◌, Bool, true, false, ◌&&◌, ◌==◌, if◌then◌else◌, List, [], ◌∷◌}
use Rattle.std.specs.Prelude.{Option, Some, None}
use Rattle.neli_tables.specs.declared.number.Span.{Span}
use Rattle.neli_tables.specs.declared.word.Word.{Word}
use Rattle.neli_tables.specs.declared.word.Word.TheVariants as word
use Rattle.neli_tables.specs.Lines.{LineSeen}
use Rattle.neli_tables.specs.declared.way.Way.{Way}
use Rattle.neli_tables.specs.declared.way.Way.TheVariants.{Request, Reply}
use Rattle.neli_tables.specs.Options.{options_of}

-- a key: the sort of a line, where it belongs, and its number
abbrev pub Key : Type 0
Key = ℕ × ℕ × ℕ

-- a row of a section, by its number
abbrev pub row_key : ℕ → ℕ → Key
row_key section number = (0, section, number)

-- the row of a section for all others
abbrev pub rest_key : ℕ → Key
rest_key section = (1, section, 0)

abbrev pub group_key : ℕ → Key
group_key number = (2, 0, number)

-- a message that goes this way, by its number; and by its body's first byte, where that counts
abbrev pub message_key : ℕ → Option ℕ → ℕ → Key
message_key way (Some first) number = (6 + way, first, number)
message_key way None number = (3 + way, 0, number)

-- the number of a way; 0 is both
abbrev pub way_number : Way → ℕ
way_number Request = 1
way_number Reply = 2

-- the way of a message, by its options `request` and `reply`
abbrev pub goes : Bool → Bool → ℕ
goes true false = 1
goes false true = 2
goes request reply = 0

abbrev pub message_key_of : LineSeen → ℕ → Key
message_key_of line number =
    message_key (goes (options_of line).request (options_of line).reply) (options_of line).family number

abbrev pub numbered : (ℕ → Key) → Option Span → Option Key
numbered key (Some span) = Some (key span.first)
numbered key None = None

abbrev pub key_by : Word → ℕ → LineSeen → Option Key
key_by word.Attr section line = numbered (row_key section) line.span
key_by word.Value section line = numbered (row_key section) line.span
key_by word.Case section line = numbered (row_key section) line.span
key_by word.Each section line = Some (rest_key section)
key_by word.Else section line = Some (rest_key section)
key_by word.Group section line = numbered group_key line.span
key_by word.Message section line = numbered (message_key_of line) line.span
key_by w section line = None

-- the key of a line in this section, if it has one
abbrev pub key_of : ℕ → LineSeen → Option Key
key_of section line = key_by line.word section line

-- ---- sections

-- a line with this first word is a row of the section above it
abbrev pub is_row : Word → Bool
is_row word.Value = true
is_row word.Field = true
is_row word.Attr = true
is_row word.Each = true
is_row word.Case = true
is_row word.Else = true
is_row w = false

-- the section of a line at this place, below another section
abbrev pub section_after : ℕ → ℕ → Word → ℕ
section_after section place w = if is_row w then section else place

-- ---- the first line with a key

abbrev pub has_key : Key → Option Key → Bool
has_key key (Some k) = k.0 == key.0 && k.1 == key.1 && k.2 == key.2
has_key key None = false

-- of these lines, the first of which stands at this place below this section, the place of the first with a key
abbrev pub place_from : Key → ℕ → ℕ → List LineSeen → Option ℕ
place_from key section place [] = None
place_from key section place (line ∷ lines) =
    if has_key key (key_of (section_after section place line.word) line) then Some place
    else place_from key (section_after section place line.word) (place + 1) lines

-- the place of the first line of a table with this key
abbrev pub place_of : Key → List LineSeen → Option ℕ
place_of key lines = place_from key 0 0 lines
