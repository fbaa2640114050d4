-- Numbers by their names, and names by their numbers, among the tables of families.
use Rattle.std.specs.Prelude.{⊤, ◌≡◌, ◌≢◌, ◌⊎◌, ℕ, ℤ, ◌++◌, Bool, true, false, ◌&&◌, List, [], ◌∷◌, find, position}
use Rattle.std.specs.Prelude.{slice_get, Option, Some, None}
use Rattle.std.specs.Option.{option_and_then, option_map, option_or}
use Rattle.std.specs.Str.{bytes_eq}
use Rattle.neli_tables.specs.declared.way.Way.TheVariants.{Request}
use Rattle.neli_tables.specs.declared.word.Word.{Word}
use Rattle.neli_tables.specs.declared.word.Word.TheVariants as word
use Rattle.neli_tables.specs.Families.{Lines, first_number, has_name, protocol_of, same_number, tables_in}
use Rattle.neli_tables.specs.FoundRows.{message_in, rows_of}
use Rattle.neli_tables.specs.Lines.{LineSeen}
use Rattle.neli_tables.specs.RowKeys.{way_number}
use Rattle.neli_tables_routing.specs.Tables as routing
use Rattle.neli_tables_generic.specs.Tables as generic
use Rattle.neli_tables_system.specs.Tables as system
use Rattle.neli_tables_walk.specs.Bodies.{BodySeen, body_in}
use Rattle.neli_tables_walk.specs.Built.{IsRead}
use Rattle.neli_c_parts.specs.declared.families.Families.{Families}
use Rattle.neli_c_parts.specs.declared.message.NeliMessage.{NeliMessage}
use Rattle.neli_c_parts.specs.Codes.{bad_table, item, kind, memory, ok, place}
use Rattle.neli_c_parts.specs.Named.{IsWritten}
use Rattle.neli_c_parts.specs.Tables.{SameLearnt, SameTables, head_of}

-- ---- a family, and its lists

-- a line that begins a list of rows
abbrev pub is_list_word : Word → Bool
is_list_word word.Struct = true
is_list_word word.Set = true
is_list_word word.Choice = true
is_list_word word.Enum = true
is_list_word word.Flags = true
is_list_word w = false

-- a message or a group
abbrev pub is_own_word : Word → Bool
is_own_word word.Message = true
is_own_word word.Group = true
is_own_word w = false

abbrev pub is_named : List ℕ → LineSeen → Bool
is_named name line = bytes_eq line.name name

abbrev pub is_list : List ℕ → LineSeen → Bool
is_list name line = is_list_word line.word && is_named name line

abbrev pub is_own : List ℕ → LineSeen → Bool
is_own name line = is_own_word line.word && is_named name line

abbrev pub has_number : ℕ → LineSeen → Bool
has_number number line = same_number (first_number line.span) (Some number)

abbrev pub is_family_named : List ℕ → Lines → Bool
is_family_named name table = has_name name (slice_get table 0)

-- the first table whose family has this name
abbrev pub family_in : List ℕ → List Lines → Option Lines
family_in name tables = find (is_family_named name) tables

abbrev pub rows_at : Lines → Option ℕ → Lines
rows_at table None = []
rows_at table (Some section) = rows_of section table

-- the rows of the first list with this name
abbrev pub rows_named : List ℕ → Lines → Lines
rows_named name table = rows_at table (position (is_list name) table)

-- ---- numbers

-- the number of the first row with this name in a list; where that has no name of the first message or group
abbrev pub number_in : List ℕ → List ℕ → Lines → Option ℕ
number_in [] name table = protocol_of (find (is_own name) table)
number_in (byte ∷ list) name table = protocol_of (find (is_named name) (rows_named (byte ∷ list) table))

abbrev pub number_found : List ℕ → List ℕ → List ℕ → Families → Option ℕ
number_found family list name s = option_and_then (number_in list name) (family_in family (tables_in s.tables))

-- the number is stored, or there is none
abbrev pub GivesNumber : ℤ → Option ℕ → ℕ → ℕ → Type 0
GivesNumber code None old new = (code ≡ ok) × (new ≡ old)
GivesNumber code (Some number) old new = (code ≡ item) × (new ≡ number)

-- ---- names

abbrev pub line_name : LineSeen → List ℕ
line_name line = line.name

-- the message to the kernel with this number
abbrev pub request_in : ℕ → Lines → Option LineSeen
request_in number table = option_and_then (slice_get table) (message_in table (way_number Request) None number)

-- the name of the first row with this number in a list; where that has no name of the message to the kernel
abbrev pub name_in : List ℕ → ℕ → Lines → Option (List ℕ)
name_in [] number table = option_map line_name (request_in number table)
name_in (byte ∷ list) number table =
    option_map line_name (find (has_number number) (rows_named (byte ∷ list) table))

abbrev pub name_found : List ℕ → List ℕ → ℕ → Families → Option (List ℕ)
name_found family list number s = option_and_then (name_in list number) (family_in family (tables_in s.tables))

-- the name is written, or there is none
abbrev pub GivesName : ℤ → Option (List ℕ) → List ℕ → List ℕ → ℕ → ℕ → Type 0
GivesName code None old new size size' = (code ≡ ok) × (new ≡ old) × (size' ≡ size)
GivesName code (Some name) old new size size' = (code ≡ item) × IsWritten name old new size'

abbrev pub name_at : Option Lines → Option ℕ → Option (List ℕ)
name_at (Some table) (Some line) = option_map line_name (slice_get table line)
name_at table line = None

-- the name of the line that a body's message has
abbrev pub message_name : BodySeen → Option (List ℕ)
message_name body = name_at body.0 body.1

-- the same of a message whose payload lies within the bytes
abbrev pub NamesMessage : ℤ → ℕ → NeliMessage → Option (List ℕ) → Families → List ℕ → List ℕ → ℕ → ℕ → Type 0
NamesMessage code protocol m None s old new size size' = (code ≡ place) × (new ≡ old) × (size' ≡ size)
NamesMessage code protocol m (Some payload) s old new size size' =
    GivesName code (message_name (body_in s.tables (head_of protocol m) payload)) old new size size'

-- ---- one table that is built in

-- how the text begins that has this name
abbrev pub heading_named : List ℕ → Option (List ℕ)
heading_named name =
    option_or (option_map routing.heading_of (routing.table_named name))
    (option_or (option_map generic.heading_of (generic.table_named name))
    (option_map system.heading_of (system.table_named name)))

-- a text is there where one has the name, and begins as that does
abbrev pub IsTextNamed : Option (List ℕ) → Option (List ℕ) → Type 0
IsTextNamed None None = ⊤
IsTextNamed (Some heading) (Some text) = routing.Begins text heading
IsTextNamed heading text = ⊥

-- its table is the last
abbrev pub IsReadLast : List ℕ → List Lines → List Lines → Type 0
IsReadLast heading before after = (table : Lines) × (IsRead heading table × (after ≡ before ++ table ∷ []))

abbrev pub AddsBuiltIn : ℤ → Option (List ℕ) → Families → Families → Type 0
AddsBuiltIn code None s t = (code ≡ kind) × SameTables s t × SameLearnt s t
AddsBuiltIn code (Some heading) s t =
    SameLearnt s t × (code ≡ ok → IsReadLast heading (tables_in s.tables) (tables_in t.tables))
    × (code ≢ ok → SameTables s t) × ((code ≡ ok) ⊎ (code ≡ memory) ⊎ (code ≡ bad_table))
