-- What is found among the tables of several families.
use Rattle.std.specs.Prelude.{ℕ, ◌+◌, Bool, true, false, ◌&&◌, ◌==◌, if◌then◌else◌, List, [], ◌∷◌}
use Rattle.std.specs.Prelude.{position, slice_get}
use Rattle.std.specs.Prelude.{Option, Some, None}
use Rattle.std.specs.BTreeMap.{get_by}
use Rattle.std.specs.Option.{option_or}
use Rattle.std.specs.Ordering.{nat_cmp}
use Rattle.std.specs.Str.{bytes_eq}
use Rattle.neli_tables.specs.declared.number.Span.{Span}
use Rattle.neli_tables.specs.Lines.{LineSeen}
use Rattle.neli_tables.specs.declared.tables.MessagePlace.{MessagePlace}
use Rattle.neli_tables.specs.declared.tables.Tables.{Tables}
use Rattle.neli_tables.specs.Options.{options_of}
use Rattle.neli_tables.specs.FoundRows.{message_in}

-- a table, as its lines
abbrev pub Lines : Type 0
Lines = List LineSeen

-- the tables, in the order in which they were added
abbrev pub tables_in : Tables → List Lines
tables_in tables = tables.tables.items

-- the table that was learnt for a number
abbrev pub learnt : Tables → ℕ → Option ℕ
learnt tables id = get_by (nat_cmp id) tables.learnt

-- what is learnt for a number, once this one is learnt
abbrev pub learnt_as : ℕ → Option ℕ → ℕ → Option ℕ → Option ℕ
learnt_as id table n before = if n == id then table else before

-- ---- the family of a table

abbrev pub first_number : Option Span → Option ℕ
first_number (Some span) = Some span.first
first_number None = None

abbrev pub protocol_of : Option LineSeen → Option ℕ
protocol_of (Some line) = first_number line.span
protocol_of None = None

-- the protocol of a table's family; none where it is of every one
abbrev pub protocol_in : Lines → Option ℕ
protocol_in table = protocol_of (slice_get table 0)

abbrev pub same_number : Option ℕ → Option ℕ → Bool
same_number (Some one) (Some other) = one == other
same_number None None = true
same_number one other = false

-- a table is of this protocol
abbrev pub is_of : Option ℕ → Lines → Bool
is_of protocol table = same_number (protocol_in table) protocol

abbrev pub has_name : List ℕ → Option LineSeen → Bool
has_name name (Some line) = bytes_eq line.name name
has_name name None = false

-- this is the table of the family of generic netlink with this name
abbrev pub is_family : List ℕ → Lines → Bool
is_family name table = is_of (Some 16) table && has_name name (slice_get table 0)

abbrev pub generic_in : List ℕ → List Lines → Option ℕ
generic_in name tables = position (is_family name) tables

abbrev pub id_of : Option LineSeen → Option ℕ
id_of (Some line) = (options_of line).id
id_of None = None

-- the fixed number of a family of generic netlink
abbrev pub fixed_id : Lines → Option ℕ
fixed_id table = id_of (slice_get table 0)

-- this is the table of the family of generic netlink that has this number for good
abbrev pub has_id : ℕ → Lines → Bool
has_id id table = is_of (Some 16) table && same_number (fixed_id table) (Some id)

-- the table of a number: what was learnt, or else the first that has it for good
abbrev pub by_id : Option ℕ → ℕ → List Lines → Option ℕ
by_id learnt id tables = option_or learnt (position (has_id id) tables)

-- ---- messages

abbrev pub place_at : ℕ → ℕ → MessagePlace
place_at table line = record { table = table; line = line }

abbrev pub message_at : ℕ → Option ℕ → Option MessagePlace → Option MessagePlace
message_at table (Some line) later = Some (place_at table line)
message_at table None later = later

-- the message in a table, where that is of this protocol
abbrev pub message_of : Option ℕ → ℕ → Option ℕ → ℕ → Lines → Option ℕ
message_of protocol way first number table = if is_of protocol table then message_in table way first number else None

-- the message in the first of these tables that is of this protocol and has one; the first table has this index
abbrev pub message_from : Option ℕ → ℕ → Option ℕ → ℕ → ℕ → List Lines → Option MessagePlace
message_from protocol way first number index [] = None
message_from protocol way first number index (table ∷ tables) =
    message_at index (message_of protocol way first number table)
    (message_from protocol way first number (index + 1) tables)

-- the message of a protocol; or else one of every protocol
abbrev pub message_found : ℕ → ℕ → Option ℕ → ℕ → List Lines → Option MessagePlace
message_found protocol way first number tables =
    option_or (message_from (Some protocol) way first number 0 tables) (message_from None way first number 0 tables)
