-- What the calls on tables do to them.
use Rattle.std.specs.Prelude.{◌≡◌, ◌≢◌, ◌⊎◌, ℕ, ℤ, List, [], length, Option, Some, None}
use Rattle.std.specs.Prelude.{Result, Err}
use Rattle.neli_reader.specs.Headers.{flags_of}
use Rattle.neli_tables.specs.declared.schema.ReadError.{ReadError}
use Rattle.neli_tables.specs.declared.schema.ReadError.TheVariants.{Line, Memory}
use Rattle.neli_tables.specs.declared.why.Why.{Why}
use Rattle.neli_tables.specs.Lines.{LineSeen}
use Rattle.neli_tables.specs.Refusals.{why_text}
use Rattle.neli_tables.specs.Schemas.{table_in}
use Rattle.neli_tables.specs.Families.{generic_in, learnt, learnt_as, tables_in}
use Rattle.neli_tables_walk.specs.declared.head.Head.{Head}
use Rattle.neli_tables_walk.specs.Built.{AreRead, IsAdded, built_in_headings}
use Rattle.neli_tables_walk.specs.Controller.{family_said, learnt_from}
use Rattle.neli_c_parts.specs.declared.families.Families.{Families}
use Rattle.neli_c_parts.specs.Rooms.{beginning}
use Rattle.neli_c_parts.specs.declared.message.NeliMessage.{NeliMessage}
use Rattle.neli_c_parts.specs.Codes.{bad_length, bad_table, memory, ok, place}

-- ---- what tables there are

abbrev pub SameTables : Families → Families → Type 0
SameTables s t = tables_in t.tables ≡ tables_in s.tables

abbrev pub SameLearnt : Families → Families → Type 0
SameLearnt s t = (n : ℕ) → learnt t.tables n ≡ learnt s.tables n

-- no families, and no number is learnt
abbrev pub IsEmpty : Families → Type 0
IsEmpty s = (tables_in s.tables ≡ []) × ((n : ℕ) → learnt s.tables n ≡ None)

-- the families that are built in, and no number is learnt
abbrev pub IsBuiltIn : Families → Type 0
IsBuiltIn s = AreRead built_in_headings (tables_in s.tables) × ((n : ℕ) → learnt s.tables n ≡ None)

-- the code of a text that cannot be read
abbrev pub unread_code : ReadError → ℤ
unread_code (Line number why) = bad_table
unread_code Memory = memory

-- the line with this number is the first that is bad, and this is why, as far as there is room
abbrev pub IsBadLine : Result (List LineSeen) (ℕ × Why) → ℕ → List ℕ → List ℕ → ℕ → Type 0
IsBadLine said line old new size =
    (why : Why) × (said ≡ Err (line, why)) × (new ≡ beginning (why_text why) old) × (size ≡ length (why_text why))

-- the table of a text is added behind the others; or memory runs out, or a line is bad, and nothing is added
abbrev pub AddsTable : ℤ → List ℕ → Families → Families → ℕ → List ℕ → List ℕ → ℕ → Type 0
AddsTable code text s t line old new size =
    SameLearnt s t × (code ≡ ok → IsAdded text (tables_in s.tables) (tables_in t.tables))
    × (code ≢ ok → SameTables s t) × (code ≡ bad_table → IsBadLine (table_in text) line old new size)
    × ((code ≡ ok) ⊎ (code ≡ memory) ⊎ (code ≡ bad_table) ⊎ (code ≡ bad_length))

-- ---- the numbers of families of generic netlink

-- this is learnt, or memory runs out and nothing is
abbrev pub LearnsBy : ℤ → (ℕ → Option ℕ → Option ℕ) → Families → Families → Type 0
LearnsBy code later s t =
    SameTables s t × (code ≡ ok → (n : ℕ) → learnt t.tables n ≡ later n (learnt s.tables n))
    × (code ≢ ok → SameLearnt s t) × ((code ≡ ok) ⊎ (code ≡ memory))

-- the number of the family with this name
abbrev pub Learns : ℤ → ℕ → List ℕ → Families → Families → Type 0
Learns code id name s t = LearnsBy code (learnt_as id (generic_in name (tables_in s.tables))) s t

-- what a message's header says of its payload
abbrev pub head_of : ℕ → NeliMessage → Head
head_of protocol m = record { protocol = protocol; message_type = m.message_type; flags = flags_of m.flags }

-- what a message of the controller says
abbrev pub LearnsFrom : ℤ → Head → Option (List ℕ) → Families → Families → Type 0
LearnsFrom code head None s t = (code ≡ place) × (t ≡ s)
LearnsFrom code head (Some payload) s t =
    LearnsBy code (learnt_from (family_said head payload) (tables_in s.tables)) s t
