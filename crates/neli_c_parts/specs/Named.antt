-- What is found in a message by name.
use Rattle.std.specs.Prelude.{◌≡◌, ◌≢◌, ℕ, ◌+◌, ◌-◌, ◌^◌, ℤ, ◌&&◌, nat_le, if◌then◌else◌, min}
use Rattle.std.specs.Prelude.{pos, zero, suc, unsigned_abs, List, [], ◌∷◌, length, Option, Some, None}
use Rattle.std.specs.Option.{option_map}
use Rattle.neli_tables_walk.specs.declared.generic.GenericHeader.{GenericHeader}
use Rattle.neli_tables_walk.specs.Bodies.{BodySeen, body_context, body_in, body_shape}
use Rattle.neli_tables_check.specs.declared.place.Place.{Place}
use Rattle.neli_tables_check.specs.Offsets.{found_at}
use Rattle.neli_tables_check.specs.Paths.{path_text}
use Rattle.neli_tables_check.specs.Refusals.{refusal_text}
use Rattle.neli_tables_check.specs.declared.validation.Validation.{Validation}
use Rattle.neli_tables_check.specs.declared.validation.Validation.TheVariants.{Liberal, Strict}
use Rattle.neli_tables_check.specs.Violations.{Where, violation_by, violation_in, violation_text}
use Rattle.neli_tables_walk.specs.declared.item.Step.{Step}
use Rattle.neli_tables_walk.specs.declared.shape.Nest.{Nest as NestOf}
use Rattle.neli_tables_walk.specs.declared.shape.Shape.{Shape}
use Rattle.neli_tables_walk.specs.declared.shape.Shape.TheVariants.{Nest, Short}
use Rattle.neli_tables_walk.specs.Shapes.{ContextSeen, Lines}
use Rattle.neli_c_parts.specs.declared.families.Families.{Families}
use Rattle.neli_c_parts.specs.declared.named.NeliNamed.{NeliNamed}
use Rattle.neli_c_parts.specs.NamedItems.{named_items, named_text}
use Rattle.neli_c_parts.specs.Rooms.{beginning, put_at}
use Rattle.neli_c_parts.specs.declared.message.NeliMessage.{NeliMessage}
use Rattle.neli_c_parts.specs.Codes.{bad_length, item, kind, ok, place, room, short, violation}
use Rattle.neli_c_parts.specs.Printed.{PrintsMessage}
use Rattle.neli_c_parts.specs.Tables.{head_of}

-- ---- the attributes of a message

abbrev pub list_with : Option ContextSeen → Shape → Option (ContextSeen × NestOf)
list_with (Some context) (Nest nest) = Some (context, nest)
list_with context s = None

-- what the attributes of a body are read by, and the list that they are, where its table has one
abbrev pub list_in : BodySeen → Option (ContextSeen × NestOf)
list_in body = list_with (body_context body) (body_shape body)

abbrev pub behind : Option GenericHeader → ℕ → ℕ
behind None at = at
behind (Some h) at = min (at + 4) (2 ^ 64 - 1)

-- the place of a body in the bytes that its message was read from: behind the header of generic netlink, if there is one
abbrev pub body_place : BodySeen → NeliMessage → ℕ
body_place body m = behind body.2 m.payload

-- ---- texts

-- the beginning of a text is written that there is room for, and `size` is its length
abbrev pub IsWritten : List ℕ → List ℕ → List ℕ → ℕ → Type 0
IsWritten text old new size = (new ≡ beginning text old) × (size ≡ length text)

-- ---- the items

-- the first items are stored that there is room for, and the beginning of their texts; `count` is
-- how many there are, `size` how long the texts are, and the code says whether that is all
abbrev pub StoresItems : ℤ → List NeliNamed → List ℕ → List NeliNamed → List NeliNamed → ℕ → List ℕ
    → List ℕ → ℕ → Type 0
StoresItems code all text items items' count old new size =
    (items' ≡ put_at 0 all items) × (count ≡ length all) × IsWritten text old new size
    × (code ≡ (if nat_le (length all) (length items) && nat_le (length text) (length old) then ok
    else room))

-- the code of a body without such a list: it is shorter than the structure before its attributes, or has none
abbrev pub unlisted_code : Shape → ℤ
unlisted_code (Short nest) = short
unlisted_code s = kind

-- the same where the tables know the attributes of the message
abbrev pub StoresIn : ℤ → BodySeen → NeliMessage → Option (ContextSeen × NestOf) → List NeliNamed
    → List NeliNamed → ℕ → List ℕ → List ℕ → ℕ → Type 0
StoresIn code body m None items items' count old new size =
    (code ≡ unlisted_code (body_shape body)) × (items' ≡ items) × (new ≡ old)
StoresIn code body m (Some (context, nest)) items items' count old new size =
    code ≢ bad_length → StoresItems code (named_items context nest body.3 (body_place body m))
    (named_text context nest body.3) items items' count old new size

-- the same of a message whose payload lies within the bytes
abbrev pub GivesItems : ℤ → ℕ → NeliMessage → Option (List ℕ) → Families → List NeliNamed
    → List NeliNamed → ℕ → List ℕ → List ℕ → ℕ → Type 0
GivesItems code protocol m None s items items' count old new size =
    (code ≡ place) × (items' ≡ items) × (new ≡ old)
GivesItems code protocol m (Some payload) s items items' count old new size =
    StoresIn code (body_in s.tables (head_of protocol m) payload) m
    (list_in (body_in s.tables (head_of protocol m) payload)) items items' count old new size

-- ---- checks

-- what is wrong is printed, or nothing is
abbrev pub PrintsWrong : ℤ → Option Lines → Option Where → List ℕ → List ℕ → ℕ → Type 0
PrintsWrong code table None old new size = (code ≡ ok) × (new ≡ old)
PrintsWrong code None (Some (path, wrong)) old new size = ⊥
PrintsWrong code (Some table) (Some (path, wrong)) old new size =
    (code ≡ violation) × IsWritten (violation_text table path wrong) old new size

-- the same of a message's body, by what is wrong with it
abbrev pub ChecksBy : ℤ → (BodySeen → Option Where) → ℕ → NeliMessage → Option (List ℕ) → Families → List ℕ → List ℕ
    → ℕ → Type 0
ChecksBy code wrong_in protocol m None s old new size = (code ≡ place) × (new ≡ old)
ChecksBy code wrong_in protocol m (Some payload) s old new size =
    code ≢ bad_length → PrintsWrong code (body_in s.tables (head_of protocol m) payload).0
    (wrong_in (body_in s.tables (head_of protocol m) payload)) old new size

-- what the parser refuses that the message's line states
abbrev pub Checks : ℤ → ℕ → NeliMessage → Option (List ℕ) → Families → List ℕ → List ℕ → ℕ → Type 0
Checks code protocol m payload s old new size = ChecksBy code violation_in protocol m payload s old new size

-- the parser with this number
abbrev pub validation_at : ℤ → Option Validation
validation_at (pos zero) = Some Liberal
validation_at (pos (suc zero)) = Some Strict
validation_at number = None

-- what this parser refuses, if there is one
abbrev pub ChecksAs : ℤ → Option Validation → ℕ → NeliMessage → Option (List ℕ) → Families → List ℕ → List ℕ → ℕ
    → Type 0
ChecksAs code None protocol m payload s old new size = (code ≡ kind) × (new ≡ old)
ChecksAs code (Some v) protocol m payload s old new size =
    ChecksBy code (violation_by v) protocol m payload s old new size

-- ---- offsets

-- an attribute: a table, and a path in it
abbrev pub At : Type 0
At = Lines × List Step

abbrev pub place_view : Option Place → Option At
place_view None = None
place_view (Some place) = Some (place.table.now, place.path.steps.items)

abbrev pub at_text : At → List ℕ
at_text at = path_text at.0 at.1

abbrev pub at_with : Option Lines → Option (List Step) → Option At
at_with (Some table) (Some path) = Some (table, path)
at_with table path = None

-- the attribute at an offset of a body's message
abbrev pub at_in : BodySeen → ℕ → Option At
at_in body offset = at_with body.0 (found_at body offset)

-- the path to an attribute is printed, or there is none
abbrev pub PrintsPath : ℤ → Option At → List ℕ → List ℕ → ℕ → Type 0
PrintsPath code None old new size = (code ≡ ok) × (new ≡ old)
PrintsPath code (Some at) old new size = (code ≡ item) × IsWritten (at_text at) old new size

abbrev pub FindsPath : ℤ → ℕ → NeliMessage → Option (List ℕ) → ℕ → Families → List ℕ → List ℕ → ℕ → Type 0
FindsPath code protocol m None offset s old new size = (code ≡ place) × (new ≡ old)
FindsPath code protocol m (Some payload) offset s old new size =
    code ≢ bad_length → PrintsPath code (at_in (body_in s.tables (head_of protocol m) payload) offset) old new size

-- ---- refusals

-- the kernel's text, if it sent one
abbrev pub said : List ℕ → Option (List ℕ)
said [] = None
said (byte ∷ bytes) = Some (byte ∷ bytes)

-- a refusal of a request: its number, its text, and the attribute at its offset
abbrev pub refusal_line : Families → ℕ → NeliMessage → ℤ → List ℕ → ℕ → List ℕ → List ℕ
refusal_line s protocol m error text offset payload =
    refusal_text (unsigned_abs error) (said text)
    (option_map at_text (at_in (body_in s.tables (head_of protocol m) payload) offset))

abbrev pub Explains : ℤ → ℕ → NeliMessage → Option (List ℕ) → ℤ → List ℕ → ℕ → Families → List ℕ → List ℕ → ℕ → ℕ
    → Type 0
Explains code protocol m payload error text offset s old new size size' =
    PrintsMessage code (refusal_line s protocol m error text offset) payload old new size size'
