-- The body of a message.
use Rattle.std.specs.Prelude.{ℕ, ◌==◌, Bool, if◌then◌else◌, List, [], ◌∷◌, ◌++◌, codes, take}
use Rattle.std.specs.Prelude.{Option, Some, None}
use Rattle.std.specs.Fmt.{decimal}
use Rattle.neli_tables_walk.specs.declared.generic.GenericHeader.{GenericHeader}
use Rattle.neli_tables_walk.specs.Bodies.{BodySeen, body_context, body_shape}
use Rattle.neli_tables_walk.specs.declared.shape.Shape.{Shape}
use Rattle.neli_tables_walk.specs.declared.shape.Shape.TheVariants as shape
use Rattle.neli_tables_walk.specs.Shapes.{ContextSeen}
use Rattle.neli_tables_walk.specs.Hex.{bytes_json, bytes_text}
use Rattle.neli_tables_walk.specs.Values.{payload_json, payload_text}
use Rattle.neli_tables_walk.specs.Names.{line_name}
use Rattle.neli_print.specs.Lists.{list_member, list_text}
use Rattle.neli_print.specs.Names.{Lines, structure_members, structure_text}
use Rattle.neli_print.specs.Pieces.{indent}
use Rattle.neli_print.specs.Rests.{rest_member, rest_of, rest_words}
use Rattle.neli_tables_walk.specs.Values.{struct_in}

abbrev pub name_with : Option Lines → Option ℕ → Option (List ℕ)
name_with (Some table) (Some line) = Some (line_name table line)
name_with table line = None

-- the name of a body's message, if a table has it
abbrev pub body_name : BodySeen → Option (List ℕ)
body_name body = name_with body.0 body.1

-- a number of two bytes that mean nothing, where it is not 0
abbrev pub reserved : List ℕ → ℕ → List ℕ
reserved text number = if number == 0 then [] else text ++ decimal number

-- ---- in JSON

-- the header of generic netlink
abbrev pub generic_members : Option GenericHeader → List ℕ
generic_members (Some h) =
    codes ",\"command\":" ++ (decimal h.command
    ++ (codes ",\"version\":" ++ (decimal h.version
    ++ reserved (codes ",\"reserved\":") h.reserved)))
generic_members None = []

-- bytes of which nothing is known
abbrev pub bytes_member : List ℕ → List ℕ
bytes_member [] = []
bytes_member (b ∷ bytes) = codes ",\"payload\":" ++ bytes_json (b ∷ bytes)

abbrev pub payload_member : Lines → ℕ → List ℕ → List ℕ
payload_member table place [] = []
payload_member table place (b ∷ bytes) =
    codes ",\"payload\":" ++ payload_json table place (b ∷ bytes)

abbrev pub row_members_by : Option ℕ → Lines → ℕ → List ℕ → List ℕ
row_members_by (Some of) table place bytes =
    structure_members table (Some of) bytes ++ rest_member (rest_of table place bytes)
row_members_by None table place bytes = payload_member table place bytes

-- a body that is no list: a structure, or a value
abbrev pub row_members : Lines → ℕ → List ℕ → List ℕ
row_members table place bytes = row_members_by (struct_in table place) table place bytes

-- a body by its shape: of a list the structure at its front, and its attributes
abbrev pub known_members : ContextSeen → Shape → List ℕ → List ℕ
known_members context (shape.Nest nest) bytes =
    structure_members context.0 nest.after (take nest.header bytes)
    ++ list_member context nest bytes
known_members context (shape.Short nest) bytes = structure_members context.0 nest.after bytes
known_members context (shape.Row place) bytes = row_members context.0 place bytes
known_members context s bytes = bytes_member bytes

abbrev pub members_with : Option ContextSeen → Shape → List ℕ → List ℕ
members_with (Some context) s bytes = known_members context s bytes
members_with None s bytes = bytes_member bytes

-- the members of a body, after others
abbrev pub body_members : BodySeen → List ℕ
body_members body =
    generic_members body.2 ++ members_with (body_context body) (body_shape body) body.3

-- ---- as lines of text

abbrev pub generic_line : ℕ → Option GenericHeader → List ℕ
generic_line level (Some h) =
    indent level ++ (codes "command " ++ (decimal h.command
    ++ (codes " version " ++ (decimal h.version
    ++ (reserved (codes " reserved ") h.reserved ++ codes "\n")))))
generic_line level None = []

abbrev pub structure_line : Bool → ℕ → Lines → Option ℕ → List ℕ → List ℕ
structure_line coloured level table (Some place) bytes =
    indent level ++ (structure_text coloured table (Some place) bytes ++ codes "\n")
structure_line coloured level table None bytes = []

abbrev pub bytes_line : ℕ → List ℕ → List ℕ
bytes_line level [] = []
bytes_line level (b ∷ bytes) =
    indent level ++ (codes "payload " ++ (bytes_text (b ∷ bytes) ++ codes "\n"))

abbrev pub payload_line : ℕ → Lines → ℕ → List ℕ → List ℕ
payload_line level table place [] = []
payload_line level table place (b ∷ bytes) =
    indent level ++ (codes "payload" ++ (payload_text table place (b ∷ bytes) ++ codes "\n"))

abbrev pub row_line_by : Option ℕ → Bool → ℕ → Lines → ℕ → List ℕ → List ℕ
row_line_by (Some of) coloured level table place bytes =
    indent level ++ (structure_text coloured table (Some of) bytes
    ++ (rest_words (rest_of table place bytes) ++ codes "\n"))
row_line_by None coloured level table place bytes = payload_line level table place bytes

abbrev pub row_line : Bool → ℕ → Lines → ℕ → List ℕ → List ℕ
row_line coloured level table place bytes =
    row_line_by (struct_in table place) coloured level table place bytes

abbrev pub known_text : Bool → ℕ → ContextSeen → Shape → List ℕ → List ℕ
known_text coloured level context (shape.Nest nest) bytes =
    structure_line coloured level context.0 nest.after (take nest.header bytes)
    ++ list_text coloured level context nest bytes
known_text coloured level context (shape.Short nest) bytes =
    structure_line coloured level context.0 nest.after bytes
known_text coloured level context (shape.Row place) bytes =
    row_line coloured level context.0 place bytes
known_text coloured level context s bytes = bytes_line level bytes

abbrev pub text_with : Bool → ℕ → Option ContextSeen → Shape → List ℕ → List ℕ
text_with coloured level (Some context) s bytes = known_text coloured level context s bytes
text_with coloured level None s bytes = bytes_line level bytes

-- the lines of a body
abbrev pub body_text : Bool → ℕ → BodySeen → List ℕ
body_text coloured level body =
    generic_line level body.2 ++ text_with coloured level (body_context body) (body_shape body)
    body.3
