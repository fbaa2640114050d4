-- The body of a message: the table of its family, and the line of the message there.
use Rattle.std.specs.Prelude.{ℕ, Bool, true, false, not, ◌&&◌, ◌||◌, ◌==◌, nat_le, nat_lt}
use Rattle.std.specs.Prelude.{if◌then◌else◌, bit_and}
use Rattle.std.specs.Prelude.{List, length, drop, position, slice_get, slice_index, slice_range}
use Rattle.std.specs.Prelude.{Option, Some, None, is_some, unwrap_or}
use Rattle.std.specs.Option.{option_map}
use Rattle.byteorder.specs.Endian.{little_number}
use Rattle.neli_consts.specs.declared.nlm_f.NlmF.{NlmF}
use Rattle.neli_tables.specs.declared.number.Span.{Span}
use Rattle.neli_tables.specs.declared.way.Way.{Way}
use Rattle.neli_tables.specs.declared.way.Way.TheVariants.{Request, Reply}
use Rattle.neli_tables.specs.declared.options.Options.{Options}
use Rattle.neli_tables.specs.declared.tables.MessagePlace.{MessagePlace}
use Rattle.neli_tables.specs.declared.tables.Tables.{Tables}
use Rattle.neli_tables.specs.Families.{by_id, fixed_id, is_of, learnt, message_found, message_from}
use Rattle.neli_tables.specs.Families.{tables_in}
use Rattle.neli_tables.specs.RowKeys.{way_number}
use Rattle.neli_tables.specs.FoundRows.{message_in}
use Rattle.neli_tables_walk.specs.declared.shape.Shape.{Shape}
use Rattle.neli_tables_walk.specs.declared.shape.Shape.TheVariants.{Nest, Bytes}
use Rattle.neli_tables_walk.specs.Shapes.{ContextSeen, Lines, case_shape, line_options, number_by}
use Rattle.neli_tables_walk.specs.Walks.{Seen, walk_items}
use Rattle.neli_tables_walk.specs.declared.body.Body.{Body}
use Rattle.neli_tables_walk.specs.declared.generic.GenericHeader.{GenericHeader}
use Rattle.neli_tables_walk.specs.declared.head.Head.{Head}

-- a body: the table of its family, the place of its message's line there, the header of generic
-- netlink before it, and its bytes
abbrev pub BodySeen : Type 0
BodySeen = Option Lines × Option ℕ × Option GenericHeader × List ℕ

abbrev pub body_view : Body → BodySeen
body_view body =
    (option_map (λ table. table.now) body.table, body.line, body.generic, body.bytes.now)

-- ---- the header

-- a message with the flag REQUEST (1) goes to the kernel
abbrev pub way_of : NlmF → Way
way_of flags = if bit_and flags.0 1 == 1 then Request else Reply

-- a type that all protocols have: below NLMSG_MIN_TYPE
abbrev pub is_control : ℕ → Bool
is_control message_type = nat_lt message_type 16

-- the header of generic netlink: a command, a version, and two bytes more
abbrev pub generic_header : List ℕ → Option GenericHeader
generic_header payload =
    if nat_lt (length payload) 4 then None
    else Some (record {
      command = slice_index payload 0;
      version = slice_index payload 1;
      reserved = little_number 2 (drop 2 payload);
    })

-- ---- bodies

-- bytes of which nothing is known
abbrev pub unknown : List ℕ → BodySeen
unknown payload = (None, None, None, payload)

-- the body of a message at a place among the tables
abbrev pub placed : Tables → Option MessagePlace → List ℕ → BodySeen
placed tables None payload = unknown payload
placed tables (Some place) payload =
    (slice_get (tables_in tables) place.table, Some place.line, None, payload)

abbrev pub table_at : Tables → Option ℕ → Option Lines
table_at tables None = None
table_at tables (Some index) = slice_get (tables_in tables) index

-- ---- generic netlink

-- the table of the family whose messages have this type
abbrev pub generic_table : Tables → ℕ → Option Lines
generic_table tables number =
    table_at tables (by_id (learnt tables number) number (tables_in tables))

-- the line of a command
abbrev pub command_line : Way → ℕ → Option Lines → Option ℕ
command_line way command None = None
command_line way command (Some table) = message_in table (way_number way) None command

abbrev pub generic_with : Option Lines → Way → Option GenericHeader → List ℕ → BodySeen
generic_with table way None payload = unknown payload
generic_with table way (Some h) payload =
    (table, command_line way h.command table, Some h, drop 4 payload)

abbrev pub generic_body : Tables → Head → List ℕ → BodySeen
generic_body tables head payload =
    if is_control head.message_type then unknown payload
    else generic_with (generic_table tables head.message_type) (way_of head.flags)
    (generic_header payload) payload

-- ---- other protocols

-- the first table of a protocol
abbrev pub first_table : Tables → ℕ → Option Lines
first_table tables protocol = table_at tables (position (is_of (Some protocol)) (tables_in tables))

abbrev pub at_in : Option Options → Option Span
at_in None = None
at_in (Some o) = o.at

-- where a family's messages state their numbers, if not in their headers
abbrev pub where_at : Lines → Option Span
where_at table = at_in (line_options table 0)

-- the number in these bytes
abbrev pub number_at : Span → List ℕ → Option ℕ
number_at at payload =
    if nat_lt (length payload) at.last then None
    else number_by little_number (slice_range payload at.first at.last)

abbrev pub begins_with : Option ℕ → List ℕ → Bool
begins_with None payload = true
begins_with (Some id) payload = nat_le 4 (length payload) && little_number 4 payload == id

-- a payload begins with the number of the family, where that has one
abbrev pub is_meant : Lines → List ℕ → Bool
is_meant table payload = begins_with (fixed_id table) payload

abbrev pub numbered_line : Lines → Way → List ℕ → Option ℕ → Option ℕ
numbered_line table way payload None = None
numbered_line table way payload (Some number) =
    message_in table (way_number way) (slice_get payload 0) number

-- the line of a message whose number stands in its body
abbrev pub counted_line : Lines → Span → Head → List ℕ → Option ℕ
counted_line table at head payload =
    if is_meant table payload
    then numbered_line table (way_of head.flags) payload (number_at at payload)
    else None

-- the body of a message whose type is its number
abbrev pub typed_body : Tables → Head → List ℕ → BodySeen
typed_body tables head payload =
    if is_control head.message_type then unknown payload
    else placed tables
    (message_found head.protocol (way_number (way_of head.flags)) (slice_get payload 0)
    head.message_type (tables_in tables)) payload

abbrev pub counted_body : Lines → Option Span → Tables → Head → List ℕ → BodySeen
counted_body table None tables head payload = typed_body tables head payload
counted_body table (Some at) tables head payload =
    (Some table, counted_line table at head payload, None, payload)

abbrev pub fixed_with : Option Lines → Tables → Head → List ℕ → BodySeen
fixed_with None tables head payload = typed_body tables head payload
fixed_with (Some table) tables head payload =
    counted_body table (where_at table) tables head payload

abbrev pub fixed_body : Tables → Head → List ℕ → BodySeen
fixed_body tables head payload = fixed_with (first_table tables head.protocol) tables head payload

-- the body of a message: 16 is NETLINK_GENERIC
abbrev pub body_in : Tables → Head → List ℕ → BodySeen
body_in tables head payload =
    if head.protocol == 16 then generic_body tables head payload else fixed_body tables head payload

-- ---- answers

abbrev pub is_counted : Option Lines → Bool
is_counted None = false
is_counted (Some table) = is_some (where_at table)

-- the messages of a protocol state their numbers in their bodies
abbrev pub counts_in_bodies : Tables → ℕ → Bool
counts_in_bodies tables protocol = is_counted (first_table tables protocol)

-- an error or an acknowledgement (2), or the end of a dump (3, with the flag MULTI, 2)
abbrev pub is_answer : Tables → Head → Bool
is_answer tables head =
    (head.message_type == 2 || (head.message_type == 3 && bit_and head.flags.0 2 == 2))
    && not (counts_in_bodies tables head.protocol)

-- the attributes of an answer, by the tables that are of every protocol
abbrev pub answer_in : Tables → Head → List ℕ → BodySeen
answer_in tables head attributes =
    placed tables (message_from None (way_number Reply) None head.message_type 0 (tables_in tables))
    attributes

-- ---- what is in a body

abbrev pub first_or : List ℕ → Option GenericHeader → ℕ
first_or bytes None = unwrap_or (slice_get bytes 0) 0
first_or bytes (Some h) = 0

-- the address family: the first byte; 0 where there is none, and in generic netlink
abbrev pub body_family : BodySeen → ℕ
body_family body = first_or body.3 body.2

-- what its payloads are read by
abbrev pub body_context : BodySeen → Option ContextSeen
body_context body = option_map (λ table. (table, body_family body)) body.0

abbrev pub shape_at : Option Lines → Option ℕ → List ℕ → Shape
shape_at (Some table) (Some line) bytes = case_shape table (Some line) bytes
shape_at table line bytes = Bytes

-- what it is by the line of its message
abbrev pub body_shape : BodySeen → Shape
body_shape body = shape_at body.0 body.1 body.3

abbrev pub items_with : Option ContextSeen → Shape → List ℕ → Option (List Seen)
items_with (Some context) (Nest nest) bytes = Some (walk_items context nest bytes)
items_with context s bytes = None

-- the items of its attributes, where it has a list of them
abbrev pub body_items : BodySeen → Option (List Seen)
body_items body = items_with (body_context body) (body_shape body) body.3
