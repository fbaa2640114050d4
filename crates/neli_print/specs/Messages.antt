-- Messages, and datagrams of them.
use Rattle.std.specs.Prelude.{ℕ, ◌+◌, ◌-◌, ◌^◌, min, Bool, if◌then◌else◌, List, [], ◌∷◌, ◌++◌}
use Rattle.std.specs.Prelude.{codes, Result, Ok, Err}
use Rattle.std.specs.Fmt.{decimal}
use Rattle.neli_lent.specs.Messages.{Lent, messages_in}
use Rattle.neli_lent.specs.Walks.{items_of}
use Rattle.neli_tables_walk.specs.declared.head.Head.{Head}
use Rattle.neli_tables_walk.specs.Bodies.{BodySeen, body_in, is_answer}
use Rattle.neli_tables.specs.declared.tables.Tables.{Tables}
use Rattle.neli_wire.specs.declared.errors.DeError.{DeError}
use Rattle.neli_wire.specs.Sizes.{align}
use Rattle.neli_print.specs.declared.head.Header.{Header}
use Rattle.neli_print.specs.declared.pieces.Colour.TheVariants as colour
use Rattle.neli_print.specs.Bodies.{body_members, body_text}
use Rattle.neli_print.specs.Faults.{fault_text}
use Rattle.neli_print.specs.Heads.{header_members, header_of, header_text}
use Rattle.neli_print.specs.Pieces.{painted}
use Rattle.neli_print.specs.Replies.{message_name, reply_lines, reply_members}

-- ---- a message in JSON

-- what its payload is: an answer, or a body
abbrev pub members_with : Tables → Head → List ℕ → BodySeen → List ℕ
members_with tables head payload body =
    if is_answer tables head then reply_members tables head payload else body_members body

abbrev pub content_members : Tables → Head → List ℕ → List ℕ
content_members tables head payload =
    members_with tables head payload (body_in tables head payload)

-- one object: the protocol, the header, and what the payload is
abbrev pub message_json : Tables → Header → List ℕ → List ℕ
message_json tables header payload =
    codes "{\"protocol\":" ++ (decimal header.head.protocol
    ++ (codes "," ++ (header_members header (message_name tables header.head payload)
    ++ (content_members tables header.head payload ++ codes "}"))))

-- ---- a message as lines of text

abbrev pub lines_with : Bool → Tables → Head → List ℕ → BodySeen → List ℕ
lines_with coloured tables head payload body =
    if is_answer tables head then reply_lines coloured tables head payload
    else body_text coloured 1 body

abbrev pub content_lines : Bool → Tables → Head → List ℕ → List ℕ
content_lines coloured tables head payload =
    lines_with coloured tables head payload (body_in tables head payload)

-- its header, and what its payload is
abbrev pub message_text : Bool → Tables → Header → List ℕ → List ℕ
message_text coloured tables header payload =
    header_text coloured header (message_name tables header.head payload)
    ++ content_lines coloured tables header.head payload

-- ---- a datagram

-- the place behind a message that begins at a place, as far as 64 bits say: as many bytes further
-- as it states, padded
abbrev pub place_behind : ℕ → Lent ℕ → ℕ
place_behind place message = min (place + align message.0.len) (2 ^ 64 - 1)

-- a fault at a place
abbrev pub fault_line : Bool → ℕ → DeError → List ℕ
fault_line coloured place e =
    painted coloured colour.Error (codes "fault")
    ++ (codes ": at " ++ (decimal place ++ (codes ": " ++ (fault_text e ++ codes "\n"))))

abbrev pub fault_json : ℕ → DeError → List ℕ
fault_json place e =
    codes "{\"fault\":\"" ++ (fault_text e
    ++ (codes "\",\"at\":" ++ (decimal place ++ codes "}\n")))

-- these items of a datagram, of which the first is at a place: messages, and the fault after them
abbrev pub lines_from : Bool → Tables → ℕ → ℕ → List (Result (Lent ℕ) DeError) → List ℕ
lines_from coloured tables protocol place [] = []
lines_from coloured tables protocol place (Ok message ∷ items) =
    message_text coloured tables (header_of protocol message.0) message.1
    ++ lines_from coloured tables protocol (place_behind place message) items
lines_from coloured tables protocol place (Err e ∷ items) = fault_line coloured place e

abbrev pub json_from : Tables → ℕ → ℕ → List (Result (Lent ℕ) DeError) → List ℕ
json_from tables protocol place [] = []
json_from tables protocol place (Ok message ∷ items) =
    message_json tables (header_of protocol message.0) message.1
    ++ (codes "\n" ++ json_from tables protocol (place_behind place message) items)
json_from tables protocol place (Err e ∷ items) = fault_json place e

-- a datagram as lines of text
abbrev pub datagram_text : Bool → Tables → ℕ → List ℕ → List ℕ
datagram_text coloured tables protocol bytes =
    lines_from coloured tables protocol 0 (items_of (messages_in (λ n. n) bytes))

-- a datagram as lines of JSON
abbrev pub datagram_json : Tables → ℕ → List ℕ → List ℕ
datagram_json tables protocol bytes =
    json_from tables protocol 0 (items_of (messages_in (λ n. n) bytes))
