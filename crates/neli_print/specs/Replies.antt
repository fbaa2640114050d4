-- Answers, printed.
use Rattle.std.specs.Prelude.{ℕ, ℤ, pos, int_lt, unsigned_abs, Bool, if◌then◌else◌, nat_lt, List}
use Rattle.std.specs.Prelude.{[], ◌∷◌, ◌++◌, codes, length, Option, Some, None, unwrap_or}
use Rattle.std.specs.Fmt.{signed_decimal}
use Rattle.std.specs.Int.{cast_signed, w32}
use Rattle.std.specs.Option.{option_or}
use Rattle.byteorder.specs.Endian.{little_number}
use Rattle.neli_errno.specs.Errnos.{Row, errno_of}
use Rattle.neli_tables_walk.specs.declared.head.Head.{Head}
use Rattle.neli_tables_walk.specs.Bodies.{BodySeen, answer_in, body_in}
use Rattle.neli_tables.specs.declared.tables.Tables.{Tables}
use Rattle.neli_tables_walk.specs.Hex.{bytes_text}
use Rattle.neli_tables_walk.specs.Quoted.{quoted}
use Rattle.neli_print.specs.declared.head.Header.{Header}
use Rattle.neli_print.specs.declared.pieces.Colour.TheVariants as colour
use Rattle.neli_print.specs.Answers.{PartsSeen, answer_parts}
use Rattle.neli_print.specs.Bodies.{body_members, body_name, body_text, bytes_line, bytes_member}
use Rattle.neli_print.specs.Heads.{common_name, header_members, header_text}
use Rattle.neli_print.specs.Pieces.{painted}
use Rattle.neli_print.specs.Rests.{rest_member}

-- the name of a message by the tables, or else of a type that all protocols have
abbrev pub name_by : BodySeen → ℕ → Option (List ℕ)
name_by body message_type = option_or (body_name body) (common_name message_type)

abbrev pub message_name : Tables → Head → List ℕ → Option (List ℕ)
message_name tables head payload = name_by (body_in tables head payload) head.message_type

-- the error of a code below 0, if it has a name
abbrev pub errno_in : ℤ → Option Row
errno_in code = if int_lt code (pos 0) then errno_of (unsigned_abs code) else None

-- the code that a payload begins with
abbrev pub code_in : List ℕ → ℤ
code_in payload = cast_signed w32 (little_number 4 payload)

-- ---- in JSON

abbrev pub error_members : Option Row → List ℕ
error_members (Some row) =
    codes ",\"error\":" ++ (quoted row.1 ++ (codes ",\"meaning\":" ++ quoted row.2))
error_members None = []

-- a code, and an error's name and its meaning
abbrev pub code_members : ℤ → List ℕ
code_members code = codes ",\"code\":" ++ (signed_decimal code ++ error_members (errno_in code))

abbrev pub echo_members : Tables → Head → Option (List ℕ) → List ℕ
echo_members tables head (Some body) = body_members (body_in tables head body)
echo_members tables head None = []

-- the request that an answer is for, with its body where that is echoed
abbrev pub request_member : Tables → Option Header → Option (List ℕ) → List ℕ
request_member tables (Some header) body =
    codes ",\"request\":{" ++ (header_members header
    (message_name tables header.head (unwrap_or body []))
    ++ (echo_members tables header.head body ++ codes "}"))
request_member tables None body = []

abbrev pub attributes_members : Tables → Head → Option (List ℕ) → List ℕ
attributes_members tables head (Some attributes) = body_members (answer_in tables head attributes)
attributes_members tables head None = []

abbrev pub parts_members : Tables → Head → PartsSeen → List ℕ
parts_members tables head parts =
    request_member tables parts.0 parts.1
    ++ (attributes_members tables head parts.2 ++ rest_member parts.3)

-- the members of an answer: its code, its request, its attributes, and what is left
abbrev pub reply_members : Tables → Head → List ℕ → List ℕ
reply_members tables head payload =
    if nat_lt (length payload) 4 then bytes_member payload
    else code_members (code_in payload) ++ parts_members tables head (answer_parts head payload)

-- ---- as lines of text

abbrev pub code_line_by : Bool → ℤ → Option Row → List ℕ
code_line_by coloured code (Some row) =
    codes "  error " ++ (signed_decimal code ++ (codes " " ++ (painted coloured colour.Error row.1
    ++ (codes " " ++ (row.2 ++ codes "\n")))))
code_line_by coloured code None = codes "  code " ++ (signed_decimal code ++ codes "\n")

abbrev pub code_line : Bool → ℤ → List ℕ
code_line coloured code = code_line_by coloured code (errno_in code)

abbrev pub echo_lines : Bool → Tables → Head → Option (List ℕ) → List ℕ
echo_lines coloured tables head (Some body) = body_text coloured 2 (body_in tables head body)
echo_lines coloured tables head None = []

abbrev pub request_lines : Bool → Tables → Option Header → Option (List ℕ) → List ℕ
request_lines coloured tables (Some header) body =
    codes "  of " ++ (header_text coloured header
    (message_name tables header.head (unwrap_or body []))
    ++ echo_lines coloured tables header.head body)
request_lines coloured tables None body = []

abbrev pub attributes_lines : Bool → Tables → Head → Option (List ℕ) → List ℕ
attributes_lines coloured tables head (Some attributes) =
    body_text coloured 1 (answer_in tables head attributes)
attributes_lines coloured tables head None = []

abbrev pub rest_line : List ℕ → List ℕ
rest_line [] = []
rest_line (b ∷ bytes) = codes "  rest " ++ (bytes_text (b ∷ bytes) ++ codes "\n")

abbrev pub parts_lines : Bool → Tables → Head → PartsSeen → List ℕ
parts_lines coloured tables head parts =
    request_lines coloured tables parts.0 parts.1 ++ (attributes_lines coloured tables head parts.2
    ++ rest_line parts.3)

-- the lines of an answer
abbrev pub reply_lines : Bool → Tables → Head → List ℕ → List ℕ
reply_lines coloured tables head payload =
    if nat_lt (length payload) 4 then bytes_line 1 payload
    else code_line coloured (code_in payload)
    ++ parts_lines coloured tables head (answer_parts head payload)
