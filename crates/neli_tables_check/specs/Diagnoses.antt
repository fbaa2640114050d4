-- Why the kernel refused a request: what an acknowledgement says, by the request.
use Rattle.std.specs.Prelude.{ℕ, ◌-◌, Bool, true, false, ◌==◌, nat_lt, if◌then◌else◌, List, [], ◌++◌, codes}
use Rattle.std.specs.Prelude.{length, take, drop, slice_get, Option, Some, None}
use Rattle.std.specs.Fmt.{decimal}
use Rattle.byteorder.specs.Endian.{little_number}
use Rattle.neli_tables.specs.declared.kind.Kind.{Kind}
use Rattle.neli_tables.specs.declared.kind.Kind.TheVariants as kind
use Rattle.neli_tables.specs.declared.number.Span.{Span}
use Rattle.neli_tables.specs.declared.options.Options.{Options}
use Rattle.neli_tables.specs.FoundRows.{row_in}
use Rattle.neli_tables_walk.specs.Bodies.{BodySeen, body_shape}
use Rattle.neli_tables_walk.specs.Controller.{first_payload}
use Rattle.neli_tables_walk.specs.declared.item.Step.{Step}
use Rattle.neli_tables_walk.specs.declared.payload.Payload.{Payload}
use Rattle.neli_tables_walk.specs.declared.shape.Shape.{Shape}
use Rattle.neli_tables_walk.specs.declared.shape.Shape.TheVariants as shape
use Rattle.neli_tables_walk.specs.Names.{line_name, name_text}
use Rattle.neli_tables_walk.specs.Shapes.{Lines, kind_at, line_options}
use Rattle.neli_tables_walk.specs.Values.{payload_text}
use Rattle.neli_tables_check.specs.Cuts.{entry_size}
use Rattle.neli_tables_check.specs.Offsets.{body_start, found_at}
use Rattle.neli_tables_check.specs.Refusals.{offset_in}

-- ---- the value that was sent

abbrev pub sent_with : List ℕ → Option ℕ → Option (List ℕ)
sent_with bytes None = None
sent_with bytes (Some size) = Some (drop 4 (take size bytes))

abbrev pub sent_in : List ℕ → Option (List ℕ)
sent_in bytes = sent_with bytes (entry_size 4 bytes)

-- the payload of the attribute that begins at an offset, which counts from the message's first byte
abbrev pub sent_at : BodySeen → ℕ → Option (List ℕ)
sent_at body offset =
    if nat_lt offset (body_start body) then None else sent_in (drop (offset - body_start body) body.3)

-- a kind of which a payload is a value, and no list
abbrev pub is_value : Option Kind → Bool
is_value None = false
is_value (Some kind.Nest) = false
is_value (Some kind.Hops) = false
is_value (Some kind.Choice) = false
is_value k = true

abbrev pub row_at : Option Step → Option ℕ
row_at None = None
row_at (Some step) = step.row

abbrev pub row_in_path : Option (List Step) → Option ℕ
row_in_path None = None
row_in_path (Some steps) = row_at (slice_get steps (length steps - 1))

abbrev pub value_row : Lines → Option ℕ → Option ℕ
value_row table None = None
value_row table (Some row) = if is_value (kind_at table row) then Some row else None

-- the place of a row, and a payload
abbrev pub Sent : Type 0
Sent = ℕ × List ℕ

abbrev pub payload_view : Payload → Sent
payload_view payload = (payload.place, payload.bytes.now)

abbrev pub paired : Option ℕ → Option (List ℕ) → Option Sent
paired (Some row) (Some bytes) = Some (row, bytes)
paired row bytes = None

abbrev pub value_by : Option Lines → BodySeen → ℕ → Option Sent
value_by None body offset = None
value_by (Some table) body offset =
    paired (value_row table (row_in_path (found_at body offset))) (sent_at body offset)

abbrev pub value_with : BodySeen → Option ℕ → Option Sent
value_with request None = None
value_with request (Some offset) = value_by request.0 request offset

abbrev pub offset_by : Option (List ℕ) → Option ℕ
offset_by None = None
offset_by (Some bytes) = offset_in bytes

-- the value of the attribute at the offset: NLMSGERR_ATTR_OFFS (2)
abbrev pub value_of : BodySeen → List ℕ → Option Sent
value_of request attributes = value_with request (offset_by (first_payload 2 attributes))

-- ---- what the policy allows

abbrev pub limit_in : Option (List ℕ) → Option ℕ
limit_in None = None
limit_in (Some bytes) = if length bytes == 8 then Some (little_number 8 bytes) else None

abbrev pub span_by : Option ℕ → Option ℕ → Option Span
span_by (Some first) (Some last) = Some (record { first = first; last = last })
span_by first last = None

-- the least and the largest number: NL_POLICY_TYPE_ATTR_MIN_VALUE_U (4) and MAX_VALUE_U (5)
abbrev pub limits_in : List ℕ → Option Span
limits_in row = span_by (limit_in (first_payload 4 row)) (limit_in (first_payload 5 row))

abbrev pub allowed_in : Option (List ℕ) → Option Span
allowed_in None = None
allowed_in (Some row) = limits_in row

-- the same of the row in an acknowledgement: NLMSGERR_ATTR_POLICY (4)
abbrev pub allowed_of : List ℕ → Option Span
allowed_of attributes = allowed_in (first_payload 4 attributes)

-- ---- the attribute that is missing

abbrev pub set_of : Option Options → Option ℕ
set_of None = None
set_of (Some o) = o.of

abbrev pub set_at : Lines → Option ℕ → Option ℕ
set_at table None = None
set_at table (Some row) = set_of (line_options table row)

abbrev pub shape_set : Shape → Option ℕ
shape_set (shape.Nest nest) = Some nest.set
shape_set s = None

-- the set of the nest at an offset, or of the body
abbrev pub lacking : Lines → BodySeen → Option ℕ → Option ℕ
lacking table request None = shape_set (body_shape request)
lacking table request (Some offset) = set_at table (row_in_path (found_at request offset))

abbrev pub missing_row : Lines → Option ℕ → Option ℕ → Option ℕ
missing_row table (Some set) (Some number) = row_in table set number
missing_row table set number = None

abbrev pub missing_by : Option Lines → BodySeen → List ℕ → Option ℕ
missing_by None request attributes = None
missing_by (Some table) request attributes =
    missing_row table (lacking table request (offset_by (first_payload 6 attributes)))
    (offset_by (first_payload 5 attributes))

-- the place of its row: NLMSGERR_ATTR_MISS_TYPE (5), and MISS_NEST (6), the offset of the nest that lacks it
abbrev pub missing_of : BodySeen → List ℕ → Option ℕ
missing_of request attributes = missing_by request.0 request attributes

-- ---- in words

abbrev pub value_text : Lines → Option Sent → List ℕ
value_text table None = []
value_text table (Some sent) = codes " =" ++ payload_text table sent.0 sent.1

abbrev pub allowed_text : Option Span → List ℕ
allowed_text None = []
allowed_text (Some span) =
    codes ", allowed " ++ (decimal span.first ++ (codes ".." ++ decimal span.last))

abbrev pub missing_text : Lines → Option ℕ → List ℕ
missing_text table None = []
missing_text table (Some row) = codes ": missing " ++ name_text (line_name table row)

abbrev pub about_text : Option Lines → Option Sent → Option Span → Option ℕ → List ℕ
about_text None value allowed missing = allowed_text allowed
about_text (Some table) value allowed missing =
    value_text table value ++ (allowed_text allowed ++ missing_text table missing)
