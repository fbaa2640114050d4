-- The first attribute that a parser of the kernel refuses.
use Rattle.std.specs.Prelude.{ℕ, zero, suc, Bool, ◌||◌, true, false, not, ◌&&◌, ◌==◌, nat_le, nat_lt}
use Rattle.std.specs.Prelude.{if◌then◌else◌, List, [], ◌∷◌, ◌++◌, codes, length, take, drop, slice_get}
use Rattle.std.specs.Prelude.{Option, Some, None, is_some, Result, Ok, Err}
use Rattle.std.specs.Fmt.{decimal, digits, signed_decimal}
use Rattle.std.specs.Option.{option_map, option_or}
use Rattle.neli_wire.specs.Sizes.{align}
use Rattle.neli_tables.specs.declared.kind.Kind.{Kind}
use Rattle.neli_tables.specs.declared.kind.Kind.TheVariants as kind
use Rattle.neli_tables.specs.declared.options.Options.{Options}
use Rattle.neli_tables.specs.declared.word.Word.{Word}
use Rattle.neli_tables.specs.FoundRows.{row_in}
use Rattle.neli_tables.specs.Lines.{LineSeen}
use Rattle.neli_tables.specs.Options.{options_of}
use Rattle.neli_tables.specs.RowKeys.{place_of, rest_key}
use Rattle.neli_tables_walk.specs.Bodies.{BodySeen, body_context, body_shape}
use Rattle.neli_tables_walk.specs.Breaches.{breach_text}
use Rattle.neli_tables_walk.specs.declared.item.Step.{Step}
use Rattle.neli_tables_walk.specs.declared.shape.Nest.{Nest}
use Rattle.neli_tables_walk.specs.declared.shape.Shape.{Shape}
use Rattle.neli_tables_walk.specs.declared.shape.Shape.TheVariants as shape
use Rattle.neli_tables_walk.specs.Shapes.{ContextSeen, Lines, case_shape, kind_at, line_options, picked_as}
use Rattle.neli_tables_check.specs.declared.listed.Listed.{Listed}
use Rattle.neli_tables_check.specs.declared.validation.Validation.{Validation}
use Rattle.neli_tables_check.specs.declared.validation.Validation.TheVariants.{Strict, Liberal}
use Rattle.neli_tables_check.specs.declared.violation.Violation.{Violation}
use Rattle.neli_tables_check.specs.declared.wrong.Wrong.{Wrong}
use Rattle.neli_tables_check.specs.declared.wrong.Wrong.TheVariants as wrong
use Rattle.neli_tables_check.specs.Cuts.{behind, entry_number, entry_size, is_flagged, last_payload}
use Rattle.neli_tables_check.specs.Parsers.{flag_wrong, length_wrong, shape_wrong}
use Rattle.neli_tables_check.specs.Paths.{path_text}

-- where it is, and what
abbrev pub Where : Type 0
Where = List Step × Wrong

abbrev pub violation_view : Violation → Where
violation_view violation = (violation.place.path.steps.items, violation.wrong)

-- the result of a check
abbrev pub check_view : Result (Unit {0}) Violation → Option Where
check_view (Ok _) = None
check_view (Err violation) = Some (violation_view violation)

-- a list: what its attributes are, or those of its hops; whether it has hops; its bytes
abbrev pub ListSeen : Type 0
ListSeen = Nest × Bool × List ℕ

abbrev pub listed_view : Listed → ListSeen
listed_view list = (list.nest, list.is_hops, list.bytes.now)

-- a list in an entry, and the parser that goes through it
abbrev pub Inner : Type 0
Inner = Validation × ListSeen

abbrev pub inner_view : Validation × Listed → Inner
inner_view inner = (inner.0, listed_view inner.1)

-- what an entry is found to be: wrong, or a list, or neither
abbrev pub found_view : Result (Option (Validation × Listed)) Wrong → Result (Option Inner) Wrong
found_view (Ok inner) = Ok (option_map inner_view inner)
found_view (Err w) = Err w

-- ---- an attribute

abbrev pub is_from : Option ℕ → ℕ → Bool
is_from None number = false
is_from (Some first) number = nat_le first number

abbrev pub strict_if : Bool → Validation
strict_if true = Strict
strict_if false = Liberal

abbrev pub parser_with : Validation → Option Options → ℕ → Validation
parser_with Strict o number = Strict
parser_with Liberal None number = Liberal
parser_with Liberal (Some o) number = strict_if (is_from o.strict_from number)

-- the parser of an attribute: from the number on that its set states, the strict one
abbrev pub parser_of : Lines → Validation → ℕ → ℕ → Validation
parser_of table v set number = parser_with v (line_options table set) number

abbrev pub picked : Lines → ℕ → ℕ → Option (List ℕ) → Option ℕ
picked table choice by None = place_of (rest_key choice) table
picked table choice by (Some bytes) = picked_as table choice (kind_at table by) bytes

abbrev pub number_at : Option LineSeen → Option ℕ
number_at None = None
number_at (Some line) = option_map (λ span. span.first) line.span

abbrev pub is_place : ℕ → Option ℕ → Bool
is_place place None = false
is_place place (Some other) = other == place

-- the case that the last attribute of this number picks; none where the number means another row here
abbrev pub picked_by : Lines → ListSeen → ℕ → ℕ → Option ℕ → Option ℕ
picked_by table list choice by None = None
picked_by table list choice by (Some number) =
    if is_place by (row_in table list.0.set number)
    then picked table choice by (last_payload number list.2) else None

abbrev pub picked_in : Lines → ListSeen → ℕ → Option ℕ → Option ℕ
picked_in table list choice None = None
picked_in table list choice (Some by) =
    picked_by table list choice by (number_at (slice_get table by))

abbrev pub chosen_of : ContextSeen → ListSeen → Options → Option ℕ → Option ℕ
chosen_of context list o None = None
chosen_of context list o (Some choice) =
    if o.by_family then row_in context.0 choice context.1
    else picked_in context.0 list choice o.by

abbrev pub line_by : ContextSeen → ListSeen → ℕ → Options → Option Kind → Option ℕ
line_by context list row o (Some kind.Choice) = chosen_of context list o o.of
line_by context list row o k = Some row

-- the place of the line that says what an attribute is: its row, or the case that its choice picks
abbrev pub line_of : ContextSeen → ListSeen → ℕ → Options → Option ℕ
line_of context list row o = line_by context list row o o.kind

-- a parser keeps the last of equal attributes, so the liberal one, which looks into no nest before all are read, only
-- sees that one's
abbrev pub is_kept : Validation → Options → List ℕ → List ℕ → Bool
is_kept Strict o entry rest = true
is_kept Liberal o entry rest = o.multi || not (is_some (last_payload (entry_number entry) rest))

abbrev pub inner_of : Validation → Shape → List ℕ → Option Inner
inner_of v (shape.Nest nest) payload = Some (v, (nest, false, drop (align nest.header) payload))
inner_of v (shape.Hops nest) payload = Some (v, (nest, true, payload))
inner_of v s payload = None

abbrev pub unless_wrong : Option Wrong → Option Inner → Result (Option Inner) Wrong
unless_wrong None inner = Ok inner
unless_wrong (Some w) inner = Err w

-- what is wrong with an attribute itself
abbrev pub attribute_wrong : Validation → ContextSeen → Word → Options → Shape → List ℕ → Option Wrong
attribute_wrong v context w o s entry =
    option_or (flag_wrong v w o.kind s (is_flagged entry))
    (option_or (shape_wrong v context s (drop 4 entry)) (length_wrong o (drop 4 entry)))

abbrev pub shape_found : Validation → ContextSeen → Word → Options → Shape → List ℕ → List ℕ
    → Result (Option Inner) Wrong
shape_found v context w o s entry rest =
    unless_wrong (attribute_wrong v context w o s entry)
    (if is_kept v o entry rest then inner_of v s (drop 4 entry) else None)

abbrev pub line_found : Validation → ContextSeen → ListSeen → ℕ → Option LineSeen → List ℕ → List ℕ
    → Result (Option Inner) Wrong
line_found v context list row None entry rest = Ok None
line_found v context list row (Some line) entry rest =
    shape_found v context line.word (options_of line)
    (case_shape context.0 (line_of context list row (options_of line)) (drop 4 entry)) entry rest

abbrev pub unknown_found : Validation → Result (Option Inner) Wrong
unknown_found Strict = Err wrong.Unknown
unknown_found Liberal = Ok None

-- an attribute without a row is one that the kernel does not know
abbrev pub row_found : Validation → ContextSeen → ListSeen → Option ℕ → List ℕ → List ℕ
    → Result (Option Inner) Wrong
row_found v context list None entry rest = unknown_found v
row_found v context list (Some row) entry rest =
    line_found (parser_of context.0 v list.0.set (entry_number entry)) context list row
    (slice_get context.0 row) entry rest

-- ---- an entry of a list, before this rest of it

abbrev pub entry_row : ContextSeen → ListSeen → List ℕ → Option ℕ
entry_row context list entry = row_in context.0 list.0.set (entry_number entry)

-- a hop is its structure, and attributes
abbrev pub hop_found : Validation → Nest → List ℕ → Result (Option Inner) Wrong
hop_found v nest entry = Ok (inner_of v (shape.Nest nest) entry)

abbrev pub entry_found : Validation → ContextSeen → ListSeen → List ℕ → List ℕ
    → Result (Option Inner) Wrong
entry_found v context list entry rest =
    if list.1 then hop_found v list.0 entry
    else row_found v context list (entry_row context list entry) entry rest

-- the part of a path that it is
abbrev pub entry_step : ContextSeen → ListSeen → List ℕ → Step
entry_step context list entry =
    if list.1 then record { number = None; row = None }
    else record { number = Some (entry_number entry); row = entry_row context list entry }

-- ---- a list

-- a hop states its length in its first two bytes, and is padded as an attribute is
abbrev pub front_of : ListSeen → ℕ
front_of list = if list.1 && nat_lt 4 list.0.header then list.0.header else 4

-- bytes that are no entry, behind all: the liberal parser takes them behind attributes
abbrev pub rest_wrong : Validation → ListSeen → List Step → List ℕ → Option Where
rest_wrong v list path [] = None
rest_wrong Strict list path bytes = Some (path, wrong.Rest (length bytes))
rest_wrong Liberal list path bytes =
    if list.1 then Some (path, wrong.Rest (length bytes)) else None

-- how a list in an entry goes through, if ten are not open yet
abbrev pub Deeper : Type 0
Deeper = Option (Validation → List Step → ListSeen → Option Where)

abbrev pub enter : Deeper → List Step → Inner → Option Where
enter None path inner = Some (path, wrong.Deep)
enter (Some deeper) path inner = deeper inner.0 path inner.1

abbrev pub found_wrong : Deeper → List Step → Result (Option Inner) Wrong → Option Where
found_wrong deeper path (Err w) = Some (path, w)
found_wrong deeper path (Ok None) = None
found_wrong deeper path (Ok (Some inner)) = enter deeper path inner

abbrev pub entry_wrong : Deeper → ContextSeen → Validation → List Step → ListSeen → List ℕ → List ℕ
    → Option Where
entry_wrong deeper context v path list entry rest =
    found_wrong deeper (path ++ entry_step context list entry ∷ [])
    (entry_found v context list entry rest)

abbrev pub sized_wrong : Deeper → ContextSeen → Validation → List Step → ListSeen → Option ℕ → List ℕ
    → (List ℕ → Option Where) → Option Where
sized_wrong deeper context v path list None bytes later = rest_wrong v list path bytes
sized_wrong deeper context v path list (Some size) bytes later =
    option_or (entry_wrong deeper context v path list (take size bytes) (behind size bytes))
    (later (behind size bytes))

-- the first that is wrong in what is left of a list, among at most so many entries
unfoldable pub left_wrong : Deeper → ContextSeen → Validation → List Step → ListSeen → ℕ → List ℕ
    → Option Where
left_wrong deeper context v path list zero bytes = rest_wrong v list path bytes
left_wrong deeper context v path list (suc count) bytes =
    sized_wrong deeper context v path list (entry_size (front_of list) bytes) bytes
    (left_wrong deeper context v path list count)

-- the same of a whole list: it has fewer entries than bytes
abbrev pub whole_wrong : Deeper → ContextSeen → Validation → List Step → ListSeen → Option Where
whole_wrong deeper context v path list =
    left_wrong deeper context v path list (length list.2) list.2

-- the same of a list and those in it, of which so many may be open beside it
unfoldable pub list_wrong : ContextSeen → ℕ → Validation → List Step → ListSeen → Option Where
list_wrong context zero v path list = whole_wrong None context v path list
list_wrong context (suc depth) v path list =
    whole_wrong (Some (list_wrong context depth)) context v path list

-- how lists in one go through, beside which so many may be open
abbrev pub deeper_at : ContextSeen → ℕ → Deeper
deeper_at context zero = None
deeper_at context (suc depth) = Some (list_wrong context depth)

-- ---- a body

abbrev pub shaped_wrong : Validation → ContextSeen → Shape → List ℕ → Option Where
shaped_wrong v context (shape.Nest nest) bytes =
    list_wrong context 9 v [] (nest, false, drop (align nest.header) bytes)
shaped_wrong v context s bytes = option_map (λ w. ([], w)) (shape_wrong v context s bytes)

abbrev pub body_wrong : Validation → Option ContextSeen → Shape → List ℕ → Option Where
body_wrong v None s bytes = None
body_wrong v (Some context) s bytes = shaped_wrong v context s bytes

-- what this parser refuses first of a body: nothing where no table has its message
abbrev pub violation_by : Validation → BodySeen → Option Where
violation_by v body = body_wrong v (body_context body) (body_shape body) body.3

abbrev pub is_strict : Option Options → Bool
is_strict None = false
is_strict (Some o) = o.strict

abbrev pub line_validation : Option Lines → Option ℕ → Validation
line_validation (Some table) (Some line) = strict_if (is_strict (line_options table line))
line_validation table line = Liberal

-- the parser that the kernel reads a message by, as the line of the message says
abbrev pub validation_of : BodySeen → Validation
validation_of body = line_validation body.0 body.1

-- what that parser refuses first
abbrev pub violation_in : BodySeen → Option Where
violation_in body = violation_by (validation_of body) body

-- ---- in words

abbrev pub wrong_text : Wrong → List ℕ
wrong_text (wrong.Kind breach) = breach_text breach
wrong_text (wrong.Length span) =
    codes "not of "
    ++ (decimal span.first ++ (codes " to " ++ (decimal span.last ++ codes " bytes")))
wrong_text (wrong.Range span) =
    codes "not from " ++ (decimal span.first ++ (codes " to " ++ decimal span.last))
wrong_text (wrong.Signed first last) =
    codes "not from " ++ (signed_decimal first ++ (codes " to " ++ signed_decimal last))
wrong_text (wrong.Mask mask) = codes "bits that are not in 0x" ++ digits 16 false mask
wrong_text wrong.Unselected = codes "bits that are not selected"
wrong_text wrong.Unknown = codes "unknown attribute"
wrong_text wrong.NotNested = codes "NLA_F_NESTED is missing"
wrong_text wrong.Nested = codes "NLA_F_NESTED not expected"
wrong_text wrong.Deep = codes "a nest in too many"
wrong_text (wrong.Rest count) = decimal count ++ codes " bytes after the attributes"

-- the attribute and what is wrong with it
abbrev pub violation_text : Lines → List Step → Wrong → List ℕ
violation_text table path w = path_text table path ++ (codes ": " ++ wrong_text w)
