-- The policies of a family of generic netlink, as the running kernel states them (net/netlink/policy.c), and what its strict
-- parser refuses by them (lib/nlattr.c).
use Rattle.std.specs.Prelude.{ℕ, zero, suc, ◌+◌, ◌-◌, ℤ, Bool, ◌||◌, ◌==◌, nat_lt, int_lt}
use Rattle.std.specs.Prelude.{if◌then◌else◌, List, [], length, take, drop, find}
use Rattle.std.specs.Prelude.{Option, Some, None, is_some, Result, Ok, Err}
use Rattle.std.specs.Option.{option_or}
use Rattle.byteorder.specs.Endian.{little_number}
use Rattle.neli_tables.specs.declared.kind.Kind.{Kind}
use Rattle.neli_tables.specs.declared.kind.Kind.TheVariants as kind
use Rattle.neli_tables.specs.declared.number.Span.{Span}
use Rattle.neli_tables_walk.specs.Breaches.{size_breach, without_zero}
use Rattle.neli_tables_walk.specs.Controller.{first_payload}
use Rattle.neli_tables_walk.specs.Numbers.{number_if, width_of}
use Rattle.neli_tables_walk.specs.declared.number.Number.{Number}
use Rattle.neli_tables_walk.specs.declared.number.Width.{Width}
use Rattle.neli_tables_check.specs.Cuts.{behind, entry_number, entry_size, is_flagged}
use Rattle.neli_tables_check.specs.Diagnoses.{limit_in, limits_in, offset_by}
use Rattle.neli_tables_check.specs.Parsers.{breach_wrong, is_within, least_breach, mask_wrong, nest_wrong}
use Rattle.neli_tables_check.specs.Parsers.{range_wrong, unselected, zero_breach}
use Rattle.neli_tables_check.specs.declared.policies.Reply.{Reply}
use Rattle.neli_tables_check.specs.declared.policies.Ruled.{Ruled}
use Rattle.neli_tables_check.specs.declared.policies.Ruled.TheVariants.{Attributes, Elements}
use Rattle.neli_tables_check.specs.declared.policies.Unmet.{Unmet}
use Rattle.neli_tables_check.specs.declared.wrong.Wrong.{Wrong}
use Rattle.neli_tables_check.specs.declared.wrong.Wrong.TheVariants as wrong

-- ---- what the replies state

abbrev pub reply_view : Reply → List ℕ
reply_view r = r.attributes.items

-- the payload of the first attribute with this number in that of another
abbrev pub inside : ℕ → Option (List ℕ) → Option (List ℕ)
inside number None = None
inside number (Some bytes) = first_payload number bytes

-- what a reply states under three numbers, from the outside in
abbrev pub stated_in : ℕ → ℕ → ℕ → Reply → Option (List ℕ)
stated_in which outer inner r = inside inner (inside outer (first_payload which r.attributes.items))

abbrev pub states : ℕ → ℕ → ℕ → Reply → Bool
states which outer inner r = is_some (stated_in which outer inner r)

abbrev pub stated_by : ℕ → ℕ → ℕ → Option Reply → Option (List ℕ)
stated_by which outer inner None = None
stated_by which outer inner (Some r) = stated_in which outer inner r

-- what the first of them states that does
abbrev pub stated : ℕ → ℕ → ℕ → List Reply → Option (List ℕ)
stated which outer inner replies =
    stated_by which outer inner (find (states which outer inner) replies)

-- the policy of a command (CTRL_ATTR_OP_POLICY, 9): of its requests (CTRL_ATTR_POLICY_DO, 1), or of those that begin a
-- dump (CTRL_ATTR_POLICY_DUMP, 2)
abbrev pub policy_of : ℕ → Bool → List Reply → Option ℕ
policy_of command dumps replies = offset_by (stated 9 command (if dumps then 2 else 1) replies)

-- the row of an attribute in a policy (CTRL_ATTR_POLICY, 8)
abbrev pub row_of : ℕ → ℕ → List Reply → Option (List ℕ)
row_of policy number replies =
    if nat_lt 65535 policy then None else stated 8 policy number replies

-- ---- a row: attributes of enum netlink_policy_type_attr

abbrev pub number_of : ℕ → List ℕ → Option ℕ
number_of which row = offset_by (first_payload which row)

-- the kinds of enum netlink_attribute_type; none of any other number
abbrev pub kind_from : ℕ → Option Kind
kind_from sort =
    if sort == 1 then Some kind.Flag
    else (if sort == 2 then Some kind.U8
    else (if sort == 3 then Some kind.U16
    else (if sort == 4 then Some kind.U32
    else (if sort == 5 then Some kind.U64
    else (if sort == 6 then Some kind.S8
    else (if sort == 7 then Some kind.S16
    else (if sort == 8 then Some kind.S32
    else (if sort == 9 then Some kind.S64
    else (if sort == 10 then Some kind.Bytes
    else (if sort == 11 then Some kind.Text
    else (if sort == 12 then Some kind.Ztext
    else (if sort == 13 || sort == 14 then Some kind.Nest
    else (if sort == 15 then Some kind.Bits
    else (if sort == 16 then Some kind.Sint
    else (if sort == 17 then Some kind.Uint else None)))))))))))))))

abbrev pub kind_with : Option ℕ → Option Kind
kind_with None = None
kind_with (Some sort) = kind_from sort

-- NL_POLICY_TYPE_ATTR_TYPE (1)
abbrev pub kind_of : List ℕ → Option Kind
kind_of row = kind_with (number_of 1 row)

-- the lengths in bytes from MIN_LENGTH (6) to MAX_LENGTH (7)
abbrev pub least_of : Option ℕ → ℕ
least_of None = 0
least_of (Some least) = least

abbrev pub most_of : Option ℕ → ℕ
most_of None = 18446744073709551615
most_of (Some most) = most

abbrev pub lengths_of : List ℕ → Span
lengths_of row = record { first = least_of (number_of 6 row); last = most_of (number_of 7 row) }

-- a nest has attributes of another policy (POLICY_IDX, 8), an array of nests elements with such attributes
abbrev pub ruled_by : Option ℕ → Option ℕ → Option Ruled
ruled_by (Some sort) (Some policy) =
    if sort == 13 then Some (Attributes policy) else (if sort == 14 then Some (Elements policy) else None)
ruled_by sort policy = None

abbrev pub ruled_in : List ℕ → Option Ruled
ruled_in row = ruled_by (number_of 1 row) (number_of 8 row)

-- ---- a payload against its row

abbrev pub length_unmet : List ℕ → ℕ → Option Wrong
length_unmet row size =
    if is_within (lengths_of row) size then None else Some (wrong.Length (lengths_of row))

abbrev pub limit_of : Option Number → Option ℤ
limit_of None = None
limit_of (Some n) = n.signed

-- a number of eight bytes with a sign
abbrev pub signed_in : Option (List ℕ) → Option ℤ
signed_in None = None
signed_in (Some bytes) = limit_of (number_if bytes (width_of (length bytes) kind.S64))

abbrev pub unless_between : Option ℤ → Option ℤ → ℤ → Option Wrong
unless_between (Some first) (Some last) z =
    if int_lt z first || int_lt last z then Some (wrong.Signed first last) else None
unless_between first last z = None

-- from MIN_VALUE_S (2) to MAX_VALUE_S (3); without a sign from MIN_VALUE_U (4) to MAX_VALUE_U (5)
abbrev pub range_unmet : List ℕ → Number → Option ℤ → Option Wrong
range_unmet row n None = range_wrong (limits_in row) n
range_unmet row n (Some z) =
    unless_between (signed_in (first_payload 2 row)) (signed_in (first_payload 3 row)) z

-- also bits of the mask alone (MASK, 12)
abbrev pub value_unmet : List ℕ → Number → Option Wrong
value_unmet row n =
    option_or (range_unmet row n n.signed) (mask_wrong (limit_in (first_payload 12 row)) n)

abbrev pub sized_unmet : List ℕ → Width → Option Number → List ℕ → Option Wrong
sized_unmet row w None bytes = breach_wrong (size_breach w.size bytes)
sized_unmet row w (Some n) bytes = value_unmet row n

abbrev pub number_unmet : List ℕ → Option Width → List ℕ → Option Wrong
number_unmet row None bytes = Some wrong.Unknown
number_unmet row (Some w) bytes = sized_unmet row w (number_if bytes (Some w)) bytes

-- the bits that a `struct nla_bitfield32` selects are of the row's (BITFIELD32_MASK, 10), and its others are none
abbrev pub selected_unmet : List ℕ → List ℕ → Option Wrong
selected_unmet row bytes =
    mask_wrong (number_of 10 row)
    (record { bits = little_number 4 (take 4 (drop 4 bytes)); signed = None })

abbrev pub bits_unmet : List ℕ → List ℕ → Option Wrong
bits_unmet row bytes =
    if length bytes == 8 then option_or (unselected bytes) (selected_unmet row bytes)
    else breach_wrong (size_breach 8 bytes)

abbrev pub text_unmet : List ℕ → List ℕ → Option Wrong
text_unmet row bytes =
    option_or (breach_wrong (least_breach 1 bytes)) (length_unmet row (length (without_zero bytes)))

abbrev pub ztext_unmet : List ℕ → List ℕ → Option Wrong
ztext_unmet row bytes =
    option_or (breach_wrong (zero_breach bytes)) (length_unmet row (length (without_zero bytes)))

abbrev pub payload_unmet : List ℕ → Option Kind → List ℕ → Option Wrong
payload_unmet row None bytes = Some wrong.Unknown
payload_unmet row (Some kind.Flag) bytes = breach_wrong (size_breach 0 bytes)
payload_unmet row (Some kind.Bytes) bytes = length_unmet row (length bytes)
payload_unmet row (Some kind.Text) bytes = text_unmet row bytes
payload_unmet row (Some kind.Ztext) bytes = ztext_unmet row bytes
payload_unmet row (Some kind.Bits) bytes = bits_unmet row bytes
payload_unmet row (Some kind.Nest) bytes = nest_wrong 0 bytes
payload_unmet row (Some k) bytes = number_unmet row (width_of (length bytes) k) bytes

-- a nest has the flag NLA_F_NESTED, and nothing else has
abbrev pub flag_unmet : Option Kind → Bool → Option Wrong
flag_unmet (Some kind.Nest) flagged = if flagged then None else Some wrong.NotNested
flag_unmet k flagged = if flagged then Some wrong.Nested else None

abbrev pub attribute_unmet : List ℕ → List ℕ → Option Wrong
attribute_unmet row entry =
    option_or (flag_unmet (kind_of row) (is_flagged entry)) (payload_unmet row (kind_of row) (drop 4 entry))

-- ---- an entry of a list: what is wrong with it, or what the list in it has, if it is one

abbrev pub unless_unmet : Option Wrong → Option Ruled → Result (Option Ruled) Wrong
unless_unmet None inner = Ok inner
unless_unmet (Some w) inner = Err w

-- an attribute without a row is refused as unknown
abbrev pub row_judged : Option (List ℕ) → List ℕ → Result (Option Ruled) Wrong
row_judged None entry = Err wrong.Unknown
row_judged (Some row) entry = unless_unmet (attribute_unmet row entry) (ruled_in row)

abbrev pub entry_judged : List Reply → Ruled → List ℕ → Result (Option Ruled) Wrong
entry_judged replies (Attributes policy) entry =
    row_judged (row_of policy (entry_number entry) replies) entry
entry_judged replies (Elements policy) entry =
    unless_unmet (nest_wrong 0 (drop 4 entry)) (Some (Attributes policy))

-- ---- a list, whose bytes end at this offset of the whole

abbrev pub at : ℕ → Wrong → Option Unmet
at offset w = Some (record { offset = offset; wrong = w })

-- how a list in an entry is judged, if ten are not open yet
abbrev pub Deeper : Type 0
Deeper = Option (Ruled → ℕ → List ℕ → Option Unmet)

abbrev pub enter : Deeper → Ruled → ℕ → ℕ → List ℕ → Option Unmet
enter None inner offset end payload = at offset wrong.Deep
enter (Some deeper) inner offset end payload = deeper inner end payload

abbrev pub judged_unmet : Deeper → Result (Option Ruled) Wrong → ℕ → ℕ → List ℕ → Option Unmet
judged_unmet deeper (Err w) offset end payload = at offset w
judged_unmet deeper (Ok None) offset end payload = None
judged_unmet deeper (Ok (Some inner)) offset end payload = enter deeper inner offset end payload

-- the first entry of these bytes, which has this size
abbrev pub entry_unmet : Deeper → List Reply → Ruled → ℕ → ℕ → List ℕ → Option Unmet
entry_unmet deeper replies ruled end size bytes =
    judged_unmet deeper (entry_judged replies ruled (take size bytes)) (end - length bytes)
    ((end - length bytes) + size) (drop 4 (take size bytes))

-- bytes behind attributes that are none are refused; behind elements they are passed over
abbrev pub rest_unmet : Ruled → ℕ → List ℕ → Option Unmet
rest_unmet ruled end [] = None
rest_unmet (Attributes policy) end bytes = at (end - length bytes) (wrong.Rest (length bytes))
rest_unmet (Elements policy) end bytes = None

abbrev pub sized_left : Deeper → List Reply → Ruled → ℕ → Option ℕ → List ℕ → (List ℕ → Option Unmet)
    → Option Unmet
sized_left deeper replies ruled end None bytes later = rest_unmet ruled end bytes
sized_left deeper replies ruled end (Some size) bytes later =
    option_or (entry_unmet deeper replies ruled end size bytes) (later (behind size bytes))

-- the first that is not met in what is left of a list, among at most so many entries
unfoldable pub left_unmet : Deeper → List Reply → Ruled → ℕ → ℕ → List ℕ → Option Unmet
left_unmet deeper replies ruled end zero bytes = rest_unmet ruled end bytes
left_unmet deeper replies ruled end (suc count) bytes =
    sized_left deeper replies ruled end (entry_size 4 bytes) bytes
    (left_unmet deeper replies ruled end count)

-- the same of a whole list, and of those in it, of which so many may be open beside it
unfoldable pub list_unmet : List Reply → ℕ → Ruled → ℕ → List ℕ → Option Unmet
list_unmet replies zero ruled end bytes = left_unmet None replies ruled end (length bytes) bytes
list_unmet replies (suc depth) ruled end bytes =
    left_unmet (Some (list_unmet replies depth)) replies ruled end (length bytes) bytes

abbrev pub deeper_at : List Reply → ℕ → Deeper
deeper_at replies zero = None
deeper_at replies (suc depth) = Some (list_unmet replies depth)

-- what the kernel refuses first of a list of attributes by a policy
abbrev pub attributes_unmet : List Reply → ℕ → List ℕ → Option Unmet
attributes_unmet replies policy bytes = list_unmet replies 9 (Attributes policy) (length bytes) bytes

abbrev pub unmet_view : Result (Unit {0}) Unmet → Option Unmet
unmet_view (Ok _) = None
unmet_view (Err unmet) = Some unmet
