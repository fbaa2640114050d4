-- What the kernel's parsers refuse of one payload (lib/nlattr.c): the strict one, and the liberal one.
use Rattle.std.specs.Prelude.{ℕ, ℤ, Bool, true, false, not, ◌&&◌, ◌||◌, ◌==◌, nat_le, nat_lt, if◌then◌else◌}
use Rattle.std.specs.Prelude.{bit_and, negsuc, List, length, take, drop, position, Option, Some, None, is_some}
use Rattle.std.specs.Option.{option_or}
use Rattle.byteorder.specs.Endian.{little_number}
use Rattle.neli_tables.specs.declared.kind.Kind.{Kind}
use Rattle.neli_tables.specs.declared.kind.Kind.TheVariants as kind
use Rattle.neli_tables.specs.declared.number.Span.{Span}
use Rattle.neli_tables.specs.declared.options.Options.{Options}
use Rattle.neli_tables.specs.declared.word.Word.{Word}
use Rattle.neli_tables.specs.declared.word.Word.TheVariants as word
use Rattle.neli_tables_walk.specs.declared.breach.Breach.{Breach}
use Rattle.neli_tables_walk.specs.declared.breach.Breach.TheVariants.{Longer, NoZero, Shorter}
use Rattle.neli_tables_walk.specs.declared.number.Number.{Number}
use Rattle.neli_tables_walk.specs.declared.number.Width.{Width}
use Rattle.neli_tables_walk.specs.declared.shape.Shape.{Shape}
use Rattle.neli_tables_walk.specs.declared.shape.Shape.TheVariants as shape
use Rattle.neli_tables_walk.specs.Breaches.{size_breach, without_zero}
use Rattle.neli_tables_walk.specs.Numbers.{number_in, width_of}
use Rattle.neli_tables_walk.specs.Shapes.{ContextSeen, line_options}
use Rattle.neli_tables_walk.specs.Values.{payload_breach}
use Rattle.neli_tables_check.specs.declared.validation.Validation.{Validation}
use Rattle.neli_tables_check.specs.declared.validation.Validation.TheVariants.{Strict, Liberal}
use Rattle.neli_tables_check.specs.declared.wrong.Wrong.{Wrong}
use Rattle.neli_tables_check.specs.declared.wrong.Wrong.TheVariants as wrong

-- ---- lengths

-- a number is from the first to the last
abbrev pub is_within : Span → ℕ → Bool
is_within span number = nat_le span.first number && nat_le number span.last

-- the length of a payload: of a text without a zero at its end
abbrev pub text_length : Option Kind → List ℕ → ℕ
text_length (Some kind.Text) bytes = length (without_zero bytes)
text_length (Some kind.Ztext) bytes = length (without_zero bytes)
text_length k bytes = length bytes

abbrev pub unless_within : Option Span → ℕ → Option Wrong
unless_within None number = None
unless_within (Some span) number = if is_within span number then None else Some (wrong.Length span)

-- a length that `length=` does not allow
abbrev pub length_wrong : Options → List ℕ → Option Wrong
length_wrong o bytes = unless_within o.length (text_length o.kind bytes)

-- ---- values

abbrev pub is_negative : Option ℤ → Bool
is_negative (Some (negsuc n)) = true
is_negative z = false

-- a number is below the first or above the last
abbrev pub is_outside : Span → Number → Bool
is_outside span n = is_negative n.signed || not (is_within span n.bits)

abbrev pub range_wrong : Option Span → Number → Option Wrong
range_wrong None n = None
range_wrong (Some span) n = if is_outside span n then Some (wrong.Range span) else None

abbrev pub mask_wrong : Option ℕ → Number → Option Wrong
mask_wrong None n = None
mask_wrong (Some mask) n = if bit_and n.bits mask == n.bits then None else Some (wrong.Mask mask)

-- a number that `range=` or `mask=` does not allow
abbrev pub number_wrong : Options → Option Number → Option Wrong
number_wrong o None = None
number_wrong o (Some n) = option_or (range_wrong o.range n) (mask_wrong o.mask n)

abbrev pub widths_wrong : Options → Option Width → List ℕ → Option Wrong
widths_wrong o None bytes = None
widths_wrong o (Some w) bytes = number_wrong o (number_in w (take w.size bytes))

abbrev pub kinds_wrong : Options → Option Kind → List ℕ → Option Wrong
kinds_wrong o None bytes = None
kinds_wrong o (Some k) bytes = widths_wrong o (width_of (length bytes) k) bytes

-- the same of a payload that is one number: its first bytes, where there are more
abbrev pub values_wrong : Options → List ℕ → Option Wrong
values_wrong o bytes = if o.array then None else kinds_wrong o o.kind bytes

-- ---- kinds

-- the liberal parser takes a payload that is too long
abbrev pub taken_by : Validation → Option Breach → Option Breach
taken_by Liberal (Some (Longer size)) = None
taken_by v breach = breach

-- fewer bytes than these
abbrev pub least_breach : ℕ → List ℕ → Option Breach
least_breach size bytes = if nat_lt (length bytes) size then Some (Shorter size) else None

-- a text that has to have a zero, wherever it stands
abbrev pub zero_breach : List ℕ → Option Breach
zero_breach bytes = if is_some (position (λ b. b == 0) bytes) then None else Some NoZero

-- an address of the family AF_INET (2) has four bytes, one of AF_INET6 (10) sixteen
abbrev pub family_breach : ℕ → List ℕ → Option Breach
family_breach family bytes =
    if family == 2 then size_breach 4 bytes
    else (if family == 10 then size_breach 16 bytes else None)

abbrev pub breach_wrong : Option Breach → Option Wrong
breach_wrong None = None
breach_wrong (Some breach) = Some (wrong.Kind breach)

-- the bits of a `struct nla_bitfield32` are among those that it selects
abbrev pub unselected : List ℕ → Option Wrong
unselected bytes =
    if bit_and (little_number 4 (take 4 bytes)) (little_number 4 (take 4 (drop 4 bytes)))
    == little_number 4 (take 4 bytes) then None else Some wrong.Unselected

abbrev pub bits_wrong : Option Breach → List ℕ → Option Wrong
bits_wrong None bytes = if length bytes == 8 then unselected bytes else None
bits_wrong (Some breach) bytes = Some (wrong.Kind breach)

-- bytes without a meaning, which the strict parser does not support
abbrev pub pad_wrong : Validation → Option Wrong
pad_wrong Strict = Some wrong.Unknown
pad_wrong Liberal = None

abbrev pub kind_wrong : Validation → ℕ → Option Kind → Option Breach → List ℕ → Option Wrong
kind_wrong v family (Some kind.Text) breach bytes = breach_wrong (least_breach 1 bytes)
kind_wrong v family (Some kind.Ztext) breach bytes = breach_wrong (zero_breach bytes)
kind_wrong v family (Some kind.Address) breach bytes =
    breach_wrong (taken_by v (family_breach family bytes))
kind_wrong v family (Some kind.Sockaddr) breach bytes = breach_wrong (least_breach 16 bytes)
kind_wrong v family (Some kind.Bits) breach bytes = bits_wrong breach bytes
kind_wrong v family (Some kind.Pad) breach bytes = pad_wrong v
kind_wrong v family (Some kind.Flag) breach bytes = breach_wrong breach
kind_wrong v family (Some kind.Uint) breach bytes = breach_wrong breach
kind_wrong v family (Some kind.Sint) breach bytes = breach_wrong breach
kind_wrong v family k breach bytes = breach_wrong (taken_by v breach)

-- how a payload is not of its kind, where `breach` is how it cannot be printed as such
abbrev pub form_wrong : Validation → ℕ → Options → Option Breach → List ℕ → Option Wrong
form_wrong v family o breach bytes =
    if o.array then breach_wrong breach else kind_wrong v family o.kind breach bytes

abbrev pub options_wrong : Validation → ℕ → Option Options → Option Breach → List ℕ → Option Wrong
options_wrong v family None breach bytes = None
options_wrong v family (Some o) breach bytes =
    option_or (form_wrong v family o breach bytes)
    (option_or (length_wrong o bytes) (values_wrong o bytes))

-- what the line at a place does not allow: the kind, a length, a value
abbrev pub place_wrong : Validation → ContextSeen → ℕ → List ℕ → Option Wrong
place_wrong v context place bytes =
    options_wrong v context.1 (line_options context.0 place) (payload_breach context.0 place bytes)
    bytes

-- a nest is empty, or has the header of an attribute
abbrev pub nest_wrong : ℕ → List ℕ → Option Wrong
nest_wrong header bytes =
    if header == 0 && nat_lt 0 (length bytes) then breach_wrong (least_breach 4 bytes) else None

-- what is wrong with a payload of this shape
abbrev pub shape_wrong : Validation → ContextSeen → Shape → List ℕ → Option Wrong
shape_wrong v context (shape.Row place) bytes = place_wrong v context place bytes
shape_wrong v context (shape.Nest nest) bytes = nest_wrong nest.header bytes
shape_wrong v context (shape.Short nest) bytes = Some (wrong.Kind (Shorter nest.header))
shape_wrong v context s bytes = None

-- ---- the flag NLA_F_NESTED

-- a kind of which the policy says that it is no nest
abbrev pub is_flat : Option Kind → Bool
is_flat None = false
is_flat (Some kind.Nest) = false
is_flat (Some kind.Hops) = false
is_flat (Some kind.Choice) = false
is_flat (Some kind.Bytes) = false
is_flat (Some kind.Pad) = false
is_flat k = true

abbrev pub shape_flag_wrong : Option Kind → Shape → Bool → Option Wrong
shape_flag_wrong k (shape.Nest nest) flagged =
    if nest.header == 0 && not flagged then Some wrong.NotNested else None
shape_flag_wrong k s flagged = if flagged && is_flat k then Some wrong.Nested else None

-- the strict parser wants it of a nest that no structure precedes, and of no other; but looks for it at no attribute
-- that is numbered, and not typed
abbrev pub flag_wrong : Validation → Word → Option Kind → Shape → Bool → Option Wrong
flag_wrong Strict word.Attr k s flagged = shape_flag_wrong k s flagged
flag_wrong v w k s flagged = None
