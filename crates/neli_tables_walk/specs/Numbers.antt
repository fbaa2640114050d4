-- Numbers in bytes.
use Rattle.std.specs.Prelude.{ℕ, ℤ, Bool, true, false, ◌||◌, not, ◌==◌, nat_lt, if◌then◌else◌, List}
use Rattle.std.specs.Prelude.{◌++◌}
use Rattle.std.specs.Prelude.{length, codes, Option, Some, None}
use Rattle.std.specs.Fmt.{decimal, digits, signed_decimal}
use Rattle.byteorder.specs.Endian.{big_number, little_number, twos_complement}
use Rattle.neli_tables.specs.declared.kind.Kind.{Kind}
use Rattle.neli_tables.specs.declared.kind.Kind.TheVariants as kind
use Rattle.neli_tables.specs.declared.options.Options.{Options}
use Rattle.neli_tables.specs.Columns.{plain_kind}
use Rattle.neli_tables_walk.specs.declared.number.Number.{Number}
use Rattle.neli_tables_walk.specs.declared.number.Width.{Width}

abbrev pub width_with : ℕ → Bool → Bool → Width
width_with size is_big is_signed = record { size = size; is_big = is_big; is_signed = is_signed }

-- in the host's order, which has the lowest byte first; without a sign, and with one
abbrev pub unsigned : ℕ → Option Width
unsigned size = Some (width_with size false false)

abbrev pub signed : ℕ → Option Width
signed size = Some (width_with size false true)

-- the highest byte first
abbrev pub big : ℕ → Option Width
big size = Some (width_with size true false)

-- four bytes, or eight where there are as many
abbrev pub four_or_eight : ℕ → ℕ
four_or_eight length = if nat_lt length 8 then 4 else 8

-- how a number of this kind lies in so many bytes
abbrev pub width_of : ℕ → Kind → Option Width
width_of length kind.U8 = unsigned 1
width_of length kind.U16 = unsigned 2
width_of length kind.U32 = unsigned 4
width_of length kind.U64 = unsigned 8
width_of length kind.S8 = signed 1
width_of length kind.S16 = signed 2
width_of length kind.S32 = signed 4
width_of length kind.S64 = signed 8
width_of length kind.Be16 = big 2
width_of length kind.Be32 = big 4
width_of length kind.Be64 = big 8
width_of length kind.Sbe32 = Some (width_with 4 true true)
width_of length kind.Uint = unsigned (four_or_eight length)
width_of length kind.Sint = signed (four_or_eight length)
width_of length k = None

-- ---- a number

-- the number with these bits, in so many bytes
abbrev pub number_as : Bool → ℕ → ℕ → Number
number_as true size bits = record { bits = bits; signed = Some (twos_complement size bits) }
number_as false size bits = record { bits = bits; signed = None }

-- the bits of a number in all of these bytes
abbrev pub bits_in : Bool → List ℕ → ℕ
bits_in true bytes = big_number (length bytes) bytes
bits_in false bytes = little_number (length bytes) bytes

-- bytes are a number of this width where they are as many, from one to eight
abbrev pub number_in : Width → List ℕ → Option Number
number_in w bytes =
    if not (length bytes == w.size) || nat_lt (length bytes) 1 || nat_lt 8 (length bytes) then None
    else Some (number_as w.is_signed (length bytes) (bits_in w.is_big bytes))

abbrev pub number_if : List ℕ → Option Width → Option Number
number_if bytes None = None
number_if bytes (Some w) = number_in w bytes

-- of the kinds that most numbers have
abbrev pub frequent_width : Kind → Option Width
frequent_width kind.U8 = unsigned 1
frequent_width kind.U16 = unsigned 2
frequent_width kind.U32 = unsigned 4
frequent_width kind.U64 = unsigned 8
frequent_width kind.S32 = signed 4
frequent_width k = None

-- the number that bytes of such a kind are
abbrev pub number_of : Kind → List ℕ → Option Number
number_of k bytes = number_if bytes (frequent_width k)

abbrev pub number_with : List ℕ → Option Kind → Option Number
number_with bytes None = None
number_with bytes (Some k) = number_of k bytes

-- the number that bytes are by these options, where no value has a name and it is printed in decimal digits; of a kind
-- that most numbers have
abbrev pub digits_by : Options → List ℕ → Option Number
digits_by o bytes = number_with bytes (plain_kind o)

-- ---- as text

abbrev pub signed_or : Option ℤ → ℕ → List ℕ
signed_or (Some z) bits = signed_decimal z
signed_or None bits = decimal bits

-- in decimal digits
abbrev pub plain_number_json : Number → List ℕ
plain_number_json n = signed_or n.signed n.bits

-- the same, or its bits in hexadecimal digits
abbrev pub plain_number_text : Bool → Number → List ℕ
plain_number_text true n = codes "0x" ++ digits 16 false n.bits
plain_number_text false n = plain_number_json n
