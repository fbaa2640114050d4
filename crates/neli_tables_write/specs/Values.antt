-- Values by the options of their rows, and the bytes from which the walk reads them again.
use Rattle.std.specs.Prelude.{◌≡◌, ◌⊎◌, ℕ, ℤ, pos, negsuc, Bool, true, ◌&&◌, ◌==◌, nat_le, bit_and, is_none, List, []}
use Rattle.std.specs.Prelude.{◌∷◌, ◌++◌, length, codes, slice_get, Option, Some, None}
use Rattle.std.specs.Net.Grammar.{IsNumber}
use Rattle.std.specs.Str.Parse.{without_leading_plus}
use Rattle.neli_tables.specs.declared.kind.Kind.{Kind}
use Rattle.neli_tables.specs.declared.kind.Kind.TheVariants as kind
use Rattle.neli_tables.specs.declared.number.Span.{Span}
use Rattle.neli_tables.specs.declared.options.Options.{Options}
use Rattle.neli_tables.specs.Families.{Lines}
use Rattle.neli_tables_walk.specs.Shapes.{line_number as number_of_line}
use Rattle.neli_tables_walk.specs.declared.number.Width.{Width}
use Rattle.neli_tables_walk.specs.Numbers.{width_of}
use Rattle.neli_tables_write.specs.declared.given.Given.{Given}
use Rattle.neli_tables_write.specs.declared.given.Given.TheVariants.{Nothing, Number, Text, Bytes}
use Rattle.neli_tables_write.specs.declared.integer.Integer.{Integer}
use Rattle.neli_tables_write.specs.declared.integer.Integer.TheVariants.{Unsigned, Signed}
use Rattle.neli_tables_write.specs.Addresses.{IsHardwareOf, IsIpOf, IsIpv4Of, IsIpv6Of}
use Rattle.neli_tables_write.specs.Integers.{ReadsAs}
use Rattle.neli_tables_write.specs.Named.{row_named}

-- ---- what a row allows

abbrev pub is_in_span : Option Span → ℕ → Bool
is_in_span None n = true
is_in_span (Some span) n = nat_le span.first n && nat_le n span.last

abbrev pub is_in_mask : Option ℕ → ℕ → Bool
is_in_mask None n = true
is_in_mask (Some mask) n = bit_and n mask == n

abbrev pub is_allowed_signed : Options → ℤ → Bool
is_allowed_signed o (pos n) = is_in_span o.range n && is_in_mask o.mask n
is_allowed_signed o (negsuc n) = is_none o.range && is_none o.mask

-- a row allows a number: it is in its range and its mask, and one below 0 in none
abbrev pub is_allowed : Options → Integer → Bool
is_allowed o (Unsigned n) = is_in_span o.range n && is_in_mask o.mask n
is_allowed o (Signed z) = is_allowed_signed o z

-- the walk reads this number of bytes, by a kind
abbrev pub IsNumberBy : Option Kind → Integer → List ℕ → Type 0
IsNumberBy None integer bytes = ⊥
IsNumberBy (Some k) integer bytes =
    (w : Width) × (width_of (length bytes) k ≡ Some w) × ReadsAs w integer bytes

-- and a row allows it
abbrev pub IsNumberOf : Options → Integer → List ℕ → Type 0
IsNumberOf o integer bytes = (is_allowed o integer ≡ true) × IsNumberBy o.kind integer bytes

-- ---- names

-- the number of the line at a place; 0 where it has none
abbrev pub line_number : Lines → ℕ → ℕ
line_number table place = number_of_line (slice_get table place)

-- the number of the first row of a section that has this name
abbrev pub RowIs : Lines → ℕ → List ℕ → ℕ → Type 0
RowIs table section name n = (place : ℕ) × (row_named table section name ≡ Some place) × (n ≡ line_number table place)

-- the bits of a name, or those of digits
abbrev pub FlagIs : Lines → ℕ → List ℕ → ℕ → Type 0
FlagIs table flags text n =
    RowIs table flags text n ⊎ ((digits : List ℕ) × (text ≡ codes "0x" ++ digits)
    × IsNumber 16 (without_leading_plus digits) n)

abbrev pub ValueIs : Lines → Option ℕ → List ℕ → ℕ → Type 0
ValueIs table None text n = ⊥
ValueIs table (Some values) text n = RowIs table values text n

abbrev pub NamesBy : Lines → Option ℕ → Option ℕ → List ℕ → ℕ → Type 0
NamesBy table (Some flags) values text n = FlagIs table flags text n
NamesBy table None values text n = ValueIs table values text n

-- the number that a text names by the flag set or the enum of a row
abbrev pub NamesNumber : Lines → Options → List ℕ → ℕ → Type 0
NamesNumber table o text n = NamesBy table o.flags o.values text n

-- ---- values

-- these bytes are what a text means by a kind
abbrev pub IsTextOf : Lines → Options → Option Kind → List ℕ → List ℕ → Type 0
IsTextOf table o (Some kind.Text) text bytes = bytes ≡ text ++ 0 ∷ []
IsTextOf table o (Some kind.Ztext) text bytes = bytes ≡ text ++ 0 ∷ []
IsTextOf table o (Some kind.Hardware) text bytes = IsHardwareOf text bytes
IsTextOf table o (Some kind.Ipv4) text bytes = IsIpv4Of text bytes
IsTextOf table o (Some kind.Ipv6) text bytes = IsIpv6Of text bytes
IsTextOf table o (Some kind.Ip) text bytes = IsIpOf text bytes
IsTextOf table o (Some kind.Address) text bytes = IsIpOf text bytes
IsTextOf table o k text bytes =
    (n : ℕ) × NamesNumber table o text n × IsNumberOf o (Unsigned n) bytes

-- these bytes are the value that was given, by the options of a row
abbrev pub IsValueOf : Lines → Options → Given → List ℕ → Type 0
IsValueOf table o Nothing bytes = (o.kind ≡ Some kind.Flag) × (bytes ≡ [])
IsValueOf table o (Number integer) bytes = IsNumberOf o integer bytes
IsValueOf table o (Text text) bytes = IsTextOf table o o.kind text.now bytes
IsValueOf table o (Bytes given) bytes = bytes ≡ given.now
