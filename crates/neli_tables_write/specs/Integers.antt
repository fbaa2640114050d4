-- Whole numbers, and the bytes that read as one.
use Rattle.std.specs.Prelude.{◌≡◌, ℕ, ℤ, pos, List, Option, Some, None}
use Rattle.neli_tables_walk.specs.declared.number.Number.{Number}
use Rattle.neli_tables_walk.specs.declared.number.Width.{Width}
use Rattle.neli_tables_walk.specs.Numbers.{number_in}
use Rattle.neli_tables_write.specs.declared.integer.Integer.{Integer}
use Rattle.neli_tables_write.specs.declared.integer.Integer.TheVariants.{Unsigned, Signed}

abbrev pub signed_or : Option ℤ → ℕ → ℤ
signed_or (Some z) bits = z
signed_or None bits = pos bits

-- the number that the walk reads
abbrev pub number_value : Number → ℤ
number_value n = signed_or n.signed n.bits

-- the number that was given
abbrev pub integer_value : Integer → ℤ
integer_value (Unsigned n) = pos n
integer_value (Signed z) = z

-- the walk reads this number of bytes, by their width
abbrev pub ReadsAs : Width → Integer → List ℕ → Type 0
ReadsAs w integer bytes =
    (n : Number) × (number_in w bytes ≡ Some n) × (number_value n ≡ integer_value integer)
