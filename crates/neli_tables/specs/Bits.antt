-- The bits of a value, and their names.
use Rattle.std.specs.Prelude.{ℕ, Bool, ◌&&◌, ◌==◌, nat_lt, bit_and, bit_xor, if◌then◌else◌, List, [], ◌∷◌}
use Rattle.std.specs.Prelude.{Option, Some, None}
use Rattle.neli_tables.specs.declared.number.Span.{Span}
use Rattle.neli_tables.specs.Lines.{LineSeen}

abbrev pub first_of : Option Span → ℕ
first_of (Some span) = span.first
first_of None = 0

-- the number of a line; 0 where it has none
abbrev pub mask_of : LineSeen → ℕ
mask_of line = first_of line.span

-- all bits of a mask are set, and it has some
abbrev pub covers : ℕ → ℕ → Bool
covers bits mask = nat_lt 0 mask && bit_and bits mask == mask

-- bits without those of a mask
abbrev pub without : ℕ → ℕ → ℕ
without bits mask = bit_xor bits (bit_and bits mask)

-- a row names bits of this value
abbrev pub is_set : ℕ → LineSeen → Bool
is_set bits row = covers bits (mask_of row)

-- what is left of a value's bits without those that a row names
abbrev pub left_by : ℕ → ℕ → LineSeen → ℕ
left_by bits left row = if is_set bits row then without left (mask_of row) else left

-- of a value's bits these are left; without those that rows name
abbrev pub unnamed_bits : ℕ → ℕ → List LineSeen → ℕ
unnamed_bits bits left [] = left
unnamed_bits bits left (row ∷ rows) = unnamed_bits bits (left_by bits left row) rows
