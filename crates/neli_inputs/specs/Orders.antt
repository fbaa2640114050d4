-- Numbers in the byte order of a file.
use Rattle.std.specs.Prelude.{ℕ, List, drop}
use Rattle.byteorder.specs.Endian.{big_number, little_number}
use Rattle.neli_inputs.specs.declared.order.Order.{Order}
use Rattle.neli_inputs.specs.declared.order.Order.TheVariants.{Little, Big}

-- the number in the four bytes at this offset
abbrev pub number_in : Order → List ℕ → ℕ → ℕ
number_in Little bytes after = little_number 4 (drop after bytes)
number_in Big bytes after = big_number 4 (drop after bytes)

-- the number in the two bytes at this offset
abbrev pub half_in : Order → List ℕ → ℕ → ℕ
half_in Little bytes after = little_number 2 (drop after bytes)
half_in Big bytes after = big_number 2 (drop after bytes)
