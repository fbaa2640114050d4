-- Bit arrays: the numbers that are set, from 1 to a capacity.
use Rattle.std.specs.Prelude.{ℕ, ◌+◌, ◌-◌, ◌*◌, ◌/◌, ◌%◌, ◌<◌, Bool, ◌||◌, List, length, ◌==◌, nat_le, slice_index}
use Rattle.std.specs.Int.{bit_at}
use Rattle.std.specs.List.{filter, range_with_len}
use Rattle.neli_util.specs.Groups.{has}

-- the largest number that can be set, and the numbers that are, lowest first
pub record BitArray : Type 0 where
  pub capacity : ℕ
  pub numbers : List ℕ

-- the numbers from 1 to n
abbrev pub up_to : ℕ → List ℕ
up_to n = range_with_len 1 n

-- how many words of 32 bits hold this many bits
abbrev pub words_for : ℕ → ℕ
words_for bits = (bits + 31) / 32

-- more words than a bit array can have
abbrev pub AreTooMany : ℕ → Type 0
AreTooMany words = 134217727 < words

-- the array with another capacity: the numbers within it stay
abbrev pub with_capacity : ℕ → BitArray → BitArray
with_capacity capacity a = record { capacity = capacity; numbers = filter (λ n. nat_le n capacity) a.numbers }

-- the array with a number set
abbrev pub with_number : ℕ → BitArray → BitArray
with_number n a =
    record { capacity = a.capacity; numbers = filter (λ k. has a.numbers k || (k == n)) (up_to a.capacity) }

-- whether the words have the bit of number n, which is bit n - 1 counted from the lowest of the first word
abbrev pub has_bit : List ℕ → ℕ → Bool
has_bit words n = bit_at (slice_index words ((n - 1) / 32)) ((n - 1) % 32) == 1

-- the array of these words
abbrev pub array_of : List ℕ → BitArray
array_of words = let n = 32 * length words in record { capacity = n; numbers = filter (has_bit words) (up_to n) }
