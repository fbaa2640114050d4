-- Numbers, and ranges of them.
use Rattle.std.specs.Prelude.{ℕ, ◌+◌, ◌-◌, ◌*◌, ◌^◌, ◌&&◌, ◌==◌, nat_lt, nat_le, if◌then◌else◌, List, length}
use Rattle.std.specs.Prelude.{take, drop, slice_index, Option, Some, None, fold}
use Rattle.std.specs.List.{position}
use Rattle.neli_tables.specs.declared.number.Span.{Span}

-- the value of a digit: `0` to `9`, and `a` to `f`
abbrev pub digit_of : ℕ → Option ℕ
digit_of c =
    if nat_le 48 c && nat_le c 57 then Some (c - 48)
    else (if nat_le 97 c && nat_le c 102 then Some (c - 97 + 10) else None)

-- a number with one digit more, if that is a digit of the base, and the number has at most 64 bits
abbrev pub and_digit : ℕ → Option ℕ → Option ℕ → Option ℕ
and_digit base (Some number) (Some digit) =
    if nat_lt digit base && nat_lt (number * base + digit) (2 ^ 64) then Some (number * base + digit) else None
and_digit base number digit = None

abbrev pub with_digit : ℕ → Option ℕ → ℕ → Option ℕ
with_digit base number c = and_digit base number (digit_of c)

-- the number in one or more digits of this base
abbrev pub digits_in : ℕ → List ℕ → Option ℕ
digits_in base digits = if length digits == 0 then None else fold (with_digit base) (Some 0) digits

-- the number of a word: decimal, or hexadecimal after `0x`
abbrev pub number_of : List ℕ → Option ℕ
number_of word =
    if nat_le 2 (length word) && ((slice_index word 0 == 48) && (slice_index word 1 == 120))
    then digits_in 16 (drop 2 word) else digits_in 10 word

-- from one number to another, if they are in order
abbrev pub ordered : Option ℕ → Option ℕ → Option Span
ordered (Some first) (Some last) = if nat_le first last then Some (record { first = first; last = last }) else None
ordered first last = None

-- the numbers of a word with its first dot here: one before it, and after a second dot another
abbrev pub span_at : List ℕ → Option ℕ → Option Span
span_at word None = ordered (number_of word) (number_of word)
span_at word (Some dot) =
    if slice_index word (dot + 1) == 46 then ordered (number_of (take dot word)) (number_of (drop (dot + 2) word))
    else None

-- the numbers of a word: one, or from one to another with `..` between them
abbrev pub span_of : List ℕ → Option Span
span_of word = span_at word (position (λ b. b == 46) word)
