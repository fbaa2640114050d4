-- Numbers in words of the command line.
use Rattle.std.specs.Prelude.{ℕ, Bool, List, length, nat_lt, ◌&&◌, if◌then◌else◌, Option, Some}
use Rattle.std.specs.Prelude.{None}
use Rattle.std.specs.Str.{all_ascii_digits}
use Rattle.std.specs.Str.Parse.{digits_value, without_leading_plus}

-- one decimal digit or more, and nothing else
abbrev pub is_numeral : List ℕ → Bool
is_numeral digits = nat_lt 0 (length digits) && all_ascii_digits digits

-- the number in a word, after an optional plus, if it has at most 16 bits
abbrev pub number_in : List ℕ → Option ℕ
number_in word =
    let digits = without_leading_plus word in
    if is_numeral digits && nat_lt (digits_value 10 digits) 65536 then Some (digits_value 10 digits)
    else None
