-- The words of a script: numbers and bytes.
use Rattle.std.specs.Prelude.{◌≡◌, ℕ, ◌^◌, ◌%◌, ◌<◌, Bool, ◌&&◌, nat_lt, if◌then◌else◌, List, [], length, codes, Option}
use Rattle.std.specs.Prelude.{Some, None, Result, Ok, Err}
use Rattle.std.specs.Result.{result_ok}
use Rattle.std.specs.Char.{is_ascii_digit}
use Rattle.std.specs.List.{list_all}
use Rattle.std.specs.Str.{bytes_eq}
use Rattle.std.specs.Str.Parse.{digits_value}
use Rattle.hex.specs.Hex.{decode_of}
use Rattle.neli_program.specs.declared.words.LineError.{LineError}
use Rattle.neli_program.specs.declared.words.LineError.TheVariants.{Bad, Memory}

-- one decimal digit or more, and nothing else
abbrev pub is_numeral : List ℕ → Bool
is_numeral word = nat_lt 0 (length word) && list_all is_ascii_digit word

-- the number in a word, if it has so many bits at most
abbrev pub number : ℕ → List ℕ → Option ℕ
number bits word =
    if is_numeral word && nat_lt (digits_value 10 word) (2 ^ bits)
    then Some (digits_value 10 word) else None

-- the bytes of a word: pairs of hexadecimal digits in either case, or `-` for no byte
abbrev pub bytes_of : List ℕ → Option (List ℕ)
bytes_of word =
    if bytes_eq word (codes "-") then Some []
    else (if bytes_eq word [] then None else result_ok (decode_of word))

-- reading them takes memory: for pairs of characters, one or more
abbrev pub bytes_take_memory : List ℕ → Type 0
bytes_take_memory word = (0 < length word) × (length word % 2 ≡ 0)

-- the value is read, or refused as bad if there is none; or memory ran out, if reading takes some
abbrev pub Reads : {A : Type 0} → Option A → Type 0 → Result A LineError → Type 0
Reads said takes (Ok read) = said ≡ Some read
Reads said takes (Err Bad) = said ≡ None
Reads said takes (Err Memory) = takes
