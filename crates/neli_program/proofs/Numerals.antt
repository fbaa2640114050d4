-- What words are read as.
use Rattle.std.proofs.Common.{Bor, ◌≡◌, eqb, ℕ, ◌<◌, ◌^◌, true, false, ltb, List, length, Some, Result, Ok, Err, refl}
use Rattle.std.proofs.Common.{ap, rules}
use Rattle.std.specs.Prelude.{MatchOption, MatchResult}
use Rattle.std.specs.Result.{result_ok}
use Rattle.std.specs.Char.{is_ascii_digit}
use Rattle.std.specs.List.{list_all}
use Rattle.std.specs.Str.{IsUtf8}
use Rattle.std.specs.Str.Parse.{ParsesUnsigned, digits_value}
use Rattle.std.proofs.lemmas.Str.{IsUtf8-from_ascii}
use Rattle.std.proofs.lemmas.Str.Parse.{IsNumeralModel, numerals_by_value, parse_digits}
use Rattle.std.proofs.lemmas.Fmt.{IsAscii-from_digits}
use Rattle.std.proofs.lemmas.Bool.Decides.{nat_tests}
use Rattle.neli_program.specs.Words.{is_numeral, number}

pub numerals : IsNumeralModel (λ ds. list_all is_ascii_digit ds ≡ true) (digits_value 10)
numerals = numerals_by_value _ (search rules)

pub digits_utf8 : (word : List ℕ) → list_all is_ascii_digit word ≡ true → IsUtf8 word
digits_utf8 word digits = IsUtf8-from_ascii word (IsAscii-from_digits word (numerals.to word digits))

pub numeral_parts : (word : List ℕ) → is_numeral word ≡ true → (0 < length word) × (list_all is_ascii_digit word ≡ true)
numeral_parts word is = search (rules, nat_tests)

-- what is parsed of a numeral is its number
pub number_is : {E : Type 0} (bits : ℕ) (word : List ℕ) (r : Result ℕ E) → is_numeral word ≡ true
    → ParsesUnsigned bits 10 word r → result_ok r ≡ number bits word
number_is {E = E} bits word (Ok n) is parses =
    let parts = numeral_parts word is in
    let read = parse_digits numerals {E = E} bits word (Ok n) parses parts.1 in
    let small : ltb (digits_value 10 word) (2 ^ bits) ≡ true = search (rules, nat_tests) in
    rw (is, small) (ap Some read.1)
number_is {E = E} bits word (Err e) is parses =
    let parts = numeral_parts word is in
    let read = parse_digits numerals {E = E} bits word (Err e) parses parts.1 in
    let large : ltb (digits_value 10 word) (2 ^ bits) ≡ false = search (rules, nat_tests) in
    rw (is, large) refl

-- a numeral is text
pub text_of_numeral : {E : Type 0} (X : E → Type 0) (word : List ℕ) (r : Result (Bor (List ℕ)) E)
    → is_numeral word ≡ true → MatchResult r (λ s. (s.now ≡ word) × IsUtf8 word) (λ e. (¬ IsUtf8 word) × X e)
    → MatchOption (result_ok r) (is_numeral word ≡ false) (λ text. (text.now ≡ word) × (is_numeral word ≡ true))
text_of_numeral X word (Ok s) is read = (read.0, is)
text_of_numeral X word (Err e) is read = absurd (read.0 (digits_utf8 word (numeral_parts word is).1))

pub numeral_from : (word : List ℕ) → eqb (length word) 0 ≡ false → list_all is_ascii_digit word ≡ true
    → is_numeral word ≡ true
numeral_from word some digits = rw digits (search (rules, nat_tests))
