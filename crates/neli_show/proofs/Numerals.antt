-- The numbers in words.
use Rattle.std.proofs.Common.{◌≡◌, ℕ, true, true≢false, List, length, Some, None, Result, Ok, Err}
use Rattle.std.proofs.Common.{Option, sym, ◌∙◌, ap, refl}
use Rattle.std.specs.Prelude.{◌&&◌, nat_lt}
use Rattle.std.specs.Result.{result_ok}
use Rattle.std.specs.Str.{all_ascii_digits}
use Rattle.std.specs.Str.Parse.{ParsesUnsigned, digits_value, without_leading_plus}
use Rattle.std.proofs.lemmas.Bool.{and_from, and_parts, cond_both, lt-ltb, ltb-true}
use Rattle.std.proofs.lemmas.Str.Parse.{IsNumeralModel, numerals_by_value, tells_all_ascii_digits}
use Rattle.neli_show.specs.Numbers.{is_numeral, number_in}

numerals : IsNumeralModel (λ ds. all_ascii_digits ds ≡ true) (digits_value 10)
numerals = numerals_by_value _ tells_all_ascii_digits

-- parsing a word returns its number
pub number_is : {E : Type 0} (word : List ℕ) (r : Result ℕ E) → ParsesUnsigned 16 10 word r
    → result_ok r ≡ number_in word
number_is word (Ok n) read =
    let ds = without_leading_plus word in
    let all : (is_numeral ds && nat_lt (digits_value 10 ds) 65536) ≡ true
    = and_from (is_numeral ds) _
    (and_from (nat_lt 0 (length ds)) _ (lt-ltb 0 (length ds) read.0.0.0)
    (numerals.from ds read.0.0.1))
    (lt-ltb (digits_value 10 ds) 65536 read.0.1) in
    cond_both (is_numeral ds && nat_lt (digits_value 10 ds) 65536) _ _
    (λ (o : Option ℕ). Some n ≡ o)
    (λ e. ap Some read.1) (λ e. absurd (true≢false (sym all ∙ e)))
number_is word (Err error) read =
    let ds = without_leading_plus word in
    cond_both (is_numeral ds && nat_lt (digits_value 10 ds) 65536) _ _ (λ (o : Option ℕ). None ≡ o)
    (λ e.
    let parts = and_parts (is_numeral ds) _ e in
    let digits = and_parts (nat_lt 0 (length ds)) _ parts.0 in
    absurd (read (
      (ltb-true 0 (length ds) digits.0, numerals.to ds digits.1),
      ltb-true _ 65536 parts.1,
    )))
    (λ e. refl)
