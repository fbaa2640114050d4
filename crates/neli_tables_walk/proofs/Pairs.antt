-- Numbers and bytes by pairs of digits, which are cut from tables.
use Rattle.std.proofs.Common.{◌≡◌, ℕ, ◌+◌, ◌*◌, ◌/◌, ◌%◌, ◌<◌, ◌≤◌, ◌^◌, List, [], ◌∷◌, ◌++◌, true, map, take}
use Rattle.std.proofs.Common.{drop, get_or, nat_lt, IsAscii, refl, sym, ap, ◌∙◌, arith, append_assoc}
use Rattle.std.proofs.Output.{has_written_append, has_written_of_eq}
use Rattle.std.proofs.lemmas.Bool.{ltb-true}
use Rattle.std.proofs.lemmas.Fmt.{decimal_digit, decimal_step}
use Rattle.std.proofs.lemmas.List.FromFn.{get_or-map-range_with_len}
use Rattle.std.proofs.lemmas.Str.Ascii.{IsAscii-cons, IsAscii-nil}
use Rattle.std.specs.Cmp.{first_so, second_so}
use Rattle.std.specs.Fmt.{HasWritten, decimal, digits}
use Rattle.std.specs.List.{list_all, range_with_len}
use Rattle.std.specs.declared.fmt.Formatter.{Formatter}
use Rattle.neli_tables_walk.specs.Digits.{two_digits}
use Rattle.neli_tables_walk.specs.Hex.{byte_text}
use Rattle.neli_tables_walk.specs.declared.digits.TheConstants.{PAIRS}
use Rattle.neli_tables_walk.specs.declared.hex.TheConstants.{HEX_PAIRS}

-- ---- a table, read at a place

-- two functions with equal tables are equal at each place of these
same_at :
    (f g : ℕ → List ℕ) (size : ℕ)
    → map f (range_with_len 0 size) ≡ map g (range_with_len 0 size)
    → (n : ℕ) → n < size → f n ≡ g n
same_at f g size same n below =
    sym (get_or-map-range_with_len f 0 size n n [] below (omega arith))
    ∙ ap (λ (table : List (List ℕ)). get_or table n []) same
    ∙ get_or-map-range_with_len g 0 size n n [] below (omega arith)

-- bytes that are all below 128 are ASCII
ascii_from : (bs : List ℕ) → list_all (λ b. nat_lt b 128) bs ≡ true → IsAscii bs
ascii_from [] all = IsAscii-nil
ascii_from (b ∷ bs) all =
    IsAscii-cons b bs
    (ltb-true b 128 (first_so (nat_lt b 128) (list_all (λ b. nat_lt b 128) bs) all))
    (ascii_from bs (second_so (nat_lt b 128) (list_all (λ b. nat_lt b 128) bs) all))

pub IsAscii-pairs : IsAscii PAIRS.now
IsAscii-pairs = ascii_from PAIRS.now refl

pub IsAscii-hex_pairs : IsAscii HEX_PAIRS.now
IsAscii-hex_pairs = ascii_from HEX_PAIRS.now refl

-- ---- what stands in the tables

-- a digit, two digits, and two hexadecimal ones
abbrev pub digit_at : ℕ → List ℕ
digit_at n = take 1 (drop (n * 2 + 1) PAIRS.now)

abbrev pub pair_at : ℕ → List ℕ
pair_at n = take 2 (drop (n * 2) PAIRS.now)

abbrev pub hex_pair_at : ℕ → List ℕ
hex_pair_at n = take 2 (drop (n * 2) HEX_PAIRS.now)

digits_are : map digit_at (range_with_len 0 10) ≡ map decimal (range_with_len 0 10)
unfolding digits
digits_are = refl

pairs_are : map pair_at (range_with_len 0 100) ≡ map two_digits (range_with_len 0 100)
unfolding digits two_digits
pairs_are = refl

hex_pairs_are : map hex_pair_at (range_with_len 0 256) ≡ map byte_text (range_with_len 0 256)
unfolding digits
hex_pairs_are = refl

pub digit_is : (n : ℕ) → n < 10 → digit_at n ≡ decimal n
digit_is = same_at digit_at decimal 10 digits_are

pub pair_is : (n : ℕ) → n < 100 → pair_at n ≡ two_digits n
pair_is = same_at pair_at two_digits 100 pairs_are

pub hex_pair_is : (n : ℕ) → n < 256 → hex_pair_at n ≡ byte_text n
hex_pair_is = same_at hex_pair_at byte_text 256 hex_pairs_are

-- ---- numbers by their pairs of digits

-- two digits that do not begin with 0 are a number
pub decimal_two : (n : ℕ) → 10 ≤ n → n < 100 → two_digits n ≡ decimal n
unfolding two_digits
decimal_two n low high =
    let fits : n < 2 ^ 64 = omega arith in
    let one : n % 10 < 10 = omega arith in
    rw (decimal_step n low fits, decimal_digit (n % 10) one) refl

-- a number is its hundreds, and then two digits
pub decimal_more : (n : ℕ) → 100 ≤ n → n < 2 ^ 64 → decimal (n / 100) ++ two_digits (n % 100) ≡ decimal n
unfolding two_digits
decimal_more n low fits =
    let tens : 10 ≤ n / 10 = omega arith in
    let tens_fit : n / 10 < 2 ^ 64 = omega arith in
    let hundreds : n / 10 / 10 ≡ n / 100 = omega arith in
    let ten : n % 100 / 10 ≡ n / 10 % 10 = omega arith in
    let one : n % 100 % 10 ≡ n % 10 = omega arith in
    rw (
      decimal_step n (omega arith) fits,
      decimal_step (n / 10) tens tens_fit,
      hundreds,
      ten,
      one,
      decimal_digit (n / 10 % 10) (omega arith),
      decimal_digit (n % 10) (omega arith),
    ) (simp append_assoc)

-- the hundreds are written, and then the two digits behind them
pub written_more :
    {W : Type 0} (took : W → List ℕ → W → Type 0) (f g h : Formatter W) (n : ℕ)
    → HasWritten took f (decimal (n / 100)) g → HasWritten took g (two_digits (n % 100)) h
    → 100 ≤ n → n < 2 ^ 64 → HasWritten took f (decimal n) h
written_more took f g h n hundreds two low fits =
    has_written_of_eq took _ _ _ _ (decimal_more n low fits)
    (has_written_append took _ _ _ _ _ hundreds two)
