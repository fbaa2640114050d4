-- Numbers in decimal digits.
use Rattle.std.specs.Prelude.{ℕ, ◌/◌, ◌%◌, List, ◌++◌}
use Rattle.std.specs.Fmt.{decimal}

-- the tens and the ones of a number below 100, two digits
unfoldable pub two_digits : ℕ → List ℕ
two_digits n = decimal (n / 10) ++ decimal (n % 10)
