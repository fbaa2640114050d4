-- Headers: fields of fixed sizes, one after the other.
use Rattle.std.specs.Prelude.{◌≡◌, ℕ}
use Rattle.neli_wire.specs.Numbers.{FitsBytes}

-- a value that stands for a number of n bytes, and is read from that number
pub record IsNamed {A : Type 0} (n : ℕ) (number_of : A → ℕ) (value_of : ℕ → A) (value : A) : Type 0 where
  pub fits : FitsBytes n (number_of value)
  pub named : value_of (number_of value) ≡ value
