-- Reads of a caller's bytes.
use Rattle.std.specs.Prelude.{◌≡◌, ◌≢◌, ℕ, ◌+◌, ◌<◌, ℤ, nat_le, if◌then◌else◌, All, List, length}
use Rattle.std.specs.Prelude.{slice_index, take}
use Rattle.neli_c_parts.specs.Codes.{ok, short}

-- of a number of n bytes at a place in so many bytes
abbrev pub number_code : ℕ → ℕ → ℕ → ℤ
number_code n place size = if nat_le (place + n) size then ok else short

-- the bytes begin with a text of n bytes: none of them is zero, and the next one is
abbrev pub BeginsWithText : ℕ → List ℕ → Type 0
BeginsWithText n bytes = (n < length bytes) × (slice_index bytes n ≡ 0) × All (λ b. b ≢ 0) (take n bytes)
