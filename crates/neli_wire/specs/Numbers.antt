-- Numbers on the wire: as many bytes as their type has, the lowest first.
use Rattle.std.specs.Prelude.{ℕ, ℤ, ◌<◌, ◌^◌, Bool, not, ◌==◌, List, [], ◌∷◌, slice_index, if◌then◌else◌}
use Rattle.std.specs.Int.{Width, cast_signed, cast_unsigned}
-- the bytes of a number, the lowest or the highest first, and the number that bytes spell
pub use Rattle.byteorder.specs.Endian.{little_bytes, little_number, big_bytes, big_number}

-- a byte list holds numbers below 256
abbrev pub AreBytes : List ℕ → Type 0
AreBytes s = (i : ℕ) → slice_index s i < 256

-- a number that n bytes can hold
abbrev pub FitsBytes : ℕ → ℕ → Type 0
FitsBytes n x = x < 256 ^ n

-- the bytes of a signed number of this width, n bytes, in two's complement
abbrev pub signed_bytes : Width → ℕ → ℤ → List ℕ
signed_bytes w n x = little_bytes n (cast_unsigned w x)

-- the signed number that n bytes spell in two's complement
abbrev pub signed_number : Width → ℕ → List ℕ → ℤ
signed_number w n bytes = cast_signed w (little_number n bytes)

-- a boolean as one byte
abbrev pub byte_of_bool : Bool → List ℕ
byte_of_bool b = (if b then 1 else 0) ∷ []

-- the boolean that a byte spells
abbrev pub bool_of_bytes : List ℕ → Bool
bool_of_bytes bytes = not (slice_index bytes 0 == 0)
