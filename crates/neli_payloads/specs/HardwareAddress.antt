-- Hardware addresses: at most 32 bytes, and their text.
use Rattle.std.specs.Prelude.{ℕ, ◌/◌, ◌%◌, List, [], ◌∷◌, ◌++◌, codes, length, Result, Ok, Err, nat_le, if◌then◌else◌}
use Rattle.std.specs.Char.{digit_char}
use Rattle.std.specs.List.{flat_map}
use Rattle.neli_wire.specs.declared.errors.DeError.{DeError}
use Rattle.neli_wire.specs.declared.errors.DeError.TheVariants.{InvalidInput}

-- the address of bytes: themselves, if they are at most 32
abbrev pub hardware_address : List ℕ → Result (List ℕ) DeError
hardware_address s = if nat_le (length s) 32 then Ok s else Err (InvalidInput (length s))

-- ---- text

-- the two lower-case hexadecimal digits of a byte
abbrev pub byte_text : ℕ → List ℕ
byte_text b = digit_char (b / 16) ∷ digit_char (b % 16) ∷ []

-- the bytes with colons between them; empty without bytes
abbrev pub hardware_text : List ℕ → List ℕ
hardware_text [] = []
hardware_text (b ∷ rest) = byte_text b ++ flat_map (λ c. codes ":" ++ byte_text c) rest
