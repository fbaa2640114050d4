-- Bytes as hexadecimal digits.
use Rattle.std.specs.Prelude.{ℕ, ◌/◌, ◌%◌, ◌==◌, false, if◌then◌else◌, List, [], ◌∷◌, ◌++◌, length}
use Rattle.std.specs.Prelude.{codes, drop, take, slice_range}
use Rattle.std.specs.Fmt.{digits}
use Rattle.std.specs.List.{flat_map}

-- two hexadecimal digits
abbrev pub byte_text : ℕ → List ℕ
byte_text b = digits 16 false (b / 16) ++ digits 16 false (b % 16)

-- two a byte
abbrev pub hex_text : List ℕ → List ℕ
hex_text bytes = flat_map byte_text bytes

-- as one number, or that there are none
abbrev pub bytes_text : List ℕ → List ℕ
bytes_text [] = codes "empty"
bytes_text (b ∷ bytes) = codes "0x" ++ hex_text (b ∷ bytes)

-- in JSON
abbrev pub bytes_json : List ℕ → List ℕ
bytes_json bytes = codes "{\"bytes\":\"" ++ (hex_text bytes ++ codes "\"}")

-- two a byte, each after a colon
abbrev pub later_hex_text : List ℕ → List ℕ
later_hex_text bytes = flat_map (λ b. codes ":" ++ byte_text b) bytes

-- two a byte, with colons between them
abbrev pub hardware_text : List ℕ → List ℕ
hardware_text [] = []
hardware_text (b ∷ bytes) = byte_text b ++ later_hex_text bytes

-- a hardware address, or that there is none
abbrev pub address_text : List ℕ → List ℕ
address_text [] = codes "empty"
address_text (b ∷ bytes) = hardware_text (b ∷ bytes)

-- sixteen bytes in five groups (RFC 4122); others as bytes
abbrev pub uuid_text : List ℕ → List ℕ
uuid_text bytes =
    if length bytes == 16
    then hex_text (take 4 bytes) ++ (codes "-" ++ (hex_text (slice_range bytes 4 6)
    ++ (codes "-" ++ (hex_text (slice_range bytes 6 8) ++ (codes "-"
    ++ (hex_text (slice_range bytes 8 10) ++ (codes "-" ++ hex_text (drop 10 bytes))))))))
    else bytes_text bytes
