-- The text of a hardware address, as it is read: as `Display` prints it, but in either case.
use Rattle.std.specs.Prelude.{ℕ, zero, suc, ◌+◌, ◌-◌, ◌*◌, ◌==◌, ◌&&◌, List, [], ◌∷◌, drop, Option, Some, None, nat_le}
use Rattle.std.specs.Prelude.{option_map, if◌then◌else◌}

-- the value of a hexadecimal digit, in either case: `0` to `9` are 48 to 57, `a` to `f` 97 to 102, `A` to `F` 65 to 70
abbrev pub digit_value : ℕ → Option ℕ
digit_value c =
    if nat_le 48 c && nat_le c 57 then Some (c - 48)
    else if nat_le 97 c && nat_le c 102 then Some (c - 87)
    else if nat_le 65 c && nat_le c 70 then Some (c - 55)
    else None

-- the byte of two digits
abbrev pub byte_of_digits : Option ℕ → Option ℕ → Option ℕ
byte_of_digits (Some high) (Some low) = Some (high * 16 + low)
byte_of_digits high low = None

-- the byte that the first two characters of a text spell
abbrev pub byte_before : List ℕ → Option ℕ
byte_before (high ∷ low ∷ rest) = byte_of_digits (digit_value high) (digit_value low)
byte_before text = None

-- a byte, and then the end, or a colon and what `later` reads from the text after it
abbrev pub with_later : Option ℕ → List ℕ → (List ℕ → Option (List ℕ)) → Option (List ℕ)
with_later None rest later = None
with_later (Some b) [] later = Some (b ∷ [])
with_later (Some b) (c ∷ rest) later = if c == 58 then option_map (λ bs. b ∷ bs) (later rest) else None

-- the bytes of a text, at least one and at most this many
unfoldable pub bytes_of_text : ℕ → List ℕ → Option (List ℕ)
bytes_of_text zero text = None
bytes_of_text (suc room) text = with_later (byte_before text) (drop 2 text) (bytes_of_text room)

-- the address of a text: no bytes for the empty one, and at most 32
abbrev pub hardware_parsed : List ℕ → Option (List ℕ)
hardware_parsed [] = Some []
hardware_parsed text = bytes_of_text 32 text
