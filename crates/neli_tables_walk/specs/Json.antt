-- JSON as text (RFC 8259), with no blanks between its parts.
use Rattle.std.specs.Prelude.{◌≡◌, ℕ, zero, suc, ℤ, List, [], ◌∷◌, ◌++◌, length, codes, Bool, true}
use Rattle.std.specs.Prelude.{not, ◌==◌, ◌&&◌, ◌||◌, nat_le}
use Rattle.std.specs.Fmt.{signed_decimal}
use Rattle.std.specs.List.{list_all}

-- a byte that stands for itself in a string: no control character, no quote, no reverse solidus
abbrev pub is_plain : ℕ → Bool
is_plain b = nat_le 32 b && not (b == 34 || b == 92)

-- a byte that may follow a reverse solidus: a quote, itself, a solidus, b, f, n, r or t
abbrev pub is_letter : ℕ → Bool
is_letter b =
    b == 34 || b == 92 || b == 47 || b == 98 || b == 102 || b == 110 || b == 114 || b == 116

-- a hexadecimal digit
abbrev pub is_hex : ℕ → Bool
is_hex b =
    (nat_le 48 b && nat_le b 57) || (nat_le 65 b && nat_le b 70) || (nat_le 97 b && nat_le b 102)

-- the text between the quotes of a string: characters as themselves, by a letter or by their number
pub data IsChars : List ℕ → Type 0 where
  plain : (text : List ℕ) → list_all is_plain text ≡ true → IsChars text
  letter : (b : ℕ) → is_letter b ≡ true → IsChars (codes "\\" ++ b ∷ [])
  numeral : (text : List ℕ) → length text ≡ 4 → list_all is_hex text ≡ true
      → IsChars (codes "\\u" ++ text)
  both : (text more : List ℕ) → IsChars text → IsChars more → IsChars (text ++ more)

mutual
  -- a value: true, an integer, a string, an array or an object
  pub data IsJson : List ℕ → Type 0 where
    truth : IsJson (codes "true")
    integer : (z : ℤ) → IsJson (signed_decimal z)
    string : (text : List ℕ) → IsChars text → IsJson (codes "\"" ++ (text ++ codes "\""))
    empty_array : IsJson (codes "[]")
    array : (text : List ℕ) → AreElements text → IsJson (codes "[" ++ (text ++ codes "]"))
    empty_object : IsJson (codes "{}")
    object : (text : List ℕ) → AreMembers text → IsJson (codes "{" ++ (text ++ codes "}"))

  -- values with commas between them
  pub data AreElements : List ℕ → Type 0 where
    element : (text : List ℕ) → IsJson text → AreElements text
    elements : (text more : List ℕ) → AreElements text → AreElements more
        → AreElements (text ++ (codes "," ++ more))

  -- names with values, with commas between them
  pub data AreMembers : List ℕ → Type 0 where
    member : (name value : List ℕ) → IsChars name → IsJson value
        → AreMembers (codes "\"" ++ (name ++ (codes "\":" ++ value)))
    members : (text more : List ℕ) → AreMembers text → AreMembers more
        → AreMembers (text ++ (codes "," ++ more))

-- a line: the text of one value
abbrev pub IsLine : List ℕ → Type 0
IsLine text = (value : List ℕ) × IsJson value × (text ≡ value ++ codes "\n")

-- so many lines, one after the other
abbrev pub AreSoManyLines : ℕ → List ℕ → Type 0
AreSoManyLines zero text = text ≡ []
AreSoManyLines (suc n) text =
    (line more : List ℕ) × IsLine line × AreSoManyLines n more × (text ≡ line ++ more)

-- lines, however many
abbrev pub AreLines : List ℕ → Type 0
AreLines text = (n : ℕ) × AreSoManyLines n text
