-- Texts in quotes: strings of JSON (RFC 8259, section 7).
use Rattle.std.specs.Prelude.{ℕ, ◌/◌, ◌%◌, ◌||◌, ◌&&◌, ◌==◌, nat_lt, false, if◌then◌else◌, List}
use Rattle.std.specs.Prelude.{◌++◌, codes}
use Rattle.std.specs.Prelude.{Option, Some, None}
use Rattle.std.specs.Char.{encode_utf8}
use Rattle.std.specs.Fmt.{digits}
use Rattle.std.specs.List.{flat_map}
use Rattle.std.specs.Str.{chars, is_utf8}
use Rattle.neli_tables_walk.specs.declared.quoted.Escape.{Escape}
use Rattle.neli_tables_walk.specs.declared.quoted.Escape.TheVariants.{Plain, Letter, Number}

-- the form of a character: a letter for a quote, a reverse solidus, a line feed, a carriage return
-- and a tab, the number for other control characters
abbrev pub escape_of : ℕ → Escape
escape_of c =
    if c == 34 || c == 92 then Letter c
    else (if c == 10 then Letter 110
    else (if c == 13 then Letter 114
    else (if c == 9 then Letter 116
    else (if nat_lt c 32 || (nat_lt 126 c && nat_lt c 160) then Number else Plain))))

-- its bytes
abbrev pub escape_text : ℕ → Escape → List ℕ
escape_text c Plain = encode_utf8 c
escape_text c (Letter letter) = codes "\\" ++ encode_utf8 letter
escape_text c Number = codes "\\u00" ++ digits 16 false (c / 16) ++ digits 16 false (c % 16)

-- a character
abbrev pub escaped_char : ℕ → List ℕ
escaped_char c = escape_text c (escape_of c)

-- the characters of a text
abbrev pub escaped : List ℕ → List ℕ
escaped text = flat_map escaped_char (chars text)

-- a text
abbrev pub quoted : List ℕ → List ℕ
quoted text = codes "\"" ++ escaped text ++ codes "\""

-- bytes that are UTF-8
unfoldable pub text_in : List ℕ → Option (List ℕ)
text_in bytes = if is_utf8 bytes then Some bytes else None
