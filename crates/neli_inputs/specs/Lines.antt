-- The lines of hexadecimal text.
use Rattle.std.specs.Prelude.{◌≡◌, ℕ, ◌+◌, Bool, true, false, ◌||◌, ◌&&◌, not, ◌==◌, nat_lt, nat_le, if◌then◌else◌}
use Rattle.std.specs.Prelude.{◌%◌, List, [], ◌∷◌, ◌++◌, codes, bytes_eq, length, take, drop, slice_index, Option, Some}
use Rattle.std.specs.Prelude.{None, is_some, option_and_then}
use Rattle.std.specs.List.{filter, position, slice_split}
use Rattle.std.specs.Option.{option_map, option_or, unwrap_or}
use Rattle.std.specs.Result.{result_ok}
use Rattle.hex.specs.Hex.{decode_of}
use Rattle.byteorder.specs.Endian.{big_number}
use Rattle.neli_inputs.specs.declared.line.Line.{Line}
use Rattle.neli_inputs.specs.declared.line.Line.TheVariants.{Empty, Bytes, Dump, LeftOut, Other}

-- a space, a tab or a carriage return
abbrev pub is_blank : ℕ → Bool
is_blank b = (b == 32) || (b == 9) || (b == 13)

-- a text without its blanks
abbrev pub digits_of : List ℕ → List ℕ
digits_of text = filter (λ b. not (is_blank b)) text

-- the bytes of pairs of hexadecimal digits, in either case
abbrev pub bytes_of_digits : List ℕ → Option (List ℕ)
bytes_of_digits digits = result_ok (decode_of digits)

-- a text from its first byte that is no blank
abbrev pub skip_blanks : List ℕ → List ℕ
skip_blanks [] = []
skip_blanks (b ∷ text) = if is_blank b then skip_blanks text else b ∷ text

-- the words of a text without blanks, up to the first two adjacent blanks; whether one stands before it
abbrev pub first_words : Bool → List ℕ → List ℕ
first_words after [] = []
first_words after (b ∷ text) =
    if is_blank b then (if after then [] else first_words true text) else b ∷ first_words false text

-- digits without the `0x` that may stand before them
abbrev pub without_prefix : List ℕ → List ℕ
without_prefix digits =
    if nat_le 2 (length digits) && (slice_index digits 0 == 48) && (slice_index digits 1 == 120)
    then drop 2 digits else digits

-- the number in one to eight bytes, the highest first; none in any other count of bytes
abbrev pub number_of : List ℕ → Option ℕ
number_of bytes =
    if nat_lt 0 (length bytes) && nat_le (length bytes) 8 then Some (big_number (length bytes) bytes) else None

-- the offset before the mark of a dump's line
abbrev pub offset_in : List ℕ → Option ℕ
offset_in text = option_and_then number_of (bytes_of_digits (without_prefix (digits_of text)))

-- the offset and the bytes, if there is an offset
abbrev pub with_offset : Option ℕ → Option (List ℕ) → Option (ℕ × List ℕ)
with_offset (Some offset) (Some bytes) = Some (offset, bytes)
with_offset offset bytes = None

-- a dump's line, which has these two texts before and after its mark: blanks follow the mark, and then words of bytes
abbrev pub dump_between : List ℕ → List ℕ → Option (ℕ × List ℕ)
dump_between before after =
    if length (skip_blanks after) == length after then None
    else with_offset (offset_in before) (bytes_of_digits (first_words false (skip_blanks after)))

-- the mark is the first colon
abbrev pub dump_at : List ℕ → Option ℕ → Option (ℕ × List ℕ)
dump_at text None = None
dump_at text (Some mark) = dump_between (take mark text) (drop (mark + 1) text)

-- the offset and the bytes of a dump's line
abbrev pub dump_of : List ℕ → Option (ℕ × List ℕ)
dump_of text = dump_at text (position (λ b. b == 58) text)

-- ---- rows: an offset without a mark, and bytes of two digits

-- a line without the frame that strace puts before an offset
abbrev pub unframed : List ℕ → List ℕ
unframed text = if bytes_eq (take 3 text) (codes " | ") then drop 3 text else text

-- an even count of digits
abbrev pub even_digits : List ℕ → List ℕ
even_digits digits = if length digits % 2 == 0 then digits else 48 ∷ digits

-- the offset in a word of four to sixteen digits
abbrev pub address_in : List ℕ → Option ℕ
address_in word =
    if nat_lt (length word) 4 || nat_lt 16 (length word) then None
    else option_and_then number_of (bytes_of_digits (even_digits word))

-- a row ends with an empty word, as between two blanks; one at index 8 is the gap in its middle
abbrev pub ends_row : ℕ → List ℕ → Bool
ends_row index word = (length word == 0) && not (index == 8)

abbrev pub is_of_row : List ℕ → Bool
is_of_row word = (length word == 0) || (length word == 2)

-- the digits of words, the first of them at this index: each of two, up to the end of the row
abbrev pub row_digits : ℕ → List (List ℕ) → Option (List ℕ)
row_digits index [] = Some []
row_digits index (word ∷ words) =
    if ends_row index word then Some []
    else (if is_of_row word then option_map (λ digits. word ++ digits) (row_digits (index + 1) words) else None)

-- the bytes of a row, behind its offset
abbrev pub row_bytes : List ℕ → Option (List ℕ)
row_bytes text = option_and_then bytes_of_digits (row_digits 0 (slice_split is_blank (skip_blanks text)))

-- the offset and the bytes of a line whose first word, up to a blank, is an offset
abbrev pub row_at : List ℕ → Option ℕ → Option (ℕ × List ℕ)
row_at text None = with_offset (address_in text) (Some [])
row_at text (Some blank) = with_offset (address_in (take blank text)) (row_bytes (drop blank text))

abbrev pub row_in : List ℕ → Option (ℕ × List ℕ)
row_in text = row_at text (position (λ b. is_blank b) text)

abbrev pub row_of : List ℕ → Option (ℕ × List ℕ)
row_of text = row_in (skip_blanks (unframed text))

-- ---- the meaning of a line

-- bytes, if it is only these
abbrev pub as_bytes : Option (List ℕ) → Option (Line × List ℕ)
as_bytes (Some bytes) = Some (Bytes (length bytes), bytes)
as_bytes None = None

-- an offset and bytes, if it has these
abbrev pub as_dump : Option (ℕ × List ℕ) → Option (Line × List ℕ)
as_dump (Some dump) = Some (Dump dump.0 (length dump.1), dump.1)
as_dump None = None

-- a line of `*` stands for lines like the one before; any other is something else
abbrev pub other_of : List ℕ → Line × List ℕ
other_of text = if bytes_eq (digits_of text) (codes "*") then (LeftOut, []) else (Other, [])

-- a row, where the lines of the text begin with an offset
abbrev pub addressed_row : Bool → List ℕ → Option (Line × List ℕ)
addressed_row addressed text = if addressed then as_dump (row_of text) else None

-- a row that has bytes
abbrev pub with_bytes : Option (ℕ × List ℕ) → Option (ℕ × List ℕ)
with_bytes (Some row) = if length row.1 == 0 then None else Some row
with_bytes None = None

-- bytes alone, or else a line of a dump with a mark behind its offset, or else a row with bytes
abbrev pub unaddressed : List ℕ → Option (Line × List ℕ)
unaddressed text =
    option_or (as_bytes (bytes_of_digits (digits_of text)))
    (option_or (as_dump (dump_of text)) (as_dump (with_bytes (row_of text))))

-- the meaning of a line, and its bytes
abbrev pub line_of : Bool → List ℕ → Line × List ℕ
line_of addressed text =
    if length (digits_of text) == 0 then (Empty, [])
    else unwrap_or (option_or (addressed_row addressed text) (unaddressed text)) (other_of text)

-- whether a text begins with offsets, by a line with bytes: a row with offset 0 and bytes does
abbrev pub begins_rows : Option (ℕ × List ℕ) → Bool → Option Bool
begins_rows (Some row) is_bytes = Some ((row.0 == 0) && nat_lt 0 (length row.1))
begins_rows None is_bytes = if is_bytes then Some false else None

abbrev pub begins_addressed : List ℕ → Option Bool
begins_addressed text =
    if length (digits_of text) == 0 then None
    else begins_rows (row_of text) (is_some (bytes_of_digits (digits_of text)))

-- by the first such line
abbrev pub is_addressed : List (List ℕ) → Bool
is_addressed [] = false
is_addressed (line ∷ lines) = unwrap_or (begins_addressed line) (is_addressed lines)

-- the number of bytes on a line
abbrev pub count_in : Line → ℕ
count_in Empty = 0
count_in (Bytes count) = count
count_in (Dump offset count) = count
count_in LeftOut = 0
count_in Other = 0

-- the line is read as this
abbrev pub ReadsLine : Bool → List ℕ → Line → List ℕ → Type 0
ReadsLine addressed text line bytes =
    ((line_of addressed text).0 ≡ line) × ((line_of addressed text).1 ≡ bytes)
