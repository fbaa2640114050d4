-- Text and bytes on the wire. A text is written as its UTF-8 bytes and a zero.
use Rattle.std.specs.Prelude.{ℕ, ◌-◌, List, [], ◌∷◌, ◌++◌, length, take}
use Rattle.std.specs.Prelude.{drop, Result, Ok, Err, nat_lt, nat_eq, if◌then◌else◌}
use Rattle.std.specs.Str.Lossy.{utf8_valid_len, utf8_error_len}
use Rattle.std.specs.declared.str.Utf8Error.{Utf8Error}
use Rattle.neli_wire.specs.Writing.{Wire}
use Rattle.neli_wire.specs.declared.errors.DeError.{DeError}
use Rattle.neli_wire.specs.declared.errors.DeError.TheVariants.{InvalidInput, Utf8 as NotText}
use Rattle.neli_wire.specs.declared.errors.Utf8.{Utf8}
use Rattle.neli_wire.specs.declared.errors.Utf8.TheVariants.{String as OfString, Str as OfStr}

-- a text and a zero after it
abbrev pub text_and_zero : List ℕ → Wire
text_and_zero text = Ok (text ++ 0 ∷ [])

-- where bytes stop being UTF-8: how many are valid, and how many after these are at fault, if that is known
abbrev pub fault_of : List ℕ → Utf8Error
fault_of s = record { valid_up_to = utf8_valid_len s; error_len = utf8_error_len (drop (utf8_valid_len s) s) }

-- the bytes, which must be UTF-8
abbrev pub utf8_of : (Utf8Error → Utf8) → List ℕ → Result (List ℕ) DeError
utf8_of kind s = if nat_eq (utf8_valid_len s) (length s) then Ok s else Err (NotText (kind (fault_of s)))

-- a borrowed text: all of the bytes
abbrev pub borrowed_text : List ℕ → Result (List ℕ) DeError
borrowed_text = utf8_of OfStr

-- an owned text: all of the bytes but the last, whatever its value
abbrev pub owned_text : List ℕ → Result (List ℕ) DeError
owned_text s = if nat_lt (length s) 1 then Err (InvalidInput (length s)) else utf8_of OfString (take (length s - 1) s)

-- there is no byte
abbrev pub nothing : List ℕ → Result (Unit {0}) DeError
nothing s = if nat_lt 0 (length s) then Err (InvalidInput (length s)) else Ok tt
