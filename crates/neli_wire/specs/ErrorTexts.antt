-- The texts of this library's refusals; the standard library states those of an `Io` and a `Utf8`.
use Rattle.std.specs.Prelude.{ℕ, List, ◌++◌, codes, Option, Some, None}
use Rattle.std.specs.Fmt.{decimal}
use Rattle.neli_wire.specs.declared.errors.SerError.{SerError}
use Rattle.neli_wire.specs.declared.errors.SerError.TheVariants as ser
use Rattle.neli_wire.specs.declared.errors.DeError.{DeError}
use Rattle.neli_wire.specs.declared.errors.DeError.TheVariants as de

-- what the refusal of a write prints
abbrev pub ser_text : SerError → Option (List ℕ)
ser_text (ser.Msg text) = Some text
ser_text (ser.Io kind) = None
ser_text (ser.Utf8 error) = None
ser_text ser.Memory = Some (codes "Out of memory")

-- what the refusal of a read prints
abbrev pub de_text : DeError → Option (List ℕ)
de_text (de.Msg text) = Some text
de_text (de.Io kind) = None
de_text (de.Utf8 error) = None
de_text (de.InvalidInput n) = Some (codes "Invalid input was provided: " ++ decimal n)
de_text de.Memory = Some (codes "Out of memory")
