-- Faults in words.
use Rattle.std.specs.Prelude.{ℕ, List, ◌++◌, codes}
use Rattle.std.specs.Fmt.{decimal}
use Rattle.neli_wire.specs.declared.errors.DeError.{DeError}
use Rattle.neli_wire.specs.declared.errors.DeError.TheVariants as de

-- why bytes are no message, or no attribute
abbrev pub fault_text : DeError → List ℕ
fault_text (de.InvalidInput n) = codes "a wrong length, " ++ decimal n
fault_text (de.Io kind) = codes "the bytes end too early"
fault_text de.Memory = codes "out of memory"
fault_text (de.Msg text) = codes "unreadable"
fault_text (de.Utf8 error) = codes "unreadable"
