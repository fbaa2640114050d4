-- What a run prints.
use Rattle.std.proofs.Common.{inl, inr, ℕ, List, ◌++◌, Option, refl}
use Rattle.std.specs.Io.KnownBytes.{Appends}
use Rattle.neli_program.specs.declared.status.Status.{Status}
use Rattle.neli_program.specs.declared.status.Status.TheVariants as status
use Rattle.neli_program.specs.declared.line.Ending.{Ending}
use Rattle.neli_program.specs.declared.line.Ending.TheVariants.{Whole, Input, Short, Other, Tail, Memory}
use Rattle.neli_program.specs.Inputs.{HasAtLeast, IsInput}
use Rattle.neli_program.specs.Lines.{ending}
use Rattle.neli_program.specs.Runs.{Makes, Prints, PrintsMemory, status_by}

pub memory_prints : (makes : Makes) (known old new : Option (List ℕ)) (s : Status) → HasAtLeast 1 known
    → PrintsMemory old new s → Prints makes known old new s
memory_prints makes known old new status.Memory some p = inl (some, p)
memory_prints makes known old new status.NoOutput some p = tt
memory_prints makes known old new status.Whole some p = absurd p
memory_prints makes known old new status.Fault some p = absurd p
memory_prints makes known old new status.NoInput some p = absurd p
memory_prints makes known old new status.BadLine some p = absurd p
memory_prints makes known old new status.Usage some p = absurd p
memory_prints makes known old new status.NoUsage some p = absurd p

pub text_prints : (makes : Makes) (known old new : Option (List ℕ)) (bytes text : List ℕ) (e : Ending)
    → IsInput known bytes → makes bytes text e → Appends old new (text ++ ending e)
    → Prints makes known old new (status_by e)
text_prints makes known old new bytes text Whole input made gains = (bytes, text, input, made, gains)
text_prints makes known old new bytes text Memory input made gains = inr (bytes, text, input, made, gains)
text_prints makes known old new bytes text (Input n) input made gains =
    (Input n, refl, (bytes, text, input, made, gains))
text_prints makes known old new bytes text Short input made gains = (Short, refl, (bytes, text, input, made, gains))
text_prints makes known old new bytes text Other input made gains = (Other, refl, (bytes, text, input, made, gains))
text_prints makes known old new bytes text Tail input made gains = (Tail, refl, (bytes, text, input, made, gains))
