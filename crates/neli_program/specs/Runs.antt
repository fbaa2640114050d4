-- The printed text of a run of the program, and how it ends.
use Rattle.std.specs.Prelude.{◌≡◌, ◌⊎◌, ℕ, List, ◌++◌, Option, ⊤}
use Rattle.std.specs.Io.KnownBytes.{Appends, Keeps}
use Rattle.neli_program.specs.declared.line.Ending.{Ending}
use Rattle.neli_program.specs.declared.line.Ending.TheVariants.{Whole, Memory}
use Rattle.neli_program.specs.declared.status.Status.{Status}
use Rattle.neli_program.specs.declared.status.Status.TheVariants as status
use Rattle.neli_program.specs.Inputs.{HasAtLeast, IsInput}
use Rattle.neli_program.specs.Lines.{ending}

-- ---- how a run ends

-- the exit status
abbrev pub status_code : Status → ℕ
status_code status.Whole = 0
status_code status.Fault = 1
status_code status.Memory = 1
status_code status.NoInput = 1
status_code status.NoOutput = 1
status_code status.BadLine = 2
status_code status.Usage = 2
status_code status.NoUsage = 2

-- the status of a run that wrote a listing with this ending
abbrev pub status_by : Ending → Status
status_by Whole = status.Whole
status_by Memory = status.Memory
status_by e = status.Fault

-- ---- the text

-- how the bytes of a datagram, a text and its ending are related
abbrev pub Makes : Type 1
Makes = List ℕ → List ℕ → Ending → Type 0

-- the output gains a text that is so related to the input, with this ending
abbrev pub GainsText : Makes → Option (List ℕ) → Option (List ℕ) → Option (List ℕ) → Ending → Type 0
GainsText makes known old new e =
    (bytes : List ℕ) × (text : List ℕ) × IsInput known bytes × makes bytes text e
    × Appends old new (text ++ ending e)

-- the output gains only the line that memory ran out; nothing is known of an output that fails
abbrev pub PrintsMemory : Option (List ℕ) → Option (List ℕ) → Status → Type 0
PrintsMemory old new status.Memory = Appends old new (ending Memory)
PrintsMemory old new status.NoOutput = ⊤
PrintsMemory old new s = ⊥

-- the output gains a text that is so related to the input and ends as the status says, or nothing if the input fails;
-- if memory runs out while the input is read, which then has a byte or more, only the line for that
abbrev pub Prints : Makes → Option (List ℕ) → Option (List ℕ) → Option (List ℕ) → Status → Type 0
Prints makes known old new status.Whole = GainsText makes known old new Whole
Prints makes known old new status.Fault =
    (e : Ending) × (status_by e ≡ status.Fault) × GainsText makes known old new e
Prints makes known old new status.Memory =
    (HasAtLeast 1 known × Appends old new (ending Memory)) ⊎ GainsText makes known old new Memory
Prints makes known old new status.NoInput = Keeps old new
Prints makes known old new status.NoOutput = ⊤
Prints makes known old new s = ⊥
