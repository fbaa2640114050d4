-- The printed text of a script, and how the run ends.
use Rattle.std.specs.Prelude.{◌≡◌, ⊤, ℕ, List, ◌++◌, length, codes, Option, Ok, Err}
use Rattle.std.specs.Fmt.{decimal}
use Rattle.std.specs.Io.KnownBytes.{Appends, Keeps}
use Rattle.neli_runs.specs.declared.command.Command.{Command}
use Rattle.neli_runs.specs.Outcomes.{Each, IsAnswered, IsSent}
use Rattle.neli_program.specs.declared.status.Status.{Status}
use Rattle.neli_program.specs.declared.status.Status.TheVariants as status
use Rattle.neli_program.specs.Inputs.{IsInput}
use Rattle.neli_program.specs.Report.{RawOutcome, report}
use Rattle.neli_program.specs.Script.{IsScript, entries_of}

-- the outcomes of these commands, performed by a new router of this port: one for each
abbrev pub AreOutcomes : ℕ → List (Command ℕ (List ℕ)) → List RawOutcome → Type 0
AreOutcomes port commands outcomes =
    Each (IsSent (λ n. n) (λ b. Ok b) length port) commands outcomes
    × Each (IsAnswered (λ n. n) (λ n. n) (λ b. b) length (λ b. Ok b) port) commands outcomes

-- the text of a script without a bad line: the lines of the outcomes of its commands
abbrev pub Answers : List ℕ → List ℕ → Type 0
Answers script text =
    (port : ℕ) × (commands : List (Command ℕ (List ℕ))) × (outcomes : List RawOutcome)
    × IsScript script port commands × AreOutcomes port commands outcomes
    × (text ≡ report 0 outcomes)

-- the line that names a bad one
abbrev pub bad_line_text : ℕ → List ℕ
bad_line_text k = codes "bad line " ++ decimal k ++ codes "\n"

-- the text of one with a bad line: the number of the first
abbrev pub NamesBadLine : List ℕ → List ℕ → Type 0
NamesBadLine script text = (k : ℕ) × (entries_of script ≡ Err k) × (text ≡ bad_line_text k)

-- how the bytes of a script and a text are related
abbrev pub Makes : Type 1
Makes = List ℕ → List ℕ → Type 0

-- the output gains a text that is so related to the input
abbrev pub GainsText : Makes → Option (List ℕ) → Option (List ℕ) → Option (List ℕ) → Type 0
GainsText makes known old new =
    (script : List ℕ) × (text : List ℕ) × IsInput known script × makes script text
    × Appends old new text

-- the output gains only the line that memory ran out; nothing is known of an output that fails
abbrev pub PrintsMemory : Option (List ℕ) → Option (List ℕ) → Status → Type 0
PrintsMemory old new status.Memory = Appends old new (codes "memory\n")
PrintsMemory old new status.NoOutput = ⊤
PrintsMemory old new s = ⊥

-- the output gains only the line that names a bad one
abbrev pub PrintsBadLine : ℕ → Option (List ℕ) → Option (List ℕ) → Status → Type 0
PrintsBadLine k old new status.BadLine = Appends old new (bad_line_text k)
PrintsBadLine k old new status.NoOutput = ⊤
PrintsBadLine k old new s = ⊥

-- the output gains the lines of the script in the input, or the number of its first bad line, or only the line that
-- memory ran out, or nothing if the input fails
abbrev pub PrintsReplay : Option (List ℕ) → Option (List ℕ) → Option (List ℕ) → Status → Type 0
PrintsReplay known old new status.Whole = GainsText Answers known old new
PrintsReplay known old new status.BadLine = GainsText NamesBadLine known old new
PrintsReplay known old new status.Memory = Appends old new (codes "memory\n")
PrintsReplay known old new status.NoInput = Keeps old new
PrintsReplay known old new status.NoOutput = ⊤
PrintsReplay known old new s = ⊥
