-- The requests in the words of a command line, and what is printed for wrong ones.
use Rattle.std.specs.Prelude.{◌≡◌, ℕ, List, [], ◌∷◌, map, codes, string_bytes, Option, Result, IsOkAnd, IsErrAnd, ⊤}
use Rattle.std.specs.IoError.{error_kind}
use Rattle.std.specs.Io.KnownBytes.{Appends}
use Rattle.std.specs.declared.vec.Vec.{Vec}
use Rattle.std.specs.declared.string.String.{String}
use Rattle.std.specs.declared.alloc.Global.{Global}
use Rattle.std.specs.declared.io.Error.{Error}
use Rattle.std.specs.declared.io.ErrorKind.TheVariants.{OutOfMemory}
use Rattle.neli_program.specs.declared.status.Status.{Status}
use Rattle.neli_program.specs.declared.status.Status.TheVariants as status
use Rattle.neli_program.specs.declared.run.Request.{Request}
use Rattle.neli_program.specs.declared.run.Request.TheVariants as request

-- the words after the program's name, or why they were not read
abbrev pub Words : Type 0
Words = Result (Vec (String Global) Global) Error

-- they are the one word `list`
abbrev pub AskForList : Words → Type 0
AskForList words = IsOkAnd words (λ w. map string_bytes w.items ≡ codes "list" ∷ [])

-- they are the words `list` and `zero`
abbrev pub AskForZero : Words → Type 0
AskForZero words = IsOkAnd words (λ w. map string_bytes w.items ≡ codes "list" ∷ codes "zero" ∷ [])

-- they are the one word `replay`
abbrev pub AskForReplay : Words → Type 0
AskForReplay words = IsOkAnd words (λ w. map string_bytes w.items ≡ codes "replay" ∷ [])

-- memory ran out while they were read
abbrev pub RanOutOfMemory : Words → Type 0
RanOutOfMemory words = IsErrAnd words (λ e. error_kind e ≡ OutOfMemory)

-- they are none of these
abbrev pub AreWrong : Words → Type 0
AreWrong words =
    (¬ AskForList words) × (¬ AskForZero words) × (¬ AskForReplay words) × (¬ RanOutOfMemory words)

-- the request in these words
abbrev pub Asks : Words → Request → Type 0
Asks words request.List = AskForList words
Asks words request.Zero = AskForZero words
Asks words request.Replay = AskForReplay words
Asks words request.Memory = RanOutOfMemory words
Asks words request.Usage = AreWrong words

-- complaints gain the usage line; nothing is known of complaints that fail
abbrev pub Complains : Option (List ℕ) → Option (List ℕ) → Status → Type 0
Complains old new status.Usage = Appends old new (codes "usage: neli_tool list [zero] | replay\n")
Complains old new status.NoUsage = ⊤
Complains old new s = ⊥
