-- A script that is being played.
use Rattle.std.specs.Prelude.{◌≡◌, ℕ, ◌+◌, List, [], ◌∷◌, ◌++◌, length, Option, Ok}
use Rattle.std.specs.Option.{option_to_list}
use Rattle.neli_runs.specs.declared.command.Command.{Command}
use Rattle.neli_runs.specs.OpenRuns.{HasDone}
use Rattle.neli_runs.specs.laws.Kept.{Handles, Pending}
use Rattle.neli_program.specs.declared.entry.Entry.{Entry}
use Rattle.neli_program.specs.declared.entry.Entry.TheVariants.{Port}
use Rattle.neli_program.specs.Report.{RawOutcome, report, sends}
use Rattle.neli_program.specs.Script.{IsCommandOf}

-- the number of requests that commands with these outcomes sent
abbrev pub requests_in : List RawOutcome → ℕ
requests_in [] = 0
requests_in (o ∷ os) = sends o + requests_in os

-- a router of this port, with this next number, these lists and these handles, has performed these commands: they sent
-- so many requests, and the text is the lines of their outcomes
abbrev pub HasPlayed : ℕ → ℕ → ℕ → Pending → Handles → ℕ → List ℕ → List (Command ℕ (List ℕ)) → Type 0
HasPlayed pid port next pending handles sent text commands =
    (outcomes : List RawOutcome)
    × HasDone (λ n. n) (λ n. n) (λ b. b) length (λ b. Ok b) (λ n. n) (λ b. Ok b) length pid port next pending handles
    commands outcomes
    × (text ≡ report 0 outcomes) × (sent ≡ requests_in outcomes)

-- one more command is performed
abbrev pub Performs : Command ℕ (List ℕ) → ℕ → ℕ → Pending → Handles → ℕ → List ℕ → ℕ → ℕ → Pending → Handles → ℕ
    → List ℕ → Type 0
Performs command port next pending handles sent text port' next' pending' handles' sent' text' =
    (pid : ℕ) (commands : List (Command ℕ (List ℕ))) → HasPlayed pid port next pending handles sent text commands
    → HasPlayed pid port' next' pending' handles' sent' text' (commands ++ command ∷ [])

-- a line is followed: a port begins a new router; the command of another line is performed, if it has one
abbrev pub Follows : Entry → ℕ → ℕ → Pending → Handles → ℕ → List ℕ → ℕ → ℕ → Pending → Handles → ℕ → List ℕ → Type 0
Follows (Port n) port next pending handles sent text port' next' pending' handles' sent' text' =
    HasPlayed n port' next' pending' handles' sent' text' []
Follows entry port next pending handles sent text port' next' pending' handles' sent' text' =
    (pid : ℕ) (commands : List (Command ℕ (List ℕ))) → HasPlayed pid port next pending handles sent text commands
    → (told : Option (Command ℕ (List ℕ))) × IsCommandOf entry told
    × HasPlayed pid port' next' pending' handles' sent' text' (commands ++ option_to_list told)
