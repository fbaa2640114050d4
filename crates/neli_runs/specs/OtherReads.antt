-- Commands that leave a handle unread.
use Rattle.std.specs.Prelude.{◌≡◌, ℕ, false, List}
use Rattle.std.specs.List.{All}
use Rattle.neli_runs.specs.declared.command.Command.{Command}
use Rattle.neli_runs.specs.History.{reads}

-- none of the commands reads handle j
abbrev pub NoneReads : {ST SP : Type 0} → ℕ → List (Command ST SP) → Type 0
NoneReads j commands = All (λ c. reads j c ≡ false) commands
