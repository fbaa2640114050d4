-- A run that goes on, command by command.
use Rattle.std.specs.Prelude.{ℕ, ◌≡◌, List, [], ◌∷◌, ◌++◌, Result}
use Rattle.neli_wire.specs.declared.errors.DeError.{DeError}
use Rattle.neli_wire.specs.Writing.{Wire}
use Rattle.neli_runs.specs.declared.command.Command.{Command}
use Rattle.neli_runs.specs.declared.command.Outcome.{Outcome}
use Rattle.neli_runs.specs.History.{past}
use Rattle.neli_runs.specs.Outcomes.{Each, IsAnswered, IsSent}
use Rattle.neli_runs.specs.laws.Kept.{Handles, Holds, Pending}

-- a router of this port, which has this next number, these lists and these handles, has performed these commands, and
-- each has its one outcome
pub record HasDone {ST SP K P V : Type 0} (type_of : ℕ → K) (number : K → ℕ) (view : P → V) (size : P
    → ℕ) (read : List ℕ → Result V DeError) (number_of : ST → ℕ) (wire : SP → Wire) (wire_size : SP
    → ℕ) (pid port next : ℕ) (pending : Pending) (handles : Handles) (cs : List (Command ST SP))
    (os : List (Outcome ST SP K P)) : Type 0 where
  pub same_port : port ≡ pid
  pub sent : Each (IsSent number_of wire wire_size pid) cs os
  pub answered : Each (IsAnswered type_of number view size read pid) cs os
  pub holds : Holds type_of number view size read pid next pending handles (past [] cs os)

module _ {ST SP K P V : Type 0} (type_of : ℕ → K) (number : K → ℕ) (view : P → V) (size : P
    → ℕ) (read : List ℕ → Result V DeError) (number_of : ST → ℕ) (wire : SP → Wire) (wire_size : SP
    → ℕ) where
  -- a command with this outcome follows all that was performed before it
  abbrev pub GoesOn : ℕ → ℕ → Pending → Handles → ℕ → ℕ → Pending → Handles → Command ST SP → Outcome ST SP K P
      → Type 0
  GoesOn port next pending handles port' next' pending' handles' c o =
      (pid : ℕ) (cs : List (Command ST SP)) (os : List (Outcome ST SP K P))
      → HasDone type_of number view size read number_of wire wire_size pid port next pending handles cs os
      → HasDone type_of number view size read number_of wire wire_size pid port' next' pending' handles'
      (cs ++ c ∷ []) (os ++ o ∷ [])
