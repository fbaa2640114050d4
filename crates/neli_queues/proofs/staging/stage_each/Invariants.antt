use Rattle.std.proofs.Common.{◌≡◌, ◌++◌, ℕ}
use Rattle.std.specs.HashMap.{keys}
use Rattle.neli_queues.specs.Pieces.{deliveries_for}
use Rattle.neli_queues.proofs.Pieces.{copies}
use Rattle.neli_queues.proofs.staging.stage_each.Given as goal

-- with copies for the rest, each number has gained a copy for each key
abbrev pub invariant-loop-number : goal.invariant-loop-number
invariant-loop-number l = (q : ℕ) → deliveries_for q l.pieces.items ++ copies l.delivery q l.number-iterator
    ≡ deliveries_for q l.initial.pieces.items ++ copies l.delivery q (keys l.numbers)
