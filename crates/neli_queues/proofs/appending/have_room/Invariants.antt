use Rattle.std.proofs.Common.{length, nat_eq, take}
use Rattle.std.specs.List.{All}
use Rattle.std.specs.HashMap.{get}
use Rattle.neli_queues.proofs.Pieces.{HasSpace}
use Rattle.neli_queues.proofs.appending.have_room.Given as goal

-- there is room for the pieces so far
abbrev pub invariant-loop-piece : goal.invariant-loop-piece
invariant-loop-piece l = All (HasSpace (get nat_eq l.numbers) (length l.pieces)) (take l.piece-index l.pieces)
