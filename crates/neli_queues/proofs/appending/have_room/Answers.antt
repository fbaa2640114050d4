use Rattle.std.proofs.Common.{◌≡◌, length, nat_eq, take, arith, subst}
use Rattle.std.specs.List.{All}
use Rattle.std.specs.HashMap.{get}
use Rattle.std.proofs.lemmas.List.{take_all}
use Rattle.neli_queues.proofs.Pieces.{HasSpace, HaveRoom-spaces}
use Rattle.neli_queues.proofs.appending.have_room.Goals as goal

pub returns : goal.returns
returns c = λ _.
    let whole : take c.loop-piece.piece-index c.args.pieces.now ≡ c.args.pieces.now = take_all _ _ (omega arith) in
    HaveRoom-spaces (get nat_eq c.args.numbers.now) c.args.pieces.now
    (subst (All (HasSpace (get nat_eq c.args.numbers.now) (length c.args.pieces.now))) whole c.loop-piece.invariant)
