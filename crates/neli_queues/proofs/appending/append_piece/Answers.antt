use Rattle.std.proofs.Common.{◌≡◌, ◌++◌, arith, is_ok, sym}
use Rattle.std.proofs.lemmas.Grind.{common_steps}
use Rattle.neli_queues.proofs.Pieces.{appended}
use Rattle.neli_queues.proofs.appending.append_piece.Goals as goal

pub returns-in-Some : goal.returns-in-Some
returns-in-Some c = λ q.
    let whole : c.append.new.self ≡ c.in-Some.waiting.now ++ c.args.piece.list =
    appended (is_ok c.append.result) c.in-Some.waiting.now c.args.piece.list c.append.new.self
    c.append.ensures.items c.append.ensures.succeeds (c.requires c.in-Some.waiting.now (sym c.in-Some.ensures.value)) in
    grind (arith, common_steps, whole)
