use Rattle.std.proofs.Common.{◌≡◌, ◌++◌, ℕ, nat_eq, option_map}
use Rattle.std.specs.HashMap.{get}
use Rattle.std.specs.Vec.Iter.{into_iter_items}
use Rattle.neli_queues.specs.Pieces.{HaveRoom, deliveries_for}
use Rattle.neli_queues.proofs.appending.append_all.Given as goal

-- there is room for the rest, and with it the lists reach their final state
abbrev pub invariant-loop-piece : goal.invariant-loop-piece
invariant-loop-piece l = record {
  can_next : (goal.iterator-loop-piece).can_next l.piece-iterator;
  is_finite : (goal.iterator-loop-piece).is_finite l.piece-iterator;
  room : HaveRoom (get nat_eq l.numbers) (into_iter_items l.piece-iterator);
  hung : (q : ℕ) → option_map (λ ds. ds ++ deliveries_for q (into_iter_items l.piece-iterator)) (get nat_eq l.numbers q)
      ≡ option_map (λ ds. ds ++ deliveries_for q l.fn.pieces.items) (get nat_eq l.fn.numbers q);
}
