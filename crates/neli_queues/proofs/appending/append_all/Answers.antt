use Rattle.std.proofs.Common.{◌≡◌, ◌++◌, ◌∙◌, [], nat_eq, option_map, ap, sym, subst}
use Rattle.std.specs.HashMap.{get}
use Rattle.std.specs.Vec.Iter.{into_iter_items}
use Rattle.std.proofs.lemmas.List.{nil_from_length}
use Rattle.neli_queues.specs.Pieces.{HaveRoom, deliveries_for}
use Rattle.neli_queues.proofs.Pieces.{HaveRoom-first, HaveRoom-left, append-none, hung-more}
use Rattle.neli_queues.proofs.appending.append_all.Goals as goal

pub append_piece-requires : goal.append_piece-requires
append_piece-requires c =
    HaveRoom-first (get nat_eq c.loop-piece.numbers) c.in-Some.piece (into_iter_items c.next.new.self)
    (subst (HaveRoom (get nat_eq c.loop-piece.numbers)) c.in-Some.ensures.steps.0 c.loop-piece.invariant.room)

pub loop-piece-preserved : goal.loop-piece-preserved
loop-piece-preserved c =
    let at = get nat_eq c.loop-piece.numbers in
    let new = get nat_eq c.append_piece.new.numbers in
    let rest = into_iter_items c.next.new.self in
    record {
      can_next = tt;
      is_finite = tt;
      room = HaveRoom-left at new c.in-Some.piece rest c.append_piece.ensures
          (subst (HaveRoom at) c.in-Some.ensures.steps.0 c.loop-piece.invariant.room);
      hung = λ q. hung-more at new c.in-Some.piece rest c.append_piece.ensures q
          ∙ ap (λ ps. option_map (λ ds. ds ++ deliveries_for q ps) (at q)) (sym c.in-Some.ensures.steps.0)
          ∙ c.loop-piece.invariant.hung q;
    }

pub returns : goal.returns
returns c = λ q.
    let none : into_iter_items c.loop-piece.piece-iterator ≡ [] =
    nil_from_length _ (sym c.loop-piece.piece-iterator.rest.ok.0 ∙ c.in-None.ensures.steps.0) in
    sym (append-none (get nat_eq c.loop-piece.numbers q))
    ∙ ap (λ ps. option_map (λ ds. ds ++ deliveries_for q ps) (get nat_eq c.loop-piece.numbers q)) (sym none)
    ∙ c.loop-piece.invariant.hung q
