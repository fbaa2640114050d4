use Rattle.std.proofs.Common.{◌≡◌, ◌++◌, ◌∷◌, ◌+◌, [], true, take, sym, ap, ◌∙◌}
use Rattle.std.proofs.lemmas.List.{take_more}
use Rattle.neli_router.specs.laws.Verdicts.{any_next, filtered_next, gave_next, stops_next, verdict_next}
use Rattle.neli_router.specs.Verdicts.{is_last_item}
use Rattle.neli_router.proofs.items.progress_of.Goals as goal

pub loop-item-preserved : goal.loop-item-preserved
loop-item-preserved g c =
    let all = c.args.items.now in
    let i = c.loop-item.item-index in
    let x = c.item-item.result in
    let front = take i all in
    let more : take (i + 1) all ≡ front ++ x ∷ [] =
    take_more all i x c.loop-item-test.true ∙ ap (λ y. front ++ y ∷ []) (sym c.item-item.is) in
    let inv = c.loop-item.invariant in
    let number_of = g.T.Constant.wire_number in
    let needs = c.args.needs_ack in
    record {
      verdict = rw (more, verdict_next number_of needs true front x, ← inv.verdict, ← inv.gave) c.with-progress.ensures.verdict;
      filtered = rw (
        more,
        filtered_next number_of needs true front x,
        ← inv.filtered,
        ← inv.stops,
        ← inv.gave,
      ) c.with-progress.ensures.filtered;
      finished = rw (
        more,
        any_next number_of needs true (is_last_item number_of c.args.answering) front x,
        ← inv.finished,
        ← inv.stops,
        ← inv.gave,
      ) c.with-progress.ensures.finished;
      gave = rw (more, gave_next number_of needs true front x, ← inv.gave) c.with-progress.ensures.single_given;
      stops = rw (more, stops_next number_of needs true front x, ← inv.stops, ← inv.gave) c.with-progress.ensures.ended;
    }
