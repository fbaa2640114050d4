use Rattle.std.proofs.Common.{rules, refl, ◌∙◌, List, [], ℕ, ap, sym}
use Rattle.neli_tables_walk.specs.Walks.{Seen}
use Rattle.neli_print.specs.Items.{entry_view}
use Rattle.neli_print.specs.ItemsText.{items_text}
use Rattle.neli_print.proofs.Loops.{printed_end, visit_text_printed}
use Rattle.neli_print.proofs.list.ListTextDisplay.fmt.Goals as goal

pub loop-visit-init : goal.loop-visit-init
loop-visit-init g c = λ plain.
    let me = c.args.self.now in
    let rest : List Seen → List ℕ =
    items_text me.is_coloured me.list.context.table.now me.level in (
      [],
      search rules,
      ap rest (c.into_iter-visit-iterator.ensures.into_iter_gives
          ∙ c.visits-visit-items.ensures ∙ c.new.ensures),
    )

pub loop-visit-preserved : goal.loop-visit-preserved
loop-visit-preserved g c =
    let me = c.args.self.now in
    let first = c.in-Some.ensures.steps in
    visit_text_printed _ _ _ _ me.is_coloured me.list.context.table.now me.level
    (entry_view c.of_visit.result) first.0 _ _ _ (first.2 ∙ sym c.of_visit.ensures.seen) first.1
    (λ plain. c.in_ok-fmt.ensures.writes plain refl) c.loop-visit.invariant

pub loop-visit-preserved-in_ok-fmt : goal.loop-visit-preserved-in_ok-fmt
loop-visit-preserved-in_ok-fmt g c =
    let me = c.args.self.now in
    let first = c.in-Some.ensures.steps in
    visit_text_printed _ _ _ _ me.is_coloured me.list.context.table.now me.level
    (entry_view c.of_visit.result) first.0 _ _ _ (first.2 ∙ sym c.of_visit.ensures.seen) first.1
    (λ plain. c.in_ok-fmt.ensures.writes plain refl) c.loop-visit.invariant

pub loop-visit-preserved-in_ok-fmt-2 : goal.loop-visit-preserved-in_ok-fmt-2
loop-visit-preserved-in_ok-fmt-2 g c =
    let me = c.args.self.now in
    let first = c.in-Some.ensures.steps in
    visit_text_printed _ _ _ _ me.is_coloured me.list.context.table.now me.level
    (entry_view c.of_visit.result) first.0 _ _ _ (first.2 ∙ sym c.of_visit.ensures.seen) first.1
    (λ plain. c.in_ok-fmt.ensures.writes plain refl) c.loop-visit.invariant

pub loop-visit-preserved-in_ok-fmt-3 : goal.loop-visit-preserved-in_ok-fmt-3
loop-visit-preserved-in_ok-fmt-3 g c =
    let me = c.args.self.now in
    let first = c.in-Some.ensures.steps in
    visit_text_printed _ _ _ _ me.is_coloured me.list.context.table.now me.level
    (entry_view c.of_visit.result) first.0 _ _ _ (first.2 ∙ sym c.of_visit.ensures.seen) first.1
    (λ plain. c.in_ok-fmt.ensures.writes plain refl) c.loop-visit.invariant

pub returns-clause-writes : goal.returns-clause-writes
returns-clause-writes g c = λ plain ok.
    let me = c.args.self.now in
    let rest : List Seen → List ℕ =
    items_text me.is_coloured me.list.context.table.now me.level in
    printed_end _ _ _ _ _ (ap rest c.in-None.ensures.steps.0) c.loop-visit.invariant plain
