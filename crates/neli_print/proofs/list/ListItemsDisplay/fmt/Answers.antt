use Rattle.std.proofs.Common.{rules, refl, ◌∙◌, ◌++◌, codes, List, [], ℕ, ap, sym}
use Rattle.neli_tables_walk.specs.Walks.{Seen}
use Rattle.neli_print.specs.declared.item.Open.{Open}
use Rattle.neli_print.specs.Items.{entry_view}
use Rattle.neli_print.specs.ItemsJson.{items_json}
use Rattle.neli_print.specs.Lists.{body_open}
use Rattle.neli_print.specs.Pieces.{repeated}
use Rattle.neli_print.proofs.Loops.{printed_all, visit_json_printed}
use Rattle.neli_print.proofs.list.ListItemsDisplay.fmt.Goals as goal

pub loop-visit-init : goal.loop-visit-init
loop-visit-init g c = λ plain.
    let rest : Open → List Seen → List ℕ = items_json c.args.self.now.0.context.table.now in (
      [],
      search rules,
      ap (rest body_open) (c.into_iter-visit-iterator.ensures.into_iter_gives
          ∙ c.visits-visit-items.ensures ∙ c.new.ensures),
    )

pub loop-visit-preserved : goal.loop-visit-preserved
loop-visit-preserved g c =
    let first = c.in-Some.ensures.steps in
    visit_json_printed _ _ _ _ c.args.self.now.0.context.table.now c.loop-visit.open _
    (entry_view c.of_visit-entry.result) first.0 _ _ _
    (first.2 ∙ sym c.of_visit-entry.ensures.seen) first.1 c.after_entry-open.ensures
    (λ plain. c.in_ok-fmt.ensures.writes plain refl) c.loop-visit.invariant

pub loop-visit-preserved-in_ok-fmt : goal.loop-visit-preserved-in_ok-fmt
loop-visit-preserved-in_ok-fmt g c =
    let first = c.in-Some.ensures.steps in
    visit_json_printed _ _ _ _ c.args.self.now.0.context.table.now c.loop-visit.open _
    (entry_view c.of_visit-entry.result) first.0 _ _ _
    (first.2 ∙ sym c.of_visit-entry.ensures.seen) first.1 c.after_entry-open.ensures
    (λ plain. c.in_ok-fmt.ensures.writes plain refl) c.loop-visit.invariant

pub loop-visit-preserved-in_ok-fmt-2 : goal.loop-visit-preserved-in_ok-fmt-2
loop-visit-preserved-in_ok-fmt-2 g c =
    let first = c.in-Some.ensures.steps in
    visit_json_printed _ _ _ _ c.args.self.now.0.context.table.now c.loop-visit.open _
    (entry_view c.of_visit-entry.result) first.0 _ _ _
    (first.2 ∙ sym c.of_visit-entry.ensures.seen) first.1 c.after_entry-open.ensures
    (λ plain. c.in_ok-fmt.ensures.writes plain refl) c.loop-visit.invariant

pub loop-visit-preserved-in_ok-fmt-3 : goal.loop-visit-preserved-in_ok-fmt-3
loop-visit-preserved-in_ok-fmt-3 g c =
    let first = c.in-Some.ensures.steps in
    visit_json_printed _ _ _ _ c.args.self.now.0.context.table.now c.loop-visit.open _
    (entry_view c.of_visit-entry.result) first.0 _ _ _
    (first.2 ∙ sym c.of_visit-entry.ensures.seen) first.1 c.after_entry-open.ensures
    (λ plain. c.in_ok-fmt.ensures.writes plain refl) c.loop-visit.invariant

pub returns-clause-writes : goal.returns-clause-writes
returns-clause-writes g c = λ plain ok.
    let rest : Open → List Seen → List ℕ = items_json c.args.self.now.0.context.table.now in
    printed_all _ _ _ _ _ _ _ (λ still. c.write.ensures.writes still ok)
    (ap (rest c.loop-visit.open) c.in-None.ensures.steps.0
    ∙ ap (λ (n : ℕ). repeated (codes "]}") n ++ codes "]") (sym c.saturating_sub.ensures))
    c.loop-visit.invariant plain
