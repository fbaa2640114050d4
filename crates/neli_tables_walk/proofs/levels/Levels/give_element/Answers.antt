use Rattle.std.proofs.Common.{◌≡◌, ◌-◌, ◌<◌, length, sym, ap, ◌∙◌, arith}
use Rattle.neli_tables_walk.specs.declared.item.Step.{Step}
use Rattle.neli_tables_walk.specs.declared.level.Level.{Level}
use Rattle.neli_tables_walk.specs.Elements.{element_view}
use Rattle.neli_tables_walk.specs.Shapes.{context_view, listed_view}
use Rattle.neli_tables_walk.specs.Walks.{given_shape, later_level, listed_shape, step_of}
use Rattle.neli_tables_walk.proofs.Ends.{last-at, last-exists, last-length}
use Rattle.neli_tables_walk.proofs.Visited.{path-after, visited-element}
use Rattle.neli_tables_walk.proofs.Walks.{given-element, items, lists}
use Rattle.neli_tables_walk.proofs.levels.Levels.give_element.Goals as goal

pub returns-clause-items : goal.returns-clause-items
returns-clause-items c =
    let before = c.args.self.now in
    let context = context_view before.context in
    let element = element_view c.args.element in
    let ends = last-exists before.open.items c.requires.any in
    let around = ends.0 in
    let last = ends.1 in
    let step : Step = c.step_of-step.result in
    let later = later_level last c.args.rest step in
    let whole = last-length before.open.items around last ends.2 in
    let noted = c.note.ensures.noted around last ends.2 in
    let pushed = last-length c.note.new.self.open.items around later noted in
    let lists_are = c.len-lists.ensures.value in
    let room : length around < 10 = omega (arith, whole, lists_are, c.len-lists.ensures.fits) in
    let slice : length c.as_slice.result.now ≡ length before.open.items =
    ap length c.as_slice.ensures.value in
    let step_is : step ≡ step_of context last.list.sort element =
    c.step_of-step.ensures
    ∙ ap (λ (l : Level). step_of context l.list.sort element)
    (last-at c.as_slice.result.now around last (c.len-lists.result - 1) _
    (c.as_slice.ensures.value ∙ ends.2) (omega (arith, whole, slice, lists_are))) in
    let entered = rw c.note.ensures.context at (c.enter_given-shape.ensures.entered around later noted) in
    given-element context around last c.args.rest element (c.requires.found around last ends.2)
    step _ (given_shape context around later c.args.element.payload.now)
    c.enter_given-shape.result c.note.new.self.open.items c.enter_given-shape.new.self.open.items
    room
    (path-after around c.note.new.self.open.items c.enter_given-shape.new.self.open.items later
    c.len-lists.result noted c.enter_given-shape.ensures.kept (omega (arith, whole, pushed, lists_are)))
    step_is
    (ap (λ (s : Step). listed_shape context (listed_view last.list) (lists around) s.row
    c.args.element.payload.now) step_is)
    noted entered.0 entered.1
    ∙ ap (items context) (sym ends.2)

pub returns-clause-visit : goal.returns-clause-visit
returns-clause-visit c =
    let before = c.args.self.now in
    let ends = last-exists before.open.items c.requires.any in
    let around = ends.0 in
    let last = ends.1 in
    let step : Step = c.step_of-step.result in
    let later = later_level last c.args.rest step in
    let whole = last-length before.open.items around last ends.2 in
    let noted = c.note.ensures.noted around last ends.2 in
    let pushed = last-length c.note.new.self.open.items around later noted in
    let lists_are = c.len-lists.ensures.value in
    visited-element around _ step c.len-lists.result _
    (path-after around c.note.new.self.open.items c.enter_given-shape.new.self.open.items later
    c.len-lists.result noted c.enter_given-shape.ensures.kept (omega (arith, whole, pushed, lists_are)))
    (lists_are ∙ whole)
