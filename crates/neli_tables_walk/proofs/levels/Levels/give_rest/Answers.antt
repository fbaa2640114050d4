use Rattle.std.proofs.Common.{◌≡◌, ◌+◌, ◌-◌, ℕ, List, [], ◌∷◌, length, sym, ap, ◌∙◌, arith}
use Rattle.std.proofs.Common.{length-append}
use Rattle.neli_wire.specs.declared.errors.DeError.{DeError}
use Rattle.neli_tables_walk.specs.Shapes.{context_view}
use Rattle.neli_tables_walk.specs.Visited.{path_in}
use Rattle.neli_tables_walk.specs.Walks.{left_view}
use Rattle.neli_tables_walk.proofs.Ends.{last-exists}
use Rattle.neli_tables_walk.proofs.Visited.{path-before, visited-left}
use Rattle.neli_tables_walk.proofs.Walks.{given-fault, items}
use Rattle.neli_tables_walk.proofs.levels.Levels.give_rest.Goals as goal

pub returns-clause-items : goal.returns-clause-items
returns-clause-items c =
    let before = c.args.self.now in
    let context = context_view before.context in
    let ends = last-exists before.open.items c.requires.any in
    let around = ends.0 in
    let last = ends.1 in
    let whole : length before.open.items ≡ length around + 1 =
    ap length ends.2 ∙ length-append around (last ∷ []) in
    let ended = c.take_rest.ensures.ended around last ends.2 in
    let new = c.take_rest.new.self.open.items in
    let lists = c.len.ensures.value in
    let parts : c.len.result - 1 ≡ length around = omega (arith, whole, lists) in
    let path = path_in new (c.len.result - 1) in
    let path_is = path-before around new ended.1 (c.len.result - 1) ended.2 parts in
    ap (λ (b : List ℕ). left_view path b c.take_rest.result.error ∷ items context new) ended.0
    ∙ ap (λ (e : DeError). left_view path last.rest.now e ∷ items context new)
    c.take_rest.ensures.error
    ∙ given-fault context around new last ended.1 c.args.error path path_is ended.2 ended.3
    (c.requires.some around last ends.2) (c.requires.fault around last ends.2)
    ∙ ap (items context) (sym ends.2)

pub returns-clause-visit : goal.returns-clause-visit
returns-clause-visit c =
    let before = c.args.self.now in
    let ends = last-exists before.open.items c.requires.any in
    let around = ends.0 in
    let last = ends.1 in
    let whole : length before.open.items ≡ length around + 1 =
    ap length ends.2 ∙ length-append around (last ∷ []) in
    let ended = c.take_rest.ensures.ended around last ends.2 in
    let new = c.take_rest.new.self.open.items in
    let lists = c.len.ensures.value in
    let parts : c.len.result - 1 ≡ length around = omega (arith, whole, lists) in
    visited-left around _ c.len.result _
    (path-before around new ended.1 (c.len.result - 1) ended.2 parts) (lists ∙ whole)
