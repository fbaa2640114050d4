use Rattle.std.proofs.Common.{◌-◌, ◌++◌, List, ℕ, length, Option, refl, ap, ◌∙◌}
use Rattle.neli_tables_walk.specs.declared.level.Sort.{Sort}
use Rattle.neli_tables_walk.specs.Walks.{inner_items, list_with, listed_bytes, walked}
use Rattle.neli_tables_walk.specs.Shapes.{context_view}
use Rattle.neli_tables_walk.proofs.Walks.{insides, items, lists, open-nest}
use Rattle.neli_tables_walk.proofs.levels.Levels.enter.Goals as goal

pub returns-clause-entered : goal.returns-clause-entered
returns-clause-entered c =
    let before = c.args.self.now in
    let bytes_are = c.listed_bytes-bytes.ensures in
    let list_is = c.level_of.ensures.list ∙ ap (λ (b : List ℕ). (c.in-Some.sort, b)) bytes_are in
    λ _. (
      refl,
      open-nest (context_view before.context) before.open.items c.push.new.self.items
          c.level_of.result
          (c.in-Some.sort, listed_bytes c.in-Some.sort c.args.payload.now) c.push.ensures.items
          list_is (c.level_of.ensures.rest ∙ bytes_are)
          ∙ ap (λ (o : Option Sort). inner_items
          (walked (context_view before.context) (9 - length before.open.items)
          (insides before.open.items)
          (lists before.open.items)) (list_with o c.args.payload.now)
          ++ items (context_view before.context) before.open.items) c.in-Some.ensures,
    )
