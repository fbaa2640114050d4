use Rattle.std.proofs.Common.{◌≡◌, ◌-◌, List, ◌++◌, length, Option, true, sym, ap, ◌∙◌, rules}
use Rattle.std.specs.List.{slice_get}
use Rattle.std.specs.Option.{option_to_list}
use Rattle.std.proofs.lemmas.Bool.{eqb-true}
use Rattle.neli_tables_walk.specs.declared.level.Level.{Level}
use Rattle.neli_tables_walk.specs.Shapes.{context_view}
use Rattle.neli_reader.specs.laws.Cuts.{empty_is}
use Rattle.neli_tables_walk.proofs.Walks.{open-out}
use Rattle.neli_tables_walk.proofs.levels.Levels.take_visit.Goals as goal

pub loop-level-preserved : goal.loop-level-preserved
loop-level-preserved c =
    let yes : c.is_empty.result ≡ true = search rules in
    let none : length c.in-Some.level.now.rest.now ≡ 0 =
    eqb-true _ _ (sym c.is_empty.ensures ∙ yes) in (
      c.loop-level.invariant.0,
      c.loop-level.invariant.1
          ∙ open-out (context_view c.args.self.now.context) c.pop.new.self.items
          c.loop-level.self.open.items c.in-Some.level.now
          (c.pop.ensures.items
          ∙ ap (λ (o : Option Level). c.pop.new.self.items ++ option_to_list o)
          (c.pop.ensures.value
          ∙ ap (λ (l : List Level). slice_get l (length l - 1)) (sym c.as_slice.ensures.value)
          ∙ sym c.in-Some.ensures.value)) (empty_is _ none),
    )
