use Rattle.neli_tables_walk.specs.Shapes.{context_view}
use Rattle.neli_tables_walk.proofs.Walks.{enters-as}
use Rattle.neli_tables_walk.proofs.levels.Levels.enter_other.Goals as goal

pub returns-clause-entered : goal.returns-clause-entered
returns-clause-entered c = λ around last is.
    enters-as (context_view c.args.self.now.context) c.args.self.now.open.items
    c.given_shape-shape.result _ c.args.payload.now c.enter.new.self.open.items c.enter.result
    (c.given_shape-shape.ensures around last is) (c.enter.ensures.full, c.enter.ensures.entered)
