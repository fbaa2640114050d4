use Rattle.neli_tables_walk.specs.Shapes.{context_view}
use Rattle.neli_tables_walk.proofs.Walks.{enters-row}
use Rattle.neli_tables_walk.proofs.levels.Levels.enter_given.Goals as goal

pub returns-in-Some-clause-entered : goal.returns-in-Some-clause-entered
returns-in-Some-clause-entered c = λ around last is.
    enters-row (context_view c.args.self.now.context) c.args.self.now.open.items _
    c.args.payload.now c.in-Some.place
    (c.in-Some.ensures around last is c.args.payload.now)
