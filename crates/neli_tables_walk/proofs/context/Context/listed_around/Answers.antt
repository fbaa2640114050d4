use Rattle.std.proofs.Common.{◌-◌, sym, arith}
use Rattle.neli_tables_walk.specs.Shapes.{has_row}
use Rattle.neli_tables_walk.proofs.Around.{sought_around}
use Rattle.neli_tables_walk.proofs.context.Context.listed_around.Goals as goal

pub returns-in-Some : goal.returns-in-Some
returns-in-Some c =
    sym (sought_around (has_row c.args.self.now.table.now c.args.by c.args.number) _
    c.args.around.now (c.loop-left.left - 1) c.loop-left.left _ _ (omega arith)
    c.loop-left.invariant.passed
    (omega (arith, c.loop-left.invariant.within)) c.in-Some.ensures)

pub loop-left-preserved : goal.loop-left-preserved
loop-left-preserved c = record {
  within = omega (arith, c.loop-left.invariant.within);
  passed = sought_around (has_row c.args.self.now.table.now c.args.by c.args.number) _
      c.args.around.now (c.loop-left.left - 1) c.loop-left.left _ _ (omega arith)
      c.loop-left.invariant.passed
      (omega (arith, c.loop-left.invariant.within)) c.in_default.ensures;
}
