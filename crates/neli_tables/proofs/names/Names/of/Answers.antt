use Rattle.std.proofs.Common.{◌-◌, arith}
use Rattle.neli_tables.proofs.Places.{place_more}
use Rattle.neli_tables.proofs.names.Names.of.Goals as goal

pub loop-index-preserved : goal.loop-index-preserved
loop-index-preserved c = record {
  within = omega arith;
  noted = λ w name. place_more w name c.args.lines.now (c.loop-index.index - 1) c.loop-index.index
      c.index-lines-index.result _ _ (omega arith) (omega arith)
      (c.loop-index.invariant.noted w name) (rw c.deref.ensures.value at (c.in_ok-add.ensures w name));
}
