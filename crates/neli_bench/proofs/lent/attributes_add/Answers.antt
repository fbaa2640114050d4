use Rattle.neli_bench.proofs.Items.{items_end}
use Rattle.neli_bench.proofs.lent.attributes_add.Goals as goal

pub returns : goal.returns
returns c = items_end _ _ _ _ c.loop-item.invariant c.in_default.ensures.steps.0
