use Rattle.neli_bench.proofs.Items.{items_end}
use Rattle.neli_bench.proofs.lent.messages_add.Goals as goal

pub returns : goal.returns
returns g c = items_end _ _ _ _ c.loop-item.invariant c.in_default.ensures.steps.0
