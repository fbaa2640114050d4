use Rattle.std.proofs.Common.{refl}
use Rattle.neli_c_parts.proofs.Aheads.{lent-after}
use Rattle.neli_c_parts.proofs.laws.several_are_lent_alone.Goals as goal

pub returns : goal.returns
returns c n h g s t later u code old new next times lends =
    lent-after n h g s t _ later u code old new refl next times lends
