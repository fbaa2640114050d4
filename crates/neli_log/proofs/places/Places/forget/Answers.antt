use Rattle.std.proofs.Common.{◌∙◌}
use Rattle.neli_log.proofs.places.Places.forget.Goals as goal

pub forget_shared-requires-clause-at : goal.forget_shared-requires-clause-at
forget_shared-requires-clause-at g c = let a = c.requires.at in (a.0, a.1, a.2, a.3 ∙ c.in-Numbers.is)
