use Rattle.std.proofs.Common.{refl, rules}
use Rattle.neli_c.specs.Lists.{none, one}
use Rattle.neli_c.proofs.OutOfPlace.{no-item}
use Rattle.neli_c.proofs.lists.neli_c_find_attribute.Goals as goal

pub loop-ahead-init : goal.loop-ahead-init
loop-ahead-init c = (none, refl, λ out. refl)

pub loop-ahead-preserved : goal.loop-ahead-preserved
loop-ahead-preserved c = (
  one _ c.loop-ahead.invariant.0 (c.neli_c_next_attribute-code.ensures.attribute (first_of (search rules, cc)))
      (first_of (search rules, cc)),
  c.loop-ahead.invariant.1,
  λ out. absurd (no-item _ _ _ _ out (c.loop-ahead.invariant.2 out) c.neli_c_next_attribute-code.ensures.code
      (first_of (search rules, cc))),
)
