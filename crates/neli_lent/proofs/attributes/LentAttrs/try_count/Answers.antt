use Rattle.std.proofs.Common.{ap, length, arith, length-append}
use Rattle.neli_wire.specs.Place.{Place}
use Rattle.neli_lent.proofs.attributes.LentAttrs.try_count.Goals as goal

-- the attributes so far took a byte each, and stand before the place
pub prove-unreachable-requires : goal.prove-unreachable-requires
prove-unreachable-requires g c =
    let old = c.loop-item.attrs in
    let new = c.step.new.self in
    let fewer = rw c.in_ok-_attr.was at c.in-Some.ensures.shorter in
    let place = ap (λ (p : Place). length p.before) c.attrs.view_is in
    absurd (omega (
      arith,
      c.if-prove.true,
      c.position-place.ensures.value,
      place,
      ap length c.in-Some.ensures.moved,
      length-append old.before old.rest,
      length-append new.before new.rest,
      fewer,
      c.loop-item.invariant.1,
    ))
