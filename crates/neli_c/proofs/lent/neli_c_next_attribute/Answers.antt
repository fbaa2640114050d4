use Rattle.std.proofs.Common.{ap, ℕ, ◌+◌}
use Rattle.neli_c_parts.specs.declared.message.NeliWalk.{NeliWalk}
use Rattle.neli_c.proofs.Frames.{attribute-given}
use Rattle.neli_c.proofs.lent.neli_c_next_attribute.Goals as goal

pub returns-in-Ok-clause-attribute : goal.returns-in-Ok-clause-attribute
returns-in-Ok-clause-attribute c = λ _.
    let w : NeliWalk = c.args.walk.now in
    let moved = ap (λ (n : ℕ). record w { place = w.place + n }) c.alignto.ensures in
    attribute-given c.args.bytes.now w _ c.in-Some.rest.now c.new-cursor.result.rest _ _ _ _ c.in-Some.ensures.places
    c.new-cursor.ensures.rest c.in-Ok.ensures.value c.attribute_at.ensures.length c.attribute_at.ensures.field
    c.attribute_at.ensures.parts c.attribute_at.ensures.payload c.attribute_at.ensures.payload_length moved
