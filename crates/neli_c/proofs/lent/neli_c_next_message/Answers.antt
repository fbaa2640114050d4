use Rattle.std.proofs.Common.{ap, ℕ, ◌+◌}
use Rattle.neli_c_parts.specs.declared.message.NeliWalk.{NeliWalk}
use Rattle.neli_c.proofs.Frames.{message-given}
use Rattle.neli_c.proofs.lent.neli_c_next_message.Goals as goal

pub returns-in-Ok-clause-message : goal.returns-in-Ok-clause-message
returns-in-Ok-clause-message c = λ _.
    let w : NeliWalk = c.args.walk.now in
    let moved = ap (λ (n : ℕ). record w { place = w.place + n }) c.alignto.ensures in
    message-given c.args.bytes.now w _ c.in-Some.rest.now c.new-cursor.result.rest _ _ _ _ c.in-Some.ensures.places
    c.new-cursor.ensures.rest c.in-Ok.ensures.value c.message_at.ensures.header c.message_at.ensures.payload
    c.message_at.ensures.payload_length moved
