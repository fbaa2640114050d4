use Rattle.neli_lent.specs.Messages.{message_view}
use Rattle.neli_session.proofs.Messages.{IsAt, message-there, none-at}
use Rattle.neli_session.proofs.chunk.message_at.Goals as goal

pub returns-in-Ok-clause-some : goal.returns-in-Ok-clause-some
returns-in-Ok-clause-some c =
    let here : IsAt c.args.bytes.now c.args.place c.new-cursor.result c.set_position.new.self = record {
      empty = c.new-cursor.ensures.before;
      rest_all = c.new-cursor.ensures.rest;
      before = c.set_position.ensures.before;
      rest = c.set_position.ensures.rest;
    } in
    message-there c.args.bytes.now c.args.place c.position.result c.new-cursor.result c.set_position.new.self
    c.lend.new.cursor (message_view c.in-Ok.message) here c.in-Ok.ensures.value c.in-Ok.ensures.moved
    c.position.ensures.value

pub returns-clause-none : goal.returns-clause-none
returns-clause-none c = λ x.
    let here : IsAt c.args.bytes.now c.args.place c.new-cursor.result c.set_position.new.self = record {
      empty = c.new-cursor.ensures.before;
      rest_all = c.new-cursor.ensures.rest;
      before = c.set_position.ensures.before;
      rest = c.set_position.ensures.rest;
    } in
    none-at c.args.bytes.now c.args.place c.new-cursor.result c.set_position.new.self c.in_default.field-0 here
    c.in_default.ensures.refused c.requires.whole
