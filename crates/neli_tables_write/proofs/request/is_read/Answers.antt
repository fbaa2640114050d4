use Rattle.std.proofs.Common.{◌∙◌, map, sym}
use Rattle.neli_tables_walk.specs.Bodies.{body_view}
use Rattle.neli_tables_write.specs.Asked.{asked_view}
use Rattle.neli_tables_write.proofs.Requested.{body_is, message_is}
use Rattle.neli_tables_write.proofs.request.is_read.Goals as goal

pub returns-then-has_name : goal.returns-then-has_name
returns-then-has_name c = λ said.
    let body = body_view c.body_of-body.result in
    message_is c.args.tables.now c.args.protocol c.args.name.now c.args.written.now body
    (map asked_view c.asked.result.now)
    (c.body_of-body.ensures
    ∙ body_is c.args.tables.now c.args.protocol c.args.written.now c.from_wire.result c.deref.result.now
    c.from_wire.ensures c.deref.ensures.value)
    (c.has_name.ensures c.if-has_name.true) (sym c.says.ensures ∙ said)
