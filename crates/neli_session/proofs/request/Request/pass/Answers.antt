use Rattle.neli_session.proofs.Passed.{passed-some}
use Rattle.neli_session.proofs.request.Request.pass.Goals as goal

pub returns-in-Some : goal.returns-in-Some
returns-in-Some c =
    passed-some c.args.self.now c.pass.new.self c.in-Some.noted c.pass.result c.take_note.new.self c.pass.ensures.passed
    c.pass.ensures.none c.in-Some.is c.take_note.ensures
