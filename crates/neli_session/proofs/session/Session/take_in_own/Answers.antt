use Rattle.std.proofs.Common.{refl, take}
use Rattle.neli_lent.specs.Messages.{message_view}
use Rattle.neli_session.specs.Messages.{messages_of}
use Rattle.neli_session.specs.Sessions.{at}
use Rattle.neli_session.proofs.Runs.{run-come}
use Rattle.neli_session.proofs.session.Session.take_in_own.Goals as goal

pub returns-in-Some-clause-run : goal.returns-in-Some-clause-run
returns-in-Some-clause-run c =
    let s = c.args.self.now in
    let r = rw c.in-Some.is at c.in_ok-taken.ensures.run in
    let come = run-come s.port c.args.group c.args.is_joined (message_view c.args.message.now)
    (messages_of (take c.in-Some.taken c.args.bytes.now)) (at s.requests) (at c.hear.new.self) s.multicast s.multicast
    s.unasked s.unasked s.requests.line c.hear.new.self.line c.requires.own r.3 c.requires.unheard refl refl in
    (r.0, r.1, r.2, come.0, come.1)
