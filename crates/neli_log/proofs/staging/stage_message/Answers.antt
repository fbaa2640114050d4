use Rattle.neli_log.specs.Places.{pending_of}
use Rattle.neli_log.proofs.Stages.{staged_kept, staged_skipped}
use Rattle.neli_log.proofs.staging.stage_message.Goals as goal

pub returns-in_ok-push : goal.returns-in_ok-push
returns-in_ok-push c = λ serial at bytes u cut rest h f.
    rw c.in_ok-push.ensures.items
    (staged_kept (pending_of c.args.places.now) c.args.port serial bytes c.args.groups.now cut c.args.entries.now.items
    at u rest c.entry_of-entry.result c.args.span c.args.address h f
    (c.entry_of-entry.ensures.read bytes u f.spells f.number f.port) c.entry_of-entry.ensures.span
    (c.is_received.ensures.0 c.if-is_received.true))

pub returns-else-is_received : goal.returns-else-is_received
returns-else-is_received c = λ serial at bytes u cut rest h f.
    staged_skipped (pending_of c.args.places.now) c.args.port serial bytes c.args.groups.now cut
    c.args.entries.now.items at u rest c.entry_of-entry.result c.args.span c.args.address h f
    (c.entry_of-entry.ensures.read bytes u f.spells f.number f.port)
    (λ r. (let yes = c.is_received.ensures.1 r in let no = c.if-is_received.false in cc))
