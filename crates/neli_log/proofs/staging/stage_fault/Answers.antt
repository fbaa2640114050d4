use Rattle.std.proofs.Common.{ap, refl}
use Rattle.neli_deliveries.specs.declared.delivery.Delivery.TheVariants as delivery
use Rattle.neli_log.specs.Places.{pending_of}
use Rattle.neli_log.specs.declared.content.Content.TheVariants as content
use Rattle.neli_log.proofs.Stages.{staged_fault, staged_unread_fault}
use Rattle.neli_log.proofs.staging.stage_fault.Goals as goal

pub returns-in_ok-push : goal.returns-in_ok-push
returns-in_ok-push c = λ port serial at bytes groups cut h.
    rw c.in_ok-push.ensures.items
    (staged_fault (pending_of c.args.places.now) port serial bytes groups cut c.args.entries.now.items at
    (content.Fault c.in_ok-fault.fault) c.args.fault (ap (λ e. delivery.Fault e) c.in_ok-fault.ensures.ok) refl h
    (c.has_reader.ensures.0 c.if-has_reader.true))

pub returns-else-has_reader : goal.returns-else-has_reader
returns-else-has_reader c = λ port serial at bytes groups cut h.
    staged_unread_fault (pending_of c.args.places.now) port serial bytes groups cut c.args.entries.now.items at
    c.args.fault h (λ r. (let yes = c.has_reader.ensures.1 r in let no = c.if-has_reader.false in cc))
