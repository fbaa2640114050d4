use Rattle.std.proofs.Common.{[], Some, ap, length, refl, subst, sym}
use Rattle.neli_wire.specs.Place.{whole}
use Rattle.neli_reader.specs.Agreement.{untyped_layout}
use Rattle.neli_reader.specs.Cuts.{cut_of}
use Rattle.neli_log.specs.Places.{pending_of}
use Rattle.neli_log.specs.declared.span.Span.{Span}
use Rattle.neli_log.specs.Staged.{AreStaged}
use Rattle.neli_log.proofs.Stages.{cut_first, cut_last, staged_found}
use Rattle.neli_log.proofs.staging.stage_next.Goals as goal

pub returns-in_ok-stage_message-in-Ok-clause-staged : goal.returns-in_ok-stage_message-in-Ok-clause-staged
returns-in_ok-stage_message-in-Ok-clause-staged c = λ cut h.
    let old = c.args.cursor.now in
    let new = c.next_message.new.cursor in
    let P = pending_of c.args.places.now in
    let es = c.args.entries.now.items in
    let m = rw c.in-Ok.is at c.in_ok-address.ensures.message in
    let moved = rw c.in-Ok.is at c.in_ok-address.ensures.moved in
    let shorter = rw c.in-Ok.is at c.in_ok-address.ensures.shorter in
    let x : Span = record { datagram = c.args.serial; start = c.position-start.result; end = c.position.result } in
    let found = staged_found c.args.serial old.before old.rest new.before new.rest m.0 c.in-Ok.address x refl
    c.position-start.ensures.value c.position.ensures.value m.1 shorter moved m.2 m.3 in
    let before = subst (λ r. AreStaged P c.args.port c.args.serial (whole old) c.args.groups.now cut es
    (length old.before) r) (cut_first old.rest new.rest m.0 m.1) h in
    subst (λ n. AreStaged P c.args.port c.args.serial (whole old) c.args.groups.now cut
    c.stage_message.new.entries.items n (cut_of untyped_layout new.rest)) c.position.ensures.value
    (c.in_ok-stage_message-in-Ok.ensures c.args.serial (length old.before) (whole old) m.0 cut
    (cut_of untyped_layout new.rest) before found)

pub returns-in-Err-clause-staged : goal.returns-in-Err-clause-staged
returns-in-Err-clause-staged c = λ cut h.
    let old = c.args.cursor.now in
    let new = c.next_message.new.cursor in
    let P = pending_of c.args.places.now in
    let es = c.args.entries.now.items in
    let fault = rw c.in-Err.is at c.in_ok-address.ensures.fault in
    let stays = rw c.in-Err.is at c.in_ok-address.ensures.stays in
    let same_place = ap (λ p. length p.before) stays in
    let before = subst (λ r. AreStaged P c.args.port c.args.serial (whole old) c.args.groups.now cut es
    (length old.before) r) (cut_last old.rest c.in-Err.fault c.requires fault) h in
    subst (λ n. AreStaged P c.args.port c.args.serial (whole old) c.args.groups.now cut es n ([], Some c.in-Err.fault))
    (sym same_place) before
