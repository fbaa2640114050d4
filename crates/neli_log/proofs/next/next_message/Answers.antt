use Rattle.std.proofs.Common.{◌∙◌, ap, sym}
use Rattle.neli_wire.specs.Frames.{frame_at}
use Rattle.neli_lent.specs.Messages.{lent_message, message_view}
use Rattle.neli_log.proofs.Read.{read_lent, read_shorter}
use Rattle.neli_log.proofs.next.next_message.Goals as goal

pub returns-then-has_plain_body-clause-message : goal.returns-then-has_plain_body-clause-message
returns-then-has_plain_body-clause-message c =
    let lent = sym (ap (λ p. frame_at (lent_message (λ n. n)) p.rest) c.ahead-ahead.ensures) ∙ c.in-Ok.ensures.value in
    let read = read_lent _ _ (message_view c.in-Ok.message) _ lent
    (c.has_plain_body.ensures.body c.if-has_plain_body.true) in
    (_, read, c.nl_seq.ensures, c.nl_pid.ensures)

pub returns-then-has_plain_body-clause-shorter : goal.returns-then-has_plain_body-clause-shorter
returns-then-has_plain_body-clause-shorter c =
    let lent = sym (ap (λ p. frame_at (lent_message (λ n. n)) p.rest) c.ahead-ahead.ensures) ∙ c.in-Ok.ensures.value in
    read_shorter _ _ _ (read_lent _ _ (message_view c.in-Ok.message) _ lent
    (c.has_plain_body.ensures.body c.if-has_plain_body.true))

pub returns-in-Ok-from_bytes-clause-shorter : goal.returns-in-Ok-from_bytes-clause-shorter
returns-in-Ok-from_bytes-clause-shorter c = read_shorter _ _ _ c.in-Ok-from_bytes.ensures.value
