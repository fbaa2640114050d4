use Rattle.std.proofs.Common.{◌≡◌, ◌∙◌, ℕ, List, sym, ap, subst}
use Rattle.neli_wire.specs.Frames.{frame_at}
use Rattle.neli_lent.specs.Messages.{lent_message, message_view}
use Rattle.neli_reader.specs.Headers.{Header}
use Rattle.neli_lent.proofs.Spans.{same, span_body, span_header, span_lent, span_message}
use Rattle.neli_lent.proofs.span.NlmsghdrFromSpan.from_span.Goals as goal

pub returns-in-Err-clause-refused : goal.returns-in-Err-clause-refused
returns-in-Err-clause-refused g c = λ u is.
    absurd (span_lent c.args.span.now u c.in-Err.error is
    (sym (ap (frame_at (lent_message same)) c.new-cursor.ensures.rest) ∙ c.in-Err.ensures.refused))

pub returns-in-Ok-to_nlmsghdr-clause-value : goal.returns-in-Ok-to_nlmsghdr-clause-value
returns-in-Ok-to_nlmsghdr-clause-value g c = λ u is.
    let lent = sym (ap (frame_at (lent_message same)) c.new-cursor.ensures.rest) ∙ c.in-Ok.ensures.value in
    let w = c.in-Ok-to_nlmsghdr.message in
    let said = span_message c.args.span.now _ _ w lent c.in-Ok-to_nlmsghdr.ensures.value u is in
    rw said c.to_typed.ensures.value

pub returns-in-Ok-to_nlmsghdr-clause-header : goal.returns-in-Ok-to_nlmsghdr-clause-header
returns-in-Ok-to_nlmsghdr-clause-header g c = λ u is.
    let lent = sym (ap (frame_at (lent_message same)) c.new-cursor.ensures.rest) ∙ c.in-Ok.ensures.value in
    let w = c.in-Ok-to_nlmsghdr.message in
    let said = span_message c.args.span.now _ _ w lent c.in-Ok-to_nlmsghdr.ensures.value u is in
    rw said c.to_typed.ensures.header

pub returns-in-Ok-to_nlmsghdr-clause-refused : goal.returns-in-Ok-to_nlmsghdr-clause-refused
returns-in-Ok-to_nlmsghdr-clause-refused g c = λ u is.
    let lent = sym (ap (frame_at (lent_message same)) c.new-cursor.ensures.rest) ∙ c.in-Ok.ensures.value in
    let w = c.in-Ok-to_nlmsghdr.message in
    let said = span_message c.args.span.now _ _ w lent c.in-Ok-to_nlmsghdr.ensures.value u is in
    rw said c.to_typed.ensures.refused

pub returns-then-has_plain_body-clause-value : goal.returns-then-has_plain_body-clause-value
returns-then-has_plain_body-clause-value g c = λ u is.
    let lent = sym (ap (frame_at (lent_message same)) c.new-cursor.ensures.rest) ∙ c.in-Ok.ensures.value in
    let said = span_body c.args.span.now _ (message_view c.in-Ok.message) lent
    (c.has_plain_body.ensures.body c.if-has_plain_body.true) u is in
    rw (said, ← c.nl_payload.ensures) c.with_body.ensures.value

pub returns-then-has_plain_body-clause-header : goal.returns-then-has_plain_body-clause-header
returns-then-has_plain_body-clause-header g c = λ u is.
    let lent = sym (ap (frame_at (lent_message same)) c.new-cursor.ensures.rest) ∙ c.in-Ok.ensures.value in
    let said = span_body c.args.span.now _ (message_view c.in-Ok.message) lent
    (c.has_plain_body.ensures.body c.if-has_plain_body.true) u is in
    rw (said, ← c.header.ensures) c.with_body.ensures.header

pub returns-then-has_plain_body-clause-refused : goal.returns-then-has_plain_body-clause-refused
returns-then-has_plain_body-clause-refused g c = λ u is.
    let lent = sym (ap (frame_at (lent_message same)) c.new-cursor.ensures.rest) ∙ c.in-Ok.ensures.value in
    let said = span_body c.args.span.now _ (message_view c.in-Ok.message) lent
    (c.has_plain_body.ensures.body c.if-has_plain_body.true) u is in
    rw (said, ← c.nl_payload.ensures) c.with_body.ensures.refused

pub returns-then-has_plain_body-clause-memory : goal.returns-then-has_plain_body-clause-memory
returns-then-has_plain_body-clause-memory g c = λ u bytes is not2 not3 body out.
    let lent = sym (ap (frame_at (lent_message same)) c.new-cursor.ensures.rest) ∙ c.in-Ok.ensures.value in
    let said = span_body c.args.span.now _ (message_view c.in-Ok.message) lent
    (c.has_plain_body.ensures.body c.if-has_plain_body.true) u is in
    let stated = rw (said, ← c.nl_payload.ensures) at body in
    let held : c.nl_payload.result.now ≡ bytes = cc in
    subst (λ (x : List ℕ). g.P.FromBytesWithInput.takes_memory x) held (c.with_body.ensures.memory out)

pub returns-in-Ok-to_nlmsghdr-clause-memory : goal.returns-in-Ok-to_nlmsghdr-clause-memory
returns-in-Ok-to_nlmsghdr-clause-memory g c = λ u bytes is not2 not3 body out.
    let lent = sym (ap (frame_at (lent_message same)) c.new-cursor.ensures.rest) ∙ c.in-Ok.ensures.value in
    let header = ap (λ (h : Header ℕ). h.message_type) (span_header c.args.span.now _ _ u lent is) in
    let plain = c.has_plain_body.ensures.types.1 (λ e. not2 (header ∙ e), λ e. not3 (header ∙ e)) in
    absurd (let no = c.if-has_plain_body.false in cc)

pub returns-clause-memory : goal.returns-clause-memory
returns-clause-memory g c = λ u bytes is not2 not3 body out.
    let lent = sym (ap (frame_at (lent_message same)) c.new-cursor.ensures.rest) ∙ c.in-Ok.ensures.value in
    let header = ap (λ (h : Header ℕ). h.message_type) (span_header c.args.span.now _ _ u lent is) in
    let plain = c.has_plain_body.ensures.types.1 (λ e. not2 (header ∙ e), λ e. not3 (header ∙ e)) in
    absurd (let no = c.if-has_plain_body.false in cc)
