use Rattle.std.proofs.Common.{inr, refl, ◌∙◌}
use Rattle.neli_reader.specs.NlPayload.TheVariants as payload
use Rattle.neli_lent.proofs.Spans.{length_refused}
use Rattle.neli_lent.proofs.span.with_body.Goals as goal

pub returns-in-Err-clause-refused : goal.returns-in-Err-clause-refused
returns-in-Err-clause-refused g c =
    let long = length_refused (g.P.Size.wire_length c.in_ok-body.body) _ c.in-Err.ensures.refused.1 in
    (c.from_static.ensures ∙ c.length_refusal.ensures, inr (payload.Payload c.in_ok-body.body, rw c.in_ok-body.ensures.value refl, tt, long))
