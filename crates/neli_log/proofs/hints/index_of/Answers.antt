use Rattle.std.proofs.Common.{Some, sym, ap, ◌∙◌}
use Rattle.neli_log.proofs.hints.index_of.Goals as goal

pub returns-then-hinted-number-clause-found : goal.returns-then-hinted-number-clause-found
returns-then-hinted-number-clause-found g c = (
  c.in-Some.field-0-1.now,
  sym c.in-Some.ensures.entry ∙ ap (λ k. Some (k, c.in-Some.field-0-1.now)) c.if-hinted-number.true,
)
