use Rattle.std.proofs.Common.{sym, ap, ◌∙◌}
use Rattle.neli_wire.specs.Frames.{frame_at}
use Rattle.neli_lent.specs.Messages.{lent_message}
use Rattle.neli_log.proofs.LentSpans.{span_lends, span_lent}
use Rattle.neli_log.proofs.lending.lent.Goals as goal

pub returns : goal.returns
returns c = λ u is.
    let lent = sym (ap (frame_at (lent_message (λ n. n))) c.new-cursor.ensures.rest) ∙ c.in-Ok.ensures.value in
    span_lends c.args.span.now _ _ u lent is

pub unreachable-requires : goal.unreachable-requires
unreachable-requires c =
    span_lent c.args.span.now _ c.requires
    (sym (ap (frame_at (lent_message (λ n. n))) c.new-cursor.ensures.rest) ∙ c.in-Err.ensures.refused)
