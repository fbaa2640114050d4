use Rattle.std.proofs.Common.{◌∙◌}
use Rattle.neli_c_parts.proofs.Aheads.{once-more, times-left}
use Rattle.neli_c_parts.proofs.session.Session.go_past_items.Goals as goal

pub loop-done-preserved : goal.loop-done-preserved
loop-done-preserved c =
    let was = c.loop-done.invariant in
    let r = c.go_past.ensures in (
      once-more c.loop-done.done _ _ _ _ _ _ was.0 r.passes,
      r.handles ∙ was.1,
      r.freed ∙ was.2,
      r.held ∙ was.3,
      r.missed ∙ was.4,
    )

pub returns-then-is_past-clause-passes : goal.returns-then-is_past-clause-passes
returns-then-is_past-clause-passes c =
    let was = c.loop-done.invariant in
    times-left c.loop-done.done _ _ _ _ _ c.loop-done-test.true was.0 (c.is_past.ensures c.if-is_past.true)
