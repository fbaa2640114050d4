use Rattle.std.proofs.Common.{◌∙◌}
use Rattle.neli_session.proofs.Queues.{some-waits}
use Rattle.neli_session.proofs.queue.Queue.is_empty.Goals as goal

pub returns-in-Some : goal.returns-in-Some
returns-in-Some c = (
  (λ e. cc),
  (λ e. absurd (some-waits c.self.inside.front c.self.inside.later.items _ c.in-Some.is c.self.invariant.1 (c.self.view_is ∙ e))),
)
