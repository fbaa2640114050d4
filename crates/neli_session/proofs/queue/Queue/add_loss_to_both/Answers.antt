use Rattle.std.proofs.Common.{List, subst, sym}
use Rattle.neli_session.specs.declared.queue.Entry.{Entry}
use Rattle.neli_session.specs.declared.queue.Entry.TheVariants as entry
use Rattle.neli_session.specs.Waiting.{AreFilled, entries_in}
use Rattle.neli_session.proofs.Queues.{filled-last}
use Rattle.neli_session.proofs.queue.Queue.add_loss_to_both.Goals as goal

pub invariant_of-self-else-is_err : goal.invariant_of-self-else-is_err
invariant_of-self-else-is_err c = (
  c.push.ensures.fronted,
  subst (λ (es : List Entry). AreFilled es) (sym c.in_ok-push.ensures.pushed)
      (filled-last (entries_in c.self.inside.front c.self.inside.later.items) (entry.Loss c.args.loss) c.self.invariant.1
      (λ e. cc)),
)
