use Rattle.neli_session.proofs.Queues.{back-last}
use Rattle.neli_session.proofs.queue.pop.Goals as goal

pub returns-in-Some-clause-popped : goal.returns-in-Some-clause-popped
returns-in-Some-clause-popped c = λ es e at.
    back-last c.args.front.now c.args.later.now.items c.pop_back.new.self.items c.in-Some.field-0 c.in-Some.ensures.items es e at
