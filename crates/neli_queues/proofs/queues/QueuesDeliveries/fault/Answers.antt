use Rattle.std.proofs.Common.{IsTrue}
use Rattle.neli_queues.proofs.Faults.{nobody_hears}
use Rattle.neli_queues.proofs.queues.QueuesDeliveries.fault.Goals as goal

pub returns-in_err-stage_each-clause-unawaited : goal.returns-in_err-stage_each-clause-unawaited
returns-in_err-stage_each-clause-unawaited c = λ none.
    let empty : IsTrue c.is_empty.result = c.is_empty.ensures.1 (nobody_hears c.args.self.now none) in
    let never = rw c.if-is_empty.false at empty in absurd cc

pub returns-clause-unawaited : goal.returns-clause-unawaited
returns-clause-unawaited c = λ none.
    let empty : IsTrue c.is_empty.result = c.is_empty.ensures.1 (nobody_hears c.args.self.now none) in
    let never = rw c.if-is_empty.false at empty in absurd cc
