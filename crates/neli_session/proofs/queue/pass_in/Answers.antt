use Rattle.std.proofs.Common.{◌∙◌}
use Rattle.neli_session.proofs.Queues.{later-left, noted-first, one-left, some-items}
use Rattle.neli_session.proofs.queue.pass_in.Goals as goal

pub returns-in-Messages-clause-noted : goal.returns-in-Messages-clause-noted
returns-in-Messages-clause-noted c = λ item later at.
    noted-first c.in-Messages.chunk c.pass.new.self c.pass.result.0 item later c.pass.ensures.passed (rw c.in-Messages.is at at)

pub returns-in-Messages-clause-last : goal.returns-in-Messages-clause-last
returns-in-Messages-clause-last c = λ item later at t.
    one-left c.in-Messages.chunk c.pass.new.self item later (λ m ms e. (c.pass.ensures.passed m ms e).0)
    (c.pass.ensures.empty.0 t) (rw c.in-Messages.is at at)

pub returns-in-Messages-clause-rest : goal.returns-in-Messages-clause-rest
returns-in-Messages-clause-rest c = λ item later at f.
    let same = later-left c.in-Messages.chunk c.pass.new.self item later (λ m ms e. (c.pass.ensures.passed m ms e).0)
    (rw c.in-Messages.is at at) in
    let some = some-items c.pass.new.self (λ e. absurd (let t = c.pass.ensures.empty.1 e in cc)) in
    (same, λ e. some (same ∙ e))
