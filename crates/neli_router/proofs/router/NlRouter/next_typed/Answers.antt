use Rattle.std.proofs.Common.{rules}
use Rattle.neli_router.proofs.Settling.{heard-by}
use Rattle.neli_router.specs.Rule.{has_number}
use Rattle.neli_router.specs.Verdicts.{heard_of}
use Rattle.neli_router.proofs.router.NlRouter.next_typed.Goals as goal

pub returns-in-Some-clause-gives : goal.returns-in-Some-clause-gives
returns-in-Some-clause-gives g c = λ e d ds p. record {
  x = c.in-Some.item;
  is_read = search rules;
  is_given = search rules;
  goes = record {
    waits = search rules;
    handle = search rules;
    heard = heard-by g.T.Constant.wire_number c.args.handle.now.needs_ack (has_number c.args.handle.now.number)
        c.args.handle.now.single_given c.answer-given.result.0.ended c.heading-heading.result d c.in-Some.item
        c.answer-given.result.1 (heard_of c.args.self.now.heard c.args.handle.now.number)
        (heard_of c.hear.new.all c.args.handle.now.number) (search rules)
        (rw c.state-state.ensures at c.heading-heading.ensures d ds p) (search rules)
        (rw c.state-state.ensures at c.hear.ensures.heard);
  };
}
