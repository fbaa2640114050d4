use Rattle.std.proofs.Common.{◌∙◌}
use Rattle.neli_session.specs.Sessions.{at, when}
use Rattle.neli_session.proofs.Readiness.{among-more, among-requests}
use Rattle.neli_session.proofs.requests.Requests.change_all.Goals as goal

pub loop-number-preserved : goal.loop-number-preserved
loop-number-preserved c =
    let ns = c.args.numbers.now in
    let i = c.loop-number.number-index in
    let rs = at c.loop-number.self in
    let ss = at c.change.new.self in
    record {
      requests = λ q. among-requests ns i (when c.args.by) q (rs q) (ss q) c.loop-number-test.true (c.change.ensures.changed q)
          ∙ c.loop-number.invariant.requests q;
      line = among-more ns i (when c.args.by) rs ss c.loop-number.self.line c.change.new.self.line c.loop-number-test.true
          c.change.ensures.changed c.change.ensures.line ∙ c.loop-number.invariant.line;
    }
