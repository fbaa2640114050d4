use Rattle.std.proofs.Common.{ℕ, List, subst, sym, ◌∙◌}
use Rattle.neli_session.specs.Lines.{Stand}
use Rattle.neli_session.proofs.Readiness.{settled-same}
use Rattle.neli_session.proofs.line.Line.shift.Goals as goal

pub returns-in-false-false-clause-line : goal.returns-in-false-false-clause-line
returns-in-false-false-clause-line c = λ ns stand was place.
    subst (λ (ms : List ℕ). Stand c.args.self.now ms)
    (sym (settled-same c.args.is_ready c.args.number ns (was ∙ c.in-false-false.is-0 ∙ sym c.in-false-false.is-1))) stand
