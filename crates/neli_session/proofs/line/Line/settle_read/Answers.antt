use Rattle.std.proofs.Common.{ℕ, List, Bool, subst, sym, ap, ◌∙◌}
use Rattle.std.specs.Prelude.{is_some}
use Rattle.neli_session.specs.Lines.{Stand, without}
use Rattle.neli_session.specs.Readiness.{read_in}
use Rattle.neli_session.proofs.Lines.{last-again}
use Rattle.neli_session.proofs.Readiness.{linked-there, out-without, settled-read}
use Rattle.neli_session.proofs.line.Line.settle_read.Goals as goal

pub returns-then-is_last-clause-line : goal.returns-then-is_last-clause-line
returns-then-is_last-clause-line c = λ ns stand was place.
    let n = c.args.number in
    subst (λ (b : Bool). Stand c.args.self.now (read_in b n ns)) (sym c.if-turn.true)
    (subst (λ (ms : List ℕ). Stand c.args.self.now ms)
    (sym (last-again ns n stand.apart (sym stand.last_is ∙ c.is_last.ensures c.if-is_last.true))) stand)

pub returns-clause-line : goal.returns-clause-line
returns-clause-line c = λ ns stand was place.
    let n = c.args.number in
    let ready = c.args.turn.is_ready in
    subst (λ (ms : List ℕ). Stand c.shift-2.new.self ms) (settled-read ready n ns)
    (c.shift-2.ensures.line (without n ns) (c.shift.ensures.line ns stand was place) (out-without n ns)
    (linked-there n c.shift.new.self.places.entries ∙ ap (λ o. is_some o) (c.shift.ensures.requests n)
    ∙ sym (linked-there n c.args.self.now.places.entries) ∙ place))
