use Rattle.std.proofs.Common.{◌≡◌, Bool, true, false, refl, sym, ◌∙◌}
use Rattle.neli_session.specs.Readiness.{settled_in}
use Rattle.neli_session.proofs.Readiness.{kept-there, own-settled}
use Rattle.neli_session.proofs.line.Line.settle.Goals as goal

not-ready : (is stays : Bool) → (is ≡ true → stays ≡ true) → stays ≡ false → is ≡ false
not-ready true stays both gone = let wrong : true ≡ false = sym (both refl) ∙ gone in wrong
not-ready false stays both gone = refl

pub returns-clause-line : goal.returns-clause-line
returns-clause-line c = λ ns stand was place.
    let n = c.args.number in
    let turn = c.args.turn in
    c.remove.ensures.line (settled_in turn.is_ready n ns) (c.shift.ensures.line ns stand was place)
    (own-settled turn.is_ready n ns
    ∙ not-ready turn.is_ready turn.stays (λ e. c.requires.stays ∙ kept-there _ (sym c.requires.is ∙ e)) c.if-turn.false)
