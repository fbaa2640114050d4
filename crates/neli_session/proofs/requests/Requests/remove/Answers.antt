use Rattle.std.proofs.Common.{◌≡◌, Bool, None, Option, ap, ◌∙◌}
use Rattle.std.specs.Prelude.{if◌then◌else◌}
use Rattle.neli_session.specs.declared.request.Request.{Request}
use Rattle.neli_session.specs.Lines.{is_in, order_of}
use Rattle.neli_session.specs.Readiness.{AreInLine, ready_at}
use Rattle.neli_session.specs.Requests.{Held, of_number}
use Rattle.neli_session.proofs.Lines.{itself}
use Rattle.neli_session.proofs.Readiness.{after-place}
use Rattle.neli_session.proofs.requests.Requests.remove.Goals as goal

removed : (c : goal.After-remove) → AreInLine c.remove.new.self (order_of c.remove.new.self)
    × (order_of c.remove.new.self ≡ order_of c.self.inside.line)
removed c =
    let n = c.args.number in
    let l = c.self.inside.line in
    after-place l c.remove.new.self n c.self.invariant c.remove.ensures.line
    (ap (λ (h : Held). is_in n h.line) c.self.view_is ∙ c.requires)
    (ap (λ (o : Option Request). ready_at o) (c.remove.ensures.removed n
    ∙ ap (λ (b : Bool). if b then None else of_number n l.places.entries) (itself n)))
    (λ q e. c.remove.ensures.removed q ∙ ap (λ (b : Bool). if b then None else of_number q l.places.entries) e)

pub invariant_of-self : goal.invariant_of-self
invariant_of-self c = (removed c).0

pub returns-clause-line : goal.returns-clause-line
returns-clause-line c = (removed c).1 ∙ ap (λ (h : Held). h.line) c.self.view_is
