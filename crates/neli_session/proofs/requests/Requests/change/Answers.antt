use Rattle.std.proofs.Common.{◌≡◌, Bool, Option, ap, refl, sym, ◌∙◌}
use Rattle.neli_session.specs.declared.request.Request.{Request}
use Rattle.neli_session.specs.Lines.{order_of}
use Rattle.neli_session.specs.Readiness.{AreInLine, ready_at, settled_in}
use Rattle.neli_session.specs.Requests.{Held, of_number}
use Rattle.neli_session.specs.Sessions.{at, kept, when}
use Rattle.neli_session.proofs.Readiness.{after-turn, gone, in-line-same, kept-ready, none-in-line}
use Rattle.neli_session.proofs.requests.Requests.change.Goals as goal

pub invariant_of-self : goal.invariant_of-self
invariant_of-self c =
    (in-line-same c.self.inside.line _ c.self.invariant (c.in_default.ensures.none refl) c.in_default.ensures.links refl refl).0

pub returns-in_default-clause-line : goal.returns-in_default-clause-line
returns-in_default-clause-line c =
    let l = c.self.inside.line in
    let n = c.args.number in
    let none = gone _ c.in_default.ensures.there in
    (in-line-same l (record l { places = c.change.new.places }) c.self.invariant (c.in_default.ensures.none refl)
    c.in_default.ensures.links refl refl).1
    ∙ sym (none-in-line l n c.self.invariant none)
    ∙ ap (λ (o : Option Request). settled_in (ready_at (when c.args.by o)) n (order_of l)) (sym none)
    ∙ ap (λ (h : Held). settled_in (ready_at (when c.args.by (at h n))) n h.line) c.self.view_is

changed : (c : goal.After-settle) → AreInLine c.settle.new.self (order_of c.settle.new.self)
    × (order_of c.settle.new.self ≡ settled_in c.in-Some.turn.is_ready c.args.number (order_of c.self.inside.line))
changed c =
    let is = c.in-Some.ensures in
    let l = c.self.inside.line in
    after-turn l (record l { places = c.change.new.places }) c.settle.new.self c.args.number c.in-Some.turn c.self.invariant
    (sym is.there) is.turn is.others is.links refl refl c.settle.ensures.line c.settle.ensures.own c.settle.ensures.others

pub invariant_of-self-2 : goal.invariant_of-self-2
invariant_of-self-2 c = (changed c).0

pub returns-clause-line : goal.returns-clause-line
returns-clause-line c =
    let n = c.args.number in
    let l = c.self.inside.line in
    (changed c).1
    ∙ ap (λ (b : Bool). settled_in b n (order_of l))
    (c.in-Some.ensures.turn.turned.is ∙ sym (kept-ready (of_number n c.change.new.places.entries))
    ∙ ap (λ (o : Option Request). ready_at (kept o)) c.in-Some.ensures.own)
    ∙ ap (λ (h : Held). settled_in (ready_at (when c.args.by (at h n))) n h.line) c.self.view_is
