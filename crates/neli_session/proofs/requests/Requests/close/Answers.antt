use Rattle.std.proofs.Common.{◌≡◌, Bool, false, Option, Some, None, ap, refl, sym, ◌∙◌}
use Rattle.std.specs.Option.{option_map}
use Rattle.neli_session.specs.declared.request.Request.{Request}
use Rattle.neli_session.specs.Lines.{order_of, without}
use Rattle.neli_session.specs.Readiness.{AreInLine, ready_at, settled_in}
use Rattle.neli_session.specs.Requests.{Held, of_number}
use Rattle.neli_session.specs.Sessions.{closed}
use Rattle.neli_session.proofs.Readiness.{after-turn, gone, in-line-same, none-in-line}
use Rattle.neli_session.proofs.requests.Requests.close.Goals as goal

pub invariant_of-self : goal.invariant_of-self
invariant_of-self c =
    (in-line-same c.self.inside.line _ c.self.invariant (c.in_default.ensures.none refl) c.in_default.ensures.links refl refl).0

pub returns-in_default-clause-line : goal.returns-in_default-clause-line
returns-in_default-clause-line c =
    let l = c.self.inside.line in
    let n = c.args.number in
    let none = gone _ c.in_default.ensures.there in
    (in-line-same l (record l { places = c.close.new.places }) c.self.invariant (c.in_default.ensures.none refl)
    c.in_default.ensures.links refl refl).1
    ∙ sym (none-in-line l n c.self.invariant none)
    ∙ ap (λ (h : Held). without n h.line) c.self.view_is

closed-away : (o : Option Request) → ready_at (option_map closed o) ≡ false
closed-away None = refl
closed-away (Some r) = refl

shut : (c : goal.After-settle) → AreInLine c.settle.new.self (order_of c.settle.new.self)
    × (order_of c.settle.new.self ≡ settled_in c.in-Some.turn.is_ready c.args.number (order_of c.self.inside.line))
shut c =
    let is = c.in-Some.ensures in
    let l = c.self.inside.line in
    after-turn l (record l { places = c.close.new.places }) c.settle.new.self c.args.number c.in-Some.turn c.self.invariant
    (sym is.there) is.turn is.others is.links refl refl c.settle.ensures.line c.settle.ensures.own c.settle.ensures.others

pub invariant_of-self-2 : goal.invariant_of-self-2
invariant_of-self-2 c = (shut c).0

pub returns-clause-line : goal.returns-clause-line
returns-clause-line c =
    let n = c.args.number in
    let l = c.self.inside.line in
    (shut c).1
    ∙ ap (λ (b : Bool). settled_in b n (order_of l))
    (c.in-Some.ensures.turn.turned.is ∙ ap (λ (o : Option Request). ready_at o) c.in-Some.ensures.own
    ∙ closed-away (of_number n l.places.entries))
    ∙ ap (λ (h : Held). without n h.line) c.self.view_is
