use Rattle.std.proofs.Common.{◌≡◌, Bool, Option, ap, refl, sym, ◌∙◌}
use Rattle.neli_session.specs.declared.request.Request.{Request}
use Rattle.neli_session.specs.Lines.{order_of}
use Rattle.neli_session.specs.Readiness.{AreInLine, read_in, ready_at}
use Rattle.neli_session.specs.Requests.{Held}
use Rattle.neli_session.specs.Sessions.{at, passed_at}
use Rattle.neli_session.proofs.Readiness.{after-read, gone, in-line-same, none-in-line}
use Rattle.neli_session.proofs.requests.Requests.pass.Goals as goal

pub invariant_of-self : goal.invariant_of-self
invariant_of-self c =
    (in-line-same c.self.inside.line _ c.self.invariant (c.in_default.ensures.none refl) c.in_default.ensures.links refl refl).0

pub returns-in_default-clause-line : goal.returns-in_default-clause-line
returns-in_default-clause-line c =
    let l = c.self.inside.line in
    let n = c.args.number in
    let none = gone _ c.in_default.ensures.there in
    (in-line-same l (record l { places = c.pass.new.places }) c.self.invariant (c.in_default.ensures.none refl)
    c.in_default.ensures.links refl refl).1
    ∙ sym (none-in-line l n c.self.invariant none)
    ∙ ap (λ (o : Option Request). read_in (ready_at (passed_at o)) n (order_of l)) (sym none)
    ∙ ap (λ (h : Held). read_in (ready_at (passed_at (at h n))) n h.line) c.self.view_is

passed : (c : goal.After-settle_read) → AreInLine c.settle_read.new.self (order_of c.settle_read.new.self)
    × (order_of c.settle_read.new.self ≡ read_in c.in-Some.turn.is_ready c.args.number (order_of c.self.inside.line))
passed c =
    let is = c.in-Some.ensures in
    let l = c.self.inside.line in
    after-read l (record l { places = c.pass.new.places }) c.settle_read.new.self c.args.number c.in-Some.turn c.self.invariant
    (sym is.there) is.turn is.others is.links refl refl
    c.settle_read.ensures.line c.settle_read.ensures.requests

pub invariant_of-self-2 : goal.invariant_of-self-2
invariant_of-self-2 c = (passed c).0

pub returns-clause-line : goal.returns-clause-line
returns-clause-line c =
    let n = c.args.number in
    let l = c.self.inside.line in
    (passed c).1
    ∙ ap (λ (b : Bool). read_in b n (order_of l))
    (c.in-Some.ensures.turn.turned.is ∙ ap (λ (o : Option Request). ready_at o) c.in-Some.ensures.own)
    ∙ ap (λ (h : Held). read_in (ready_at (passed_at (at h n))) n h.line) c.self.view_is
