use Rattle.std.proofs.Common.{◌≡◌, ℕ, Bool, true, false, Option, ap, refl, subst, sym, ◌∙◌}
use Rattle.std.specs.Option.{option_map}
use Rattle.std.specs.Prelude.{◌==◌, if◌then◌else◌, is_some}
use Rattle.neli_lent.specs.Messages.{message_view}
use Rattle.neli_session.specs.declared.request.Request.{Request}
use Rattle.neli_session.specs.declared.turn.Turn.{Turn}
use Rattle.neli_session.specs.Lines.{order_of}
use Rattle.neli_session.specs.Readiness.{AreInLine, Shifts, line_by, ready_at, settled_in}
use Rattle.neli_session.specs.Requests.{Held, heard, of_number}
use Rattle.neli_session.specs.Sessions.{after_own, at, kept, takes}
use Rattle.neli_session.proofs.Readiness.{after-turn, in-line-same, kept-ready, refused, taken-there}
use Rattle.neli_session.proofs.requests.Requests.hear_with.Goals as goal

pub invariant_of-self : goal.invariant_of-self
invariant_of-self c =
    (in-line-same c.self.inside.line _ c.self.invariant c.in_err-hear_with.ensures.unchanged.0 c.in_err-hear_with.ensures.links refl refl).0

pub returns-in_err-hear_with-clause-unchanged : goal.returns-in_err-hear_with-clause-unchanged
returns-in_err-hear_with-clause-unchanged c =
    let l = c.self.inside.line in
    let same = c.in_err-hear_with.ensures.unchanged in
    refused c.from_residual.result (
      λ q. same.0 q ∙ ap (λ (h : Held). at h q) c.self.view_is,
      (in-line-same l (record l { places = c.hear_with.new.places }) c.self.invariant same.0 c.in_err-hear_with.ensures.links refl refl).1
          ∙ ap (λ (h : Held). h.line) c.self.view_is,
      same.1,
    )

pub invariant_of-self-in-None : goal.invariant_of-self-in-None
invariant_of-self-in-None c =
    (in-line-same c.self.inside.line _ c.self.invariant ((rw c.in-None.is at c.in_ok-hear_with.ensures.alone) refl)
    c.in_ok-hear_with.ensures.links refl refl).0

pub returns-in-None-clause-line : goal.returns-in-None-clause-line
returns-in-None-clause-line c =
    let l = c.self.inside.line in
    let m = message_view c.args.message.now in
    let n = m.0.sequence_number in
    let none : takes c.args.group (of_number n l.places.entries) ≡ false =
    sym c.in_ok-hear_with.ensures.taken ∙ ap (λ (o : Option Turn). is_some o) c.in-None.is in
    (in-line-same l (record l { places = c.hear_with.new.places }) c.self.invariant
    ((rw c.in-None.is at c.in_ok-hear_with.ensures.alone) refl) c.in_ok-hear_with.ensures.links refl refl).1
    ∙ sym (ap (λ (b : Bool). if b then settled_in (ready_at (after_own c.args.group m (of_number n l.places.entries))) n (order_of l)
    else order_of l) none)
    ∙ ap (λ (h : Held). line_by c.args.group m (at h) h.line) c.self.view_is

takes-it : (c : goal.After-settle) → takes c.args.group
    (of_number (message_view c.args.message.now).0.sequence_number c.self.inside.line.places.entries) ≡ true
takes-it c = sym c.in_ok-hear_with.ensures.taken ∙ ap (λ (o : Option Turn). is_some o) c.in-Some.is

settled : (c : goal.After-settle) → AreInLine c.settle.new.self (order_of c.settle.new.self)
    × (order_of c.settle.new.self
    ≡ settled_in c.in-Some.turn.is_ready (message_view c.args.message.now).0.sequence_number (order_of c.self.inside.line))
settled c =
    let l = c.self.inside.line in
    let m = message_view c.args.message.now in
    let n = m.0.sequence_number in
    let mid = record l { places = c.hear_with.new.places } in
    let is : c.nl_seq.result.now ≡ n = c.nl_seq.ensures in
    after-turn l mid c.settle.new.self n c.in-Some.turn c.self.invariant
    (taken-there c.args.group (of_number n l.places.entries) (takes-it c))
    (rw c.in-Some.is at c.in_ok-hear_with.ensures.turn)
    c.hear_with.ensures.others c.hear_with.ensures.links refl refl
    (subst (λ (k : ℕ). Shifts k c.in-Some.turn.was_ready c.in-Some.turn.is_ready mid c.settle.new.self) is c.settle.ensures.line)
    (subst (λ (k : ℕ). of_number k c.settle.new.self.places.entries ≡ kept (of_number k mid.places.entries)) is c.settle.ensures.own)
    (subst (λ (k : ℕ). (q : ℕ) → (k == q) ≡ false
    → of_number q c.settle.new.self.places.entries ≡ of_number q mid.places.entries) is c.settle.ensures.others)

pub invariant_of-self-in-Some : goal.invariant_of-self-in-Some
invariant_of-self-in-Some c = (settled c).0

pub returns-in-Some-clause-line : goal.returns-in-Some-clause-line
returns-in-Some-clause-line c =
    let l = c.self.inside.line in
    let m = message_view c.args.message.now in
    let n = m.0.sequence_number in
    let o = of_number n l.places.entries in
    let own : of_number n c.hear_with.new.places.entries ≡ option_map (heard m) o =
    rw c.in-Some.is at c.in_ok-hear_with.ensures.heard in
    (settled c).1
    ∙ ap (λ (b : Bool). settled_in b n (order_of l))
    ((rw c.in-Some.is at c.in_ok-hear_with.ensures.turn).turned.is ∙ sym (kept-ready (of_number n c.hear_with.new.places.entries))
    ∙ ap (λ (p : Option Request). ready_at (kept p)) own)
    ∙ sym (ap (λ (b : Bool). if b then settled_in (ready_at (if b then kept (option_map (heard m) o) else o)) n (order_of l)
    else order_of l) (takes-it c))
    ∙ ap (λ (h : Held). line_by c.args.group m (at h) h.line) c.self.view_is
