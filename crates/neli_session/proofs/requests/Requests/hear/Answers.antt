use Rattle.std.proofs.Common.{◌≡◌, ◌<◌, ◌≤◌, ℕ, Bool, false, Option, ap, length, refl, subst, sym, take, ◌∙◌}
use Rattle.std.specs.Prelude.{◌==◌, if◌then◌else◌}
use Rattle.neli_lent.specs.Messages.{message_view}
use Rattle.neli_session.specs.declared.request.Request.{Request}
use Rattle.neli_session.specs.Lines.{order_of}
use Rattle.neli_session.specs.Messages.{IsWhole, messages_of}
use Rattle.neli_session.specs.Readiness.{AreInLine, Shifts, line_by, ready_at, settled_in}
use Rattle.neli_session.specs.Requests.{Held, of_number}
use Rattle.neli_session.specs.Runs.{AreTaken, HearsRun}
use Rattle.neli_session.specs.Sessions.{after_own, at, kept}
use Rattle.neli_session.proofs.Readiness.{after-turn, in-line-same, kept-ready, refused}
use Rattle.neli_session.proofs.Runs.{heard-there, taken}
use Rattle.neli_session.proofs.requests.Requests.hear.Goals as goal

pub invariant_of-self : goal.invariant_of-self
invariant_of-self c =
    (in-line-same c.self.inside.line _ c.self.invariant c.in_err-hear.ensures.unchanged c.in_err-hear.ensures.links refl refl).0

pub returns-in_err-hear-clause-unchanged : goal.returns-in_err-hear-clause-unchanged
returns-in_err-hear-clause-unchanged c =
    let l = c.self.inside.line in
    let same = c.in_err-hear.ensures.unchanged in
    refused c.from_residual.result (
      λ q. same q ∙ ap (λ (h : Held). at h q) c.self.view_is,
      (in-line-same l (record l { places = c.hear.new.places }) c.self.invariant same c.in_err-hear.ensures.links refl refl).1
          ∙ ap (λ (h : Held). h.line) c.self.view_is,
    )

pub invariant_of-self-in-None : goal.invariant_of-self-in-None
invariant_of-self-in-None c =
    (in-line-same c.self.inside.line _ c.self.invariant ((rw c.in-None.is at c.in_ok-hear.ensures.alone) refl)
    c.in_ok-hear.ensures.links refl refl).0

pub returns-in-None-clause-line_alone : goal.returns-in-None-clause-line_alone
returns-in-None-clause-line_alone c =
    let l = c.self.inside.line in
    let m = message_view c.args.message.now in
    let n = m.0.sequence_number in
    let none = (rw c.in-None.is at c.in_ok-hear.ensures.untaken) refl in
    λ e. (in-line-same l (record l { places = c.hear.new.places }) c.self.invariant
    ((rw c.in-None.is at c.in_ok-hear.ensures.alone) refl) c.in_ok-hear.ensures.links refl refl).1
    ∙ sym (ap (λ (b : Bool). if b then settled_in (ready_at (after_own c.args.group m (of_number n l.places.entries))) n (order_of l)
    else order_of l) none)
    ∙ ap (λ (h : Held). line_by c.args.group m (at h) h.line) c.self.view_is

settled : (c : goal.After-settle) → AreInLine c.settle.new.self (order_of c.settle.new.self)
    × (order_of c.settle.new.self
    ≡ settled_in c.in-Some.turn.is_ready (message_view c.args.message.now).0.sequence_number (order_of c.self.inside.line))
settled c =
    let l = c.self.inside.line in
    let m = message_view c.args.message.now in
    let n = m.0.sequence_number in
    let mid = record l { places = c.hear.new.places } in
    let is : c.nl_seq.result.now ≡ n = c.nl_seq.ensures in
    after-turn l mid c.settle.new.self n c.in-Some.turn c.self.invariant
    (heard-there c.args.group m c.args.bytes.now c.in-Some.run' (of_number n l.places.entries) (kept (of_number n mid.places.entries))
    (rw c.in-Some.is at c.in_ok-hear.ensures.heard))
    (rw c.in-Some.is at c.in_ok-hear.ensures.turn)
    c.hear.ensures.others c.hear.ensures.links refl refl
    (subst (λ (k : ℕ). Shifts k c.in-Some.turn.was_ready c.in-Some.turn.is_ready mid c.settle.new.self) is c.settle.ensures.line)
    (subst (λ (k : ℕ). of_number k c.settle.new.self.places.entries ≡ kept (of_number k mid.places.entries)) is c.settle.ensures.own)
    (subst (λ (k : ℕ). (q : ℕ) → (k == q) ≡ false
    → of_number q c.settle.new.self.places.entries ≡ of_number q mid.places.entries) is c.settle.ensures.others)

pub invariant_of-self-in-Some : goal.invariant_of-self-in-Some
invariant_of-self-in-Some c = (settled c).0

pub returns-in-Some-clause-run : goal.returns-in-Some-clause-run
returns-in-Some-clause-run c =
    let l = c.self.inside.line in
    let es = l.places.entries in
    let fs = c.settle.new.self.places.entries in
    let m = message_view c.args.message.now in
    let n = m.0.sequence_number in
    let bytes = c.args.bytes.now in
    let run = c.in-Some.run' in
    let is : c.nl_seq.result.now ≡ n = c.nl_seq.ensures in
    let own : of_number n fs ≡ kept (of_number n c.hear.new.places.entries) =
    subst (λ (k : ℕ). of_number k fs ≡ kept (of_number k c.hear.new.places.entries)) is c.settle.ensures.own in
    subst (λ (h : Held). (0 < run.length) × (run.length ≤ length bytes) × IsWhole (take run.length bytes)
    × AreTaken c.args.group m (messages_of (take run.length bytes)) (at h) (λ q. of_number q fs) h.line (order_of c.settle.new.self))
    c.self.view_is
    (taken c.args.group m bytes run (λ q. of_number q es) (λ q. of_number q fs) (order_of l) (order_of c.settle.new.self)
    c.in-Some.turn.is_ready
    (subst (λ (o : Option Request). HearsRun c.args.group m bytes run (of_number n es) o) (sym own)
    (rw c.in-Some.is at c.in_ok-hear.ensures.heard))
    (λ q e. subst (λ (k : ℕ). (k == q) ≡ false → of_number q fs ≡ of_number q c.hear.new.places.entries) is
    (c.settle.ensures.others q) e ∙ c.hear.ensures.others q e)
    ((rw c.in-Some.is at c.in_ok-hear.ensures.turn).turned.is ∙ sym (kept-ready (of_number n c.hear.new.places.entries))
    ∙ ap (λ (o : Option Request). ready_at o) (sym own))
    (settled c).1)
