use Rattle.std.proofs.Common.{◌≡◌, ℕ, Bool, List, None, Some, false, Option, ap, sym, ◌∙◌}
use Rattle.std.specs.Prelude.{◌==◌, if◌then◌else◌, is_some}
use Rattle.neli_session.specs.declared.line.Line.{Line}
use Rattle.neli_session.specs.declared.line.Place.{Place}
use Rattle.neli_session.specs.declared.request.Request.{Request}
use Rattle.neli_session.specs.Lines.{StaysInLine, is_in, order_of}
use Rattle.neli_session.specs.Readiness.{AreInLine, ready_at}
use Rattle.neli_session.specs.Requests.{Held, of_number, place_of}
use Rattle.neli_session.proofs.Lines.{itself, part-there}
use Rattle.neli_session.proofs.Readiness.{after-place, gone}
use Rattle.neli_session.proofs.requests.Requests.add.Goals as goal

free : (n : ℕ) (es : List (ℕ × Place)) (b : Bool) → b ≡ false → b ≡ is_some (place_of n es) → of_number n es ≡ None
free n es b out is = gone (of_number n es) (sym out ∙ is ∙ sym (part-there (λ p. p.request) (place_of n es)))

away : (l : Line) (n : ℕ) → AreInLine l (order_of l) → of_number n l.places.entries ≡ None → is_in n (order_of l) ≡ false
away l n before none = before.ready n ∙ ap (λ (o : Option Request). ready_at o) none

-- refused or not, what was added has nothing to read
added : (l new : Line) (n : ℕ) → AreInLine l (order_of l) → StaysInLine n l new → of_number n l.places.entries ≡ None
    → ready_at (of_number n new.places.entries) ≡ false
    → ((q : ℕ) → (n == q) ≡ false → of_number q new.places.entries ≡ of_number q l.places.entries)
    → AreInLine new (order_of new) × (order_of new ≡ order_of l)
added l new n before stays none unready others =
    after-place l new n before stays (away l n before none) unready others

pub invariant_of-self : goal.invariant_of-self
invariant_of-self c =
    let l = c.self.inside.line in
    let n = c.args.entry.number in
    let none = free n l.places.entries _ c.if-contains_key.false c.contains_key.ensures in
    let same = c.in_default.ensures.unchanged in
    (added l c.add.new.self n c.self.invariant c.add.ensures.line none (ap (λ (o : Option Request). ready_at o) (same n ∙ none))
    (λ q e. same q)).0

pub returns-in_default-clause-line : goal.returns-in_default-clause-line
returns-in_default-clause-line c =
    let l = c.self.inside.line in
    let n = c.args.entry.number in
    let none = free n l.places.entries _ c.if-contains_key.false c.contains_key.ensures in
    let same = c.in_default.ensures.unchanged in
    (added l c.add.new.self n c.self.invariant c.add.ensures.line none (ap (λ (o : Option Request). ready_at o) (same n ∙ none))
    (λ q e. same q)).1
    ∙ ap (λ (h : Held). h.line) c.self.view_is

there : (c : goal.In-Ok) → AreInLine c.add.new.self (order_of c.add.new.self)
    × (order_of c.add.new.self ≡ order_of c.self.inside.line)
there c =
    let l = c.self.inside.line in
    let n = c.args.entry.number in
    let none = free n l.places.entries _ c.if-contains_key.false c.contains_key.ensures in
    let r = c.new-request.result in
    added l c.add.new.self n c.self.invariant c.add.ensures.line none
    (ap (λ (o : Option Request). ready_at o)
    (c.in-Ok.ensures.added n ∙ ap (λ (b : Bool). if b then Some r else of_number n l.places.entries) (itself n)
    ∙ ap (λ (r : Request). Some r) c.new-request.ensures))
    (λ q e. c.in-Ok.ensures.added q ∙ ap (λ (b : Bool). if b then Some r else of_number q l.places.entries) e)

pub invariant_of-self-2 : goal.invariant_of-self-2
invariant_of-self-2 c = (there c).0

pub returns-clause-line : goal.returns-clause-line
returns-clause-line c = (there c).1 ∙ ap (λ (h : Held). h.line) c.self.view_is

pub returns-clause-away : goal.returns-clause-away
returns-clause-away c =
    let l = c.self.inside.line in
    let n = c.args.entry.number in
    ap (λ (ns : List ℕ). is_in n ns) (there c).1
    ∙ away l n c.self.invariant (free n l.places.entries _ c.if-contains_key.false c.contains_key.ensures)
