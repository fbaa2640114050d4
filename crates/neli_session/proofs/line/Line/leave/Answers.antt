use Rattle.std.proofs.Common.{◌≡◌, ℕ, true, false, Option, None, ap, subst, sym, ◌∙◌}
use Rattle.std.specs.Option.{option_map}
use Rattle.std.specs.Prelude.{is_some}
use Rattle.neli_session.specs.declared.line.Link.{Link}
use Rattle.neli_session.specs.declared.line.Place.{Place}
use Rattle.neli_session.specs.Lines.{IsLine, end_with, has_place, link_if, with_before, without}
use Rattle.neli_session.proofs.Lines.{line-less, placed}
use Rattle.neli_session.proofs.line.Line.leave.Goals as goal

pub returns-in-None-clause-line : goal.returns-in-None-clause-line
returns-in-None-clause-line c = λ ns stand within.
    let links = c.args.self.now.places.entries in
    let n = c.args.number in
    let place : has_place n links ≡ true = placed links None ns n stand.linked within in
    let none : false ≡ has_place n links = ap (λ (o : Option Place). is_some (option_map (λ p. p.link) o)) c.in-None.ensures.value in
    let wrong : false ≡ true = none ∙ place in
    cc

pub returns-clause-line : goal.returns-clause-line
returns-clause-line c = λ ns stand within.
    let old = c.args.self.now in
    let links = old.places.entries in
    let ks = c.set_before.new.places.entries in
    let n = c.args.number in
    let link = c.in-Some.place.now.link in
    subst (λ (o : Option ℕ). IsLine ks c.set_after.new.first o (without n ns)) (sym c.set_before.ensures.last)
    (subst (λ (o : Option ℕ). IsLine ks o (end_with link.after link.before old.last) (without n ns)) (sym c.set_after.ensures.first)
    (line-less links ks old.first old.last ns n link stand within
    (sym (ap (λ (o : Option Place). option_map (λ p. p.link) o) c.in-Some.ensures.value))
    (λ q. c.set_before.ensures.links q
    ∙ ap (λ (o : Option Link). link_if link.after (with_before link.before) q o) (c.set_after.ensures.links q))))
