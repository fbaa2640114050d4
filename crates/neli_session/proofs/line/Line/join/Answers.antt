use Rattle.std.proofs.Common.{ℕ, ◌∷◌, ◌++◌, [], Option, Some, ap, subst, sym, ◌∙◌}
use Rattle.neli_session.specs.declared.line.Link.{Link}
use Rattle.neli_session.specs.Lines.{IsLine, link_if, with_after}
use Rattle.neli_session.proofs.Lines.{line-more}
use Rattle.neli_session.proofs.line.Line.join.Goals as goal

pub returns-clause-line : goal.returns-clause-line
returns-clause-line c = λ ns stand out place.
    let n = c.args.number in
    let old = c.args.self.now in
    let new = c.set_after.new.places.entries in
    subst (λ (o : Option ℕ). IsLine new o (Some n) (ns ++ n ∷ [])) (sym c.set_after.ensures.first)
    (line-more old.places.entries new old.first old.last ns n stand out place
    (λ q. c.set_after.ensures.links q
    ∙ ap (λ (o : Option Link). link_if old.last (with_after (Some n)) q o) (c.set_link.ensures.links q)))
