use Rattle.std.proofs.Common.{List, ◌||◌, ◌≡◌, ◌∷◌, [], Some, ap, sym, ◌∙◌}
use Rattle.neli_deliveries.specs.declared.delivery.Delivery.{Delivery}
use Rattle.neli_router.specs.GivenUp.{finishes}
use Rattle.neli_router.proofs.Settling.{finishes-more, first-there, none-there, or_false}
use Rattle.neli_router.proofs.given_up.finishes.Goals as goal

pub loop-heading-preserved : goal.loop-heading-preserved
loop-heading-preserved g c =
    let inv = c.loop-heading.invariant in
    let answering = c.args.answering in
    let here = g.D.Deliveries.pending c.loop-heading.deliveries (Some c.args.number) in
    let f = first-there here c.in-Some.heading (sym c.first_heading.ensures ∙ c.in-Some.is) in
    record {
      port = c.drop_first.ensures.port ∙ inv.port;
      others = λ w not. c.drop_first.ensures.others w not ∙ inv.others w not;
      left = λ ds is.
          (let l = inv.left ds is in
          let same : l.0 ≡ f.0 ∷ f.1 = (let both : Some l.0 ≡ Some (f.0 ∷ f.1) = rw (← l.1) f.2 in cc) in
          let so_far = ap (λ (xs : List Delivery). c.loop-heading.last || finishes answering xs) (sym same) ∙ l.2 in (
            f.1,
            c.drop_first.ensures.taken f.0 f.1 f.2,
            rw (c.either-last.ensures, c.is_last.ensures)
                (finishes-more answering c.loop-heading.last ds f.1 f.0 c.in-Some.heading f.3 so_far),
          ));
    }

pub returns-clause-last : goal.returns-clause-last
returns-clause-last g c = λ ds is.
    let here = g.D.Deliveries.pending c.loop-heading.deliveries (Some c.args.number) in
    let l = c.loop-heading.invariant.left ds is in
    let none : l.0 ≡ [] = none-there here l.0 (sym c.first_heading.ensures ∙ c.in_default.is) l.1 in (
      sym (or_false c.loop-heading.last) ∙ (ap (λ (xs : List Delivery). c.loop-heading.last || finishes c.args.answering xs) (sym none) ∙ l.2),
      l.1 ∙ ap (λ (xs : List Delivery). Some xs) none,
    )
