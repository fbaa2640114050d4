use Rattle.std.proofs.Common.{◌≡◌, ◌≤◌, [], ◌∷◌, List, arith, drop, length, refl, subst, sym, take, ◌∙◌}
use Rattle.neli_c_parts.specs.Ahead.{AreLent, Message, messages_in}
use Rattle.neli_c_parts.proofs.Aheads.{drop-next, lent-more, take-rest}
use Rattle.neli_c_parts.proofs.Steps.{rest-stored, within-stored}
use Rattle.neli_c_parts.proofs.ahead.fill.Goals as goal

pub returns-in_default : goal.returns-in_default
returns-in_default c =
    let k = c.loop-given.given in
    let xs = c.loop-given.items in
    let was = c.loop-given.invariant in
    let us = messages_in c.args.ahead.now in
    let none : drop k us ≡ [] = sym was.1 ∙ c.in_default.ensures.none refl in
    let within : k ≤ length c.args.items.now = omega (arith, was.0, c.loop-given.auto.items) in (
      subst (λ (vs : List Message). AreLent vs (take k xs)) (sym (take-rest k (length c.args.items.now) us none within))
          was.2,
      within,
      was.3,
    )

pub loop-given-preserved : goal.loop-given-preserved
loop-given-preserved c =
    let k = c.loop-given.given in
    let xs = c.loop-given.items in
    let was = c.loop-given.invariant in
    let us = messages_in c.args.ahead.now in
    let next = c.in-Some.ensures.some in
    let left : drop k us ≡ next.0 ∷ messages_in c.next_message.new.ahead = sym was.1 ∙ next.2 in
    let below = c.loop-given-test.true in (
      within-stored xs k _ below,
      sym (drop-next k us (messages_in c.next_message.new.ahead) next.0 left),
      lent-more us (messages_in c.next_message.new.ahead) xs k next.0 _ below left was.2
          (c.in-Some.message, next.1, c.stored.ensures),
      rest-stored xs _ k _ was.3,
    )
