use Rattle.std.proofs.Common.{◌≡◌, ◌⊎◌, Err, Some, true, ◌++◌, ◌∷◌, [], refl, sym, ap, inl, inr, ◌∙◌}
use Rattle.neli_reader.specs.RouterError.TheVariants as router
use Rattle.neli_router.specs.Verdicts.{heard_of}
use Rattle.neli_short_router.specs.Reads.{IsRead, standing}
use Rattle.neli_short_router.proofs.Steps.{none_is, ok_same, read_is}
use Rattle.neli_short_router.proofs.client.read_one.Given.{Over}
use Rattle.neli_short_router.proofs.client.read_one.Goals.{After-put, In-End}
use Rattle.neli_short_router.proofs.client.read_one.Goals as goal

-- where an item is read, it is that of the call, and the number stays
given : (g : Over) (c : After-put g) → IsRead g.T.Constant.wire_value g.T.Constant.wire_number
    g.P.FromBytesWithInput.view g.P.Size.wire_length g.P.FromBytesWithInput.read
    (standing c.args.handle.now (g.D.Deliveries.pending c.args.router.now.deliveries)
    (heard_of c.args.router.now.heard))
    c.in-Item.item
    (standing c.next_typed.new.handle (g.D.Deliveries.pending c.next_typed.new.self.deliveries)
    (heard_of c.next_typed.new.self.heard))
    × (c.next_typed.new.handle.number ≡ c.args.handle.now.number)
given g c =
    let is = c.in-Item.is in
    read_is g.T.Constant.wire_value g.T.Constant.wire_number g.P.FromBytesWithInput.view g.P.Size.wire_length
    g.P.FromBytesWithInput.read c.args.handle.now c.next_typed.new.handle
    (g.D.Deliveries.pending c.args.router.now.deliveries)
    (g.D.Deliveries.pending c.next_typed.new.self.deliveries) (heard_of c.args.router.now.heard)
    (heard_of c.next_typed.new.self.heard) c.in-Item.item
    (λ a. sym is ∙ ok_same (c.in_ok-item.ensures.ended a).0)
    (λ a n. (let k = c.in_ok-item.ensures.closed a n in (
      sym is ∙ ok_same k.0,
      k.1,
      rw k.2 n,
      rw k.2 refl,
    )))
    (λ a n. sym is ∙ ok_same (c.in_ok-item.ensures.waits a n).0)
    (λ a d ds n. (let k = c.in_ok-item.ensures.gives a d ds n in
    (k.x, k.is_read, sym is ∙ k.is_given, k.goes.waits, k.goes.handle, k.goes.heard)))

pub returns-in-Item-clause-rest : goal.returns-in-Item-clause-rest
returns-in-Item-clause-rest g c =
    let of = c.in_ok-item.ensures in
    ((given g (goal.at.returns-in-Item-clause-rest g c).After-put).1, of.given_up, of.same)

pub returns-in-Item-clause-read : goal.returns-in-Item-clause-read
returns-in-Item-clause-read g c = λ yes. (
  c.in-Item.item,
  (given g (goal.at.returns-in-Item-clause-read g c).After-put).0,
  c.put.ensures ∙ ap (λ ys. ys ++ c.in-Item.item ∷ []) c.in_ok-reserve.ensures.items,
)

-- where none is, the router and the handle are the same, and the handle has ended or nothing waits for it
nothing : (g : Over) (c : In-End g)
    → ((c.next_typed.new.handle ≡ c.args.handle.now) × (c.next_typed.new.self ≡ c.args.router.now))
    × ((c.args.handle.now.ended ≡ true)
    ⊎ (g.D.Deliveries.pending c.args.router.now.deliveries c.args.handle.now.number ≡ Some []))
nothing g c =
    let h = c.args.handle.now in
    none_is c.in_ok-item.field-0
    ((c.next_typed.new.handle ≡ c.args.handle.now) × (c.next_typed.new.self ≡ c.args.router.now))
    (λ x e. elim c.in-End.is [
      | inl ended ↦ (let bad = sym ended ∙ e in cc)
      | inr waits ↦ (let bad = sym waits ∙ e in cc)
    ]) h
    (g.D.Deliveries.pending c.args.router.now.deliveries h.number)
    (λ a. (let k = c.in_ok-item.ensures.ended a in (k.1, k.2)))
    (λ a n. (Err router.ClosedChannel, ok_same (c.in_ok-item.ensures.closed a n).0))
    (λ a n. (let k = c.in_ok-item.ensures.waits a n in (k.1, k.2)))
    (λ a d ds n. (let k = c.in_ok-item.ensures.gives a d ds n in (_, k.is_given)))

pub returns-in-End-clause-rest : goal.returns-in-End-clause-rest
returns-in-End-clause-rest g c =
    let of = c.in_ok-item.ensures in
    let same = (nothing g (goal.at.returns-in-End-clause-rest g c).In-End).0.0 in
    (rw same refl, of.given_up, of.same)

pub returns-in-End-clause-unchanged : goal.returns-in-End-clause-unchanged
returns-in-End-clause-unchanged g c = λ no.
    let same = (nothing g (goal.at.returns-in-End-clause-unchanged g c).In-End).0 in
    (c.in_ok-reserve.ensures.items, same.0, same.1)

pub returns-in-End-clause-none : goal.returns-in-End-clause-none
returns-in-End-clause-none g c = λ no. (nothing g (goal.at.returns-in-End-clause-none g c).In-End).1
