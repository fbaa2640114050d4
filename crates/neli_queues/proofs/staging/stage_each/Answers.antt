use Rattle.std.proofs.Common.{◌≡◌, ◌++◌, ◌∙◌, [], true, nat_eq, sym, ap}
use Rattle.std.specs.HashMap.{keys}
use Rattle.std.specs.Set.{is_member}
use Rattle.std.proofs.lemmas.List.{append-nil}
use Rattle.neli_queues.specs.Pieces.{deliveries_for}
use Rattle.neli_queues.proofs.Pieces.{copies, copies-one}
use Rattle.neli_queues.proofs.staging.stage_each.Goals as goal

pub returns : goal.returns
returns c = λ q is_open.
    let none : c.loop-number.number-iterator ≡ [] = c.in-None.ensures.steps.0 in
    let has : is_member nat_eq (keys c.args.numbers.now) q ≡ true =
    ap (λ ks. is_member nat_eq ks q) (sym c.keys-number-items.ensures.rest) ∙ sym (c.keys-number-items.ensures.has q)
    ∙ is_open in
    let one = copies-one c.args.delivery.now q (keys c.args.numbers.now) c.keys-number-items.ensures.unique has in
    sym (append-nil (deliveries_for q c.loop-number.pieces.items))
    ∙ ap (λ ks. deliveries_for q c.loop-number.pieces.items ++ copies c.args.delivery.now q ks) (sym none)
    ∙ c.loop-number.invariant q
    ∙ ap (λ ds. deliveries_for q c.args.pieces.now.items ++ ds) one
