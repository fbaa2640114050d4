use Rattle.std.proofs.Common.{◌++◌, ◌∷◌, ◌∙◌, [], ap, append_assoc, map, sym}
use Rattle.std.specs.Vec.Iter.{into_iter_items}
use Rattle.neli_reader.specs.Messages.{message_of}
use Rattle.neli_deliveries.specs.declared.delivery.Delivery.TheVariants as delivery
use Rattle.neli_deliveries.specs.Deliveries.{message}
use Rattle.neli_queues.proofs.Messages.{message_from_same}
use Rattle.neli_queues.proofs.staging.listed.Goals as goal

pub loop-message-preserved : goal.loop-message-preserved
loop-message-preserved c =
    let list = c.loop-message.list in
    let rest = map message (map (message_of (λ b. b)) (into_iter_items c.next.new.self)) in
    ap (λ ds. ds ++ rest) c.in_ok-push_back.ensures.items
    ∙ append_assoc list (delivery.Message c.in-Some.message ∷ []) rest
    ∙ ap (λ m. list ++ (delivery.Message m ∷ rest)) (sym (message_from_same c.in-Some.message))
    ∙ ap (λ ms. list ++ map message (map (message_of (λ b. b)) ms)) (sym c.in-Some.ensures.steps.0)
    ∙ c.loop-message.invariant
