use Rattle.std.proofs.Common.{◌≡◌, ◌++◌, ℕ, true, map}
use Rattle.std.specs.Vec.Iter.{into_iter_items}
use Rattle.neli_reader.specs.Messages.{message_of}
use Rattle.neli_deliveries.specs.Deliveries.{messages_to}
use Rattle.neli_queues.specs.Pieces.{deliveries_for, is_open}
use Rattle.neli_queues.proofs.staging.stage_messages.Given as goal

-- with the share of the rest, each open number has gained its share of all messages
abbrev pub invariant-loop-message : goal.invariant-loop-message
invariant-loop-message l = (q : ℕ) → is_open l.numbers q ≡ true
    → deliveries_for q l.pieces.items ++ messages_to l.port (is_open l.numbers) q
    (map (message_of (λ b. b)) (into_iter_items l.message-iterator))
    ≡ deliveries_for q l.initial.pieces.items ++ messages_to l.port (is_open l.numbers) q
    (map (message_of (λ b. b)) l.fn.messages.items)
