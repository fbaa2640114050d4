use Rattle.std.proofs.Common.{◌≡◌, ◌++◌, map}
use Rattle.std.specs.Vec.Iter.{into_iter_items}
use Rattle.neli_reader.specs.Messages.{message_of}
use Rattle.neli_deliveries.specs.Deliveries.{message}
use Rattle.neli_queues.proofs.staging.listed.Given as goal

-- with the rest, the list is that of all messages
abbrev pub invariant-loop-message : goal.invariant-loop-message
invariant-loop-message l =
    l.list ++ map message (map (message_of (λ b. b)) (into_iter_items l.message-iterator))
    ≡ map message (map (message_of (λ b. b)) l.fn.messages.items)
