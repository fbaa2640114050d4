use Rattle.std.proofs.Common.{◌≡◌, ◌+◌, length}
use Rattle.neli.specs.consts_routing.Rtm.{rtm_of}
use Rattle.neli.specs.lent.Messages.{messages_in}
use Rattle.neli.specs.lent.Walks.{items_of}
use Rattle.example_monitor.proofs.read_lines.Given as goal

-- each item so far has a line, and the others are still to come
abbrev pub invariant-loop-message : goal.invariant-loop-message
invariant-loop-message l =
    length l.lines.items + length (items_of (messages_in rtm_of l.message-iterator))
    ≡ length l.fn.lines.items + length (items_of (messages_in rtm_of l.fn.bytes))
