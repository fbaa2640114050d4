use Rattle.std.proofs.Common.{◌≡◌}
use Rattle.neli_show.proofs.Messages.{are_messages}
use Rattle.neli_show.proofs.whole.is_whole_datagram.Given as goal

-- a fault is among the items that are left, if there is one
abbrev pub invariant-loop-message : goal.invariant-loop-message
invariant-loop-message l = are_messages l.fn.bytes ≡ are_messages l.message-iterator
