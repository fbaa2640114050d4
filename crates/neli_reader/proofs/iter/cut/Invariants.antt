use Rattle.std.proofs.Common.{◌≡◌, ◌≤◌, Err, length}
use Rattle.std.specs.Prelude.{map}
use Rattle.neli_wire.specs.declared.errors.DeError.{DeError}
use Rattle.neli_wire.specs.Frames.{frame_at}
use Rattle.neli_msg.specs.Messages.{message_layout, message_of}
use Rattle.neli_reader.specs.Cuts.{cut_of, messages_before}
use Rattle.neli_reader.proofs.iter.cut.Given as goal

abbrev pub decreases-loop-item : goal.decreases-loop-item
decreases-loop-item g l = length l.iter

-- the cut is the messages so far, and then the cut of the rest, which is no longer than the datagram; nothing was read
-- if the first message is refused
abbrev pub invariant-loop-item : goal.invariant-loop-item
invariant-loop-item g l =
    (cut_of (message_layout g.T.Constant.wire_value g.T.Constant.wire_number g.P.FromBytesWithInput.read) l.fn.bytes
    ≡ messages_before (map (message_of g.P.FromBytesWithInput.view) l.messages.items)
    (cut_of (message_layout g.T.Constant.wire_value g.T.Constant.wire_number g.P.FromBytesWithInput.read) l.iter))
    × (length l.iter ≤ length l.fn.bytes)
    × ((e : DeError) → frame_at (message_layout g.T.Constant.wire_value g.T.Constant.wire_number
    g.P.FromBytesWithInput.read) l.fn.bytes ≡ Err e → l.iter ≡ l.fn.bytes)
