use Rattle.neli_lent.specs.Messages.{messages_in}
use Rattle.neli_lent.specs.Walks.{items_of}
use Rattle.neli_print.specs.Messages.{datagram_text, lines_from}
use Rattle.neli_print.proofs.Loops.{IsPrinted}
use Rattle.neli_print.proofs.datagram.DatagramTextDisplay.fmt.Given as goal

-- the output so far, and the items that are left, are all of it
abbrev pub invariant-loop-message : goal.invariant-loop-message
invariant-loop-message g l =
    let me = l.fn.self in
    let d = me.datagram in
    IsPrinted g.W.Write.write_str_gives l.initial.f l.f
    (lines_from me.is_coloured d.tables.now d.protocol l.place
    (items_of (messages_in (λ n. n) l.message-iterator)))
    (datagram_text me.is_coloured d.tables.now d.protocol d.bytes.now)
