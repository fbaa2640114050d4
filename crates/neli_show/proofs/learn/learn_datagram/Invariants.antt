use Rattle.std.proofs.Common.{◌≡◌, ℕ}
use Rattle.neli_show.specs.Learnt.{datagram_learnt}
use Rattle.neli_tables.specs.Families.{learnt, tables_in}
use Rattle.neli_show.proofs.learn.learn_datagram.Given as goal

-- what is learnt so far, and then from what is left, is what is learnt from all
abbrev pub invariant-loop-message : goal.invariant-loop-message
invariant-loop-message l =
    (tables_in l.tables ≡ tables_in l.fn.tables)
    × ((n : ℕ) → datagram_learnt l.fn.protocol (tables_in l.fn.tables) n (learnt l.tables n)
    l.message-iterator
    ≡ datagram_learnt l.fn.protocol (tables_in l.fn.tables) n (learnt l.fn.tables n) l.fn.bytes)
