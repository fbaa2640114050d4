use Rattle.std.proofs.Common.{◌≡◌, map}
use Rattle.neli_tables_write.specs.Asked.{are_asked, asked_view}
use Rattle.neli_tables_write.proofs.asked.are_asked.Given as goal

-- what is left is as asked for where the whole is
abbrev pub invariant-loop-item : goal.invariant-loop-item
invariant-loop-item l =
    are_asked l.fn.walk (map asked_view l.fn.asked) ≡ are_asked l.item-iterator (map asked_view l.rest)
