use Rattle.std.proofs.Common.{◌≡◌, length}
use Rattle.neli_tables_walk.specs.Elements.{elements_of}
use Rattle.neli_tables_walk.specs.Found.{containing}
use Rattle.neli_tables_walk.proofs.offset.element_at.Given as goal

abbrev pub decreases-loop-element : goal.decreases-loop-element
decreases-loop-element l = length l.rest

abbrev pub invariant-loop-element : goal.invariant-loop-element
invariant-loop-element l =
    containing l.fn.offset (elements_of l.list.sort l.list.bytes.now).0
    ≡ containing l.offset (elements_of l.list.sort l.rest).0
