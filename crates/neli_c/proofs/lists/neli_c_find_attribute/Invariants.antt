use Rattle.std.proofs.Common.{◌≡◌, ◌-◌, None}
use Rattle.neli_c.specs.Lists.{Passes}
use Rattle.neli_c_parts.specs.Walks.{bytes_left}
use Rattle.neli_c.proofs.lists.neli_c_find_attribute.Given as goal

-- those so far have other numbers, no result is stored yet, and a walk that is not within the bytes has not moved
abbrev pub invariant-loop-ahead : goal.invariant-loop-ahead
invariant-loop-ahead l =
    Passes l.fn.bytes l.fn.number l.fn.walk l.ahead × (l.attribute ≡ l.fn.attribute)
    × (bytes_left l.fn.bytes l.fn.walk ≡ None → l.ahead ≡ l.fn.walk)

-- the remaining bytes
abbrev pub decreases-loop-ahead : goal.decreases-loop-ahead
decreases-loop-ahead l = l.ahead.end - l.ahead.place
