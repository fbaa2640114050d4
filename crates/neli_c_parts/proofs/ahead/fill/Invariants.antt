use Rattle.std.proofs.Common.{◌≡◌, ◌≤◌, ◌-◌, drop, length, take}
use Rattle.neli_c_parts.specs.Ahead.{AreLent, messages_in}
use Rattle.neli_c_parts.proofs.ahead.fill.Given as goal

-- those so far are stored, the others come next, and the room after them is unchanged
abbrev pub invariant-loop-given : goal.invariant-loop-given
invariant-loop-given l =
    (l.given ≤ length l.items) × (messages_in l.ahead ≡ drop l.given (messages_in l.fn.ahead))
    × AreLent (take l.given (messages_in l.fn.ahead)) (take l.given l.items)
    × (drop l.given l.items ≡ drop l.given l.fn.items)

-- the remaining room
abbrev pub decreases-loop-given : goal.decreases-loop-given
decreases-loop-given l = length l.initial.items - l.given
