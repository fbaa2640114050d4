use Rattle.std.proofs.Common.{◌≡◌, ◌≤◌, ◌-◌, drop, length, take}
use Rattle.neli_c_parts.specs.Several.{GivesEach, StepOf}
use Rattle.neli_c.proofs.several.fill.Given as goal

-- those so far are stored one after the other, and the others are unchanged
abbrev pub invariant-loop-given : goal.invariant-loop-given
invariant-loop-given g l =
    (l.given ≤ length l.items) × GivesEach (StepOf (g.T.Walked.code_at l.fn.bytes)
    (g.T.Walked.Gives l.fn.bytes)) l.fn.walk l.walk (take l.given l.items)
    × (drop l.given l.items ≡ drop l.given l.fn.items)

-- the remaining room
abbrev pub decreases-loop-given : goal.decreases-loop-given
decreases-loop-given g l = length l.initial.items - l.given
