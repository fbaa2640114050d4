use Rattle.std.proofs.Common.{◌-◌, length}
use Rattle.neli_wire.specs.Numbers.{AreBytes}
use Rattle.neli_program.proofs.Rewritings.{IsZeroed}
use Rattle.neli_program.proofs.rewriting.rewriting_of.Given as goal

-- the messages passed are written again
abbrev pub invariant-loop-at : goal.invariant-loop-at
invariant-loop-at l = record {
  zeroed : IsZeroed l.fn.bytes.items l.text.items l.at;
  small : AreBytes l.fn.bytes.items;
}

abbrev pub decreases-loop-at : goal.decreases-loop-at
decreases-loop-at l = length l.text.items - l.at
