use Rattle.std.proofs.Common.{◌-◌, length}
use Rattle.neli_lent.specs.Messages.{message_view}
use Rattle.neli_session.specs.Runs.{HasRun}
use Rattle.neli_session.proofs.run.run_of.Given as goal

-- the run so far
abbrev pub invariant-loop-run : goal.invariant-loop-run
invariant-loop-run l = HasRun l.answering (message_view l.message) l.bytes l.run

abbrev pub decreases-loop-run : goal.decreases-loop-run
decreases-loop-run l = length l.bytes - l.run.length
