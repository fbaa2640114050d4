use Rattle.std.proofs.Common.{length}
use Rattle.neli_reader.specs.Agreement.{untyped_layout}
use Rattle.neli_reader.specs.Cuts.{cut_of}
use Rattle.neli_log.proofs.staging.staged.Goals as goal
use Rattle.neli_log.proofs.staging.staged.Goals.{in-Some+in_ok-stage_fault, in_default}

pub returns : goal.returns
returns c = elim c.match-fault.branch [
  | in-Some+in_ok-stage_fault w ↦ rw w.entries-is
      (w.in_ok-stage_fault.ensures c.args.port c.args.serial
      (length c.args.bytes.now) c.args.bytes.now c.args.groups.now (cut_of untyped_layout c.args.bytes.now)
      (rw w.in-Some.is at c.in_ok-entries.ensures))
  | in_default w ↦ rw w.entries-is (rw w.in_default.is at c.in_ok-entries.ensures)
]
