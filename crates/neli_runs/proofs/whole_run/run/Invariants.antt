use Rattle.std.proofs.Common.{◌≡◌, ◌++◌}
use Rattle.neli_runs.specs.OpenRuns.{HasDone}
use Rattle.neli_runs.proofs.whole_run.run.Given as goal

-- the commands so far are done, and each has its right outcome
abbrev pub invariant-loop-command : goal.invariant-loop-command
invariant-loop-command g l = record {
  all : l.yielded ++ l.command-iterator.rest.items ≡ l.fn.commands.items;
  done : HasDone g.RT.Constant.wire_value g.RT.Constant.wire_number g.RP.FromBytesWithInput.view g.RP.Size.wire_length
      g.RP.FromBytesWithInput.read g.ST.Constant.wire_number g.SP.ToBytes.wire g.SP.Size.wire_length l.fn.pid
      (g.D.Deliveries.port_of l.open.session.router.deliveries) l.open.session.router.next_seq
      (g.D.Deliveries.pending l.open.session.router.deliveries) l.open.session.handles.items l.yielded
      l.outcomes.items;
}
