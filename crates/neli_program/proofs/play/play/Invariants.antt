use Rattle.std.proofs.Common.{◌≤◌, vec_len}
use Rattle.neli_program.proofs.Scripts.{IsPlayed}
use Rattle.neli_program.proofs.play.play.Given as goal

-- the lines passed are played
abbrev pub invariant-loop-index : goal.invariant-loop-index
invariant-loop-index g l = record {
  played : IsPlayed l.fn.script l.first l.index (g.D.Deliveries.port_of l.playing.run.session.router.deliveries)
      l.playing.run.session.router.next_seq (g.D.Deliveries.pending l.playing.run.session.router.deliveries)
      l.playing.run.session.handles.items l.playing.sent l.playing.lines.items;
  within : l.playing.sent ≤ vec_len l.playing.lines;
}
