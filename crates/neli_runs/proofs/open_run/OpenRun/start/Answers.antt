use Rattle.neli_runs.proofs.Runs.{holds_start}
use Rattle.neli_runs.proofs.open_run.OpenRun.start.Goals as goal

pub returns : goal.returns
returns g c = record {
  same_port = c.in_ok-session.ensures.port;
  sent = tt;
  answered = tt;
  holds = holds_start g.row.ST.Denot g.row.SP.Denot g.RT.Constant.wire_value g.RT.Constant.wire_number
      g.RP.FromBytesWithInput.view g.RP.Size.wire_length g.RP.FromBytesWithInput.read c.args.pid
      c.in_ok-session.session.router.next_seq (g.D.Deliveries.pending c.in_ok-session.session.router.deliveries)
      c.in_ok-session.session.handles.items c.in_ok-session.ensures.next_seq c.in_ok-session.ensures.multicast
      c.in_ok-session.ensures.numbers c.in_ok-session.ensures.handles;
}
