use Rattle.neli_runs.proofs.Runs.{goes_on}
use Rattle.neli_runs.proofs.open_run.OpenRun.perform.Goals as goal

pub returns : goal.returns
returns g c =
    goes_on g.RT.Constant.wire_value g.RT.Constant.wire_number g.RP.FromBytesWithInput.view g.RP.Size.wire_length
    g.RP.FromBytesWithInput.read g.ST.Constant.wire_number g.SP.ToBytes.wire g.SP.Size.wire_length
    (g.D.Deliveries.port_of c.args.self.now.session.router.deliveries)
    (g.D.Deliveries.port_of c.step.new.self.router.deliveries)
    c.args.self.now.session.router.next_seq c.step.new.self.router.next_seq
    (g.D.Deliveries.pending c.args.self.now.session.router.deliveries)
    (g.D.Deliveries.pending c.step.new.self.router.deliveries)
    c.args.self.now.session.handles.items c.step.new.self.handles.items
    c.args.command c.in_ok-outcome.outcome c.in_ok-outcome.ensures.port c.in_ok-outcome.ensures.goes
