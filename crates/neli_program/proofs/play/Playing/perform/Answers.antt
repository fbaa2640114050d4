use Rattle.std.proofs.Common.{ap, ◌+◌}
use Rattle.neli_program.proofs.Reports.{performed}
use Rattle.neli_program.proofs.play.Playing.perform.Goals as goal

pub returns-clause-performs : goal.returns-clause-performs
returns-clause-performs g c =
    let before = c.args.self.now.run.session in
    let after = c.perform.new.self.session in
    let sent = c.args.self.now.sent in
    performed (g.D.Deliveries.port_of before.router.deliveries) before.router.next_seq
    (g.D.Deliveries.port_of after.router.deliveries) after.router.next_seq
    (g.D.Deliveries.pending before.router.deliveries) (g.D.Deliveries.pending after.router.deliveries)
    before.handles.items after.handles.items sent (sent + c.count_sent.result) c.args.self.now.lines.items
    c.write_line.new.output.items c.args.command c.in_ok-outcome.outcome c.in_ok-outcome.ensures
    (ap (λ n. sent + n) c.count_sent.ensures) c.in-Ok.ensures
