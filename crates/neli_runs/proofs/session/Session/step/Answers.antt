use Rattle.std.proofs.Common.{refl}
use Rattle.neli_runs.specs.declared.command.Command.TheVariants as command
use Rattle.neli_runs.proofs.Walks.{goes_handed}
use Rattle.neli_runs.proofs.session.Session.step.Goals as goal

pub returns-in_ok-processing_loop-in-Datagram-clause-goes : goal.returns-in_ok-processing_loop-in-Datagram-clause-goes
returns-in_ok-processing_loop-in-Datagram-clause-goes g c =
    rw (c.in-Datagram.is, c.in_ok-processing_loop-in-Datagram.ensures.same.next_seq)
    (goes_handed g.RT.Constant.wire_value g.RT.Constant.wire_number g.RP.FromBytesWithInput.view g.RP.Size.wire_length
    g.RP.FromBytesWithInput.read g.ST.Constant.wire_number g.SP.ToBytes.wire g.SP.Size.wire_length
    (g.D.Deliveries.port_of c.args.self.now.router.deliveries) c.args.self.now.router.next_seq
    (g.D.Deliveries.pending c.args.self.now.router.deliveries)
    (g.D.Deliveries.pending c.processing_loop.new.self.deliveries) c.args.self.now.handles.items
    (command.Datagram c.in-Datagram.bytes c.in-Datagram.groups) refl
    (rw c.deref.ensures.value at c.in_ok-processing_loop-in-Datagram.ensures.ok))

pub returns-in_ok-error_handling-in-Fault-clause-goes : goal.returns-in_ok-error_handling-in-Fault-clause-goes
returns-in_ok-error_handling-in-Fault-clause-goes g c =
    rw (c.in-Fault.is, c.in_ok-error_handling-in-Fault.ensures.same.next_seq)
    (goes_handed g.RT.Constant.wire_value g.RT.Constant.wire_number g.RP.FromBytesWithInput.view g.RP.Size.wire_length
    g.RP.FromBytesWithInput.read g.ST.Constant.wire_number g.SP.ToBytes.wire g.SP.Size.wire_length
    (g.D.Deliveries.port_of c.args.self.now.router.deliveries) c.args.self.now.router.next_seq
    (g.D.Deliveries.pending c.args.self.now.router.deliveries)
    (g.D.Deliveries.pending c.error_handling.new.self.deliveries) c.args.self.now.handles.items
    (command.Fault c.in-Fault.error) refl c.in_ok-error_handling-in-Fault.ensures.ok)
