use Rattle.std.proofs.Common.{Some, refl}
use Rattle.std.specs.Option.{is_some}
use Rattle.neli_runs.specs.declared.command.Outcome.TheVariants as outcome
use Rattle.neli_runs.proofs.Walks.{goes_sent, goes_unsent, sent-free}
use Rattle.neli_runs.proofs.session.Session.send.Goals as goal

pub returns-in_ok-push-in-Ok-clause-goes : goal.returns-in_ok-push-in-Ok-clause-goes
returns-in_ok-push-in-Ok-clause-goes g c =
    rw c.in_ok-push-in-Ok.ensures.items
    (goes_sent g.RT.Constant.wire_value g.RT.Constant.wire_number g.RP.FromBytesWithInput.view g.RP.Size.wire_length
    g.RP.FromBytesWithInput.read g.ST.Constant.wire_number g.SP.ToBytes.wire g.SP.Size.wire_length
    (g.D.Deliveries.port_of c.args.self.now.router.deliveries) c.args.self.now.router.next_seq c.send.new.self.next_seq
    c.args.nl_type c.args.nl_flags c.args.nl_payload (outcome.Sent c.in-Ok.bytes) c.in-Ok.bytes.items
    (g.D.Deliveries.pending c.args.self.now.router.deliveries)
    (g.D.Deliveries.pending c.send.new.self.deliveries) c.args.self.now.handles.items c.in-Ok.handle
    refl (λ h k. refl) (λ result is. is) c.in-Ok.ensures.bytes
    (sent-free (is_some (g.D.Deliveries.pending c.args.self.now.router.deliveries
    (Some c.args.self.now.router.next_seq))) _ _ _ c.in-Ok.ensures.bytes)
    c.in-Ok.ensures.next_seq c.in-Ok.ensures.opened.0 c.in-Ok.ensures.opened.1 c.in-Ok.ensures.handle)

pub returns-in_default : goal.returns-in_default
returns-in_default g c = record {
  port = c.in-Err.ensures.same.port;
  goes = (goes_unsent g.RT.Constant.wire_value g.RT.Constant.wire_number g.RP.FromBytesWithInput.view
      g.RP.Size.wire_length g.RP.FromBytesWithInput.read g.ST.Constant.wire_number g.SP.ToBytes.wire
      g.SP.Size.wire_length
      (g.D.Deliveries.port_of c.args.self.now.router.deliveries) c.args.self.now.router.next_seq
      c.send.new.self.next_seq c.args.nl_type c.args.nl_flags c.args.nl_payload
      (g.D.Deliveries.pending c.args.self.now.router.deliveries)
      (g.D.Deliveries.pending c.send.new.self.deliveries) c.args.self.now.handles.items _ c.in-Err.error
      c.in_default.not-Memory c.in-Err.ensures.refused c.in-Err.ensures.unchanged.0 c.in-Err.ensures.unchanged.1);
}
