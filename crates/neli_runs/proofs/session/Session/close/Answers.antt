use Rattle.std.proofs.Common.{refl}
use Rattle.neli_runs.proofs.Walks.{goes_close_at, goes_close_none_at}
use Rattle.neli_runs.proofs.session.Session.close.Goals as goal

pub returns-in-None-clause-goes : goal.returns-in-None-clause-goes
returns-in-None-clause-goes g c =
    let none = c.in-None.ensures.none refl in
    goes_close_none_at g.RT.Constant.wire_value g.RT.Constant.wire_number g.RP.FromBytesWithInput.view
    g.RP.Size.wire_length g.RP.FromBytesWithInput.read g.ST.Constant.wire_number g.SP.ToBytes.wire
    g.SP.Size.wire_length
    (g.D.Deliveries.port_of c.args.self.now.router.deliveries) c.args.self.now.router.next_seq c.args.k
    (g.D.Deliveries.pending c.args.self.now.router.deliveries) c.args.self.now.handles.items
    c.take.new.handles.items none.0 none.1

pub returns-in-Some-clause-goes : goal.returns-in-Some-clause-goes
returns-in-Some-clause-goes g c =
    let some = c.in-Some.ensures.some c.in-Some.handle refl in
    goes_close_at g.RT.Constant.wire_value g.RT.Constant.wire_number g.RP.FromBytesWithInput.view g.RP.Size.wire_length
    g.RP.FromBytesWithInput.read g.ST.Constant.wire_number g.SP.ToBytes.wire g.SP.Size.wire_length
    (g.D.Deliveries.port_of c.args.self.now.router.deliveries) c.args.self.now.router.next_seq c.close.new.self.next_seq
    c.args.k (g.D.Deliveries.pending c.args.self.now.router.deliveries)
    (g.D.Deliveries.pending c.close.new.self.deliveries) c.args.self.now.handles.items c.take.new.handles.items
    c.in-Some.handle some.0 some.1 c.close.ensures.same.next_seq c.close.ensures.closed
    c.close.ensures.same.lists
