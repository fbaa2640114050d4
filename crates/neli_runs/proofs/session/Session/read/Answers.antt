use Rattle.std.proofs.Common.{Some, None, ap, refl}
use Rattle.std.proofs.Math.ListN.{length-set}
use Rattle.std.proofs.lemmas.Option.{slice_get_within}
use Rattle.neli_runs.proofs.Walks.{goes_read_at, goes_read_none_at}
use Rattle.neli_runs.proofs.session.Session.read.Goals as goal

pub returns-in-None-clause-goes : goal.returns-in-None-clause-goes
returns-in-None-clause-goes g c =
    let none = c.in-None.ensures.none refl in
    goes_read_none_at g.RT.Constant.wire_value g.RT.Constant.wire_number g.RP.FromBytesWithInput.view
    g.RP.Size.wire_length g.RP.FromBytesWithInput.read g.ST.Constant.wire_number g.SP.ToBytes.wire
    g.SP.Size.wire_length
    (g.D.Deliveries.port_of c.args.self.now.router.deliveries) c.args.self.now.router.next_seq c.args.k
    (g.D.Deliveries.pending c.args.self.now.router.deliveries) c.args.self.now.handles.items
    c.take.new.handles.items none.0 none.1

pub put-requires : goal.put-requires
put-requires g c =
    let some = c.in-Some.ensures.some c.in-Some.found refl in
    let within = slice_get_within c.args.self.now.handles.items c.args.k (Some c.in-Some.found) some.0 in
    rw (some.1, length-set c.args.self.now.handles.items c.args.k None) within

pub returns-in_ok-reply-in-Some-clause-goes : goal.returns-in_ok-reply-in-Some-clause-goes
returns-in_ok-reply-in-Some-clause-goes g c =
    let some = c.in-Some.ensures.some c.in-Some.found refl in
    let e = c.in_ok-reply-in-Some.ensures in
    goes_read_at g.RT.Constant.wire_value g.RT.Constant.wire_number g.RP.FromBytesWithInput.view g.RP.Size.wire_length
    g.RP.FromBytesWithInput.read g.ST.Constant.wire_number g.SP.ToBytes.wire g.SP.Size.wire_length
    (g.D.Deliveries.port_of c.args.self.now.router.deliveries) c.args.self.now.router.next_seq
    c.next_typed.new.self.next_seq c.args.k
    (g.D.Deliveries.pending c.args.self.now.router.deliveries)
    (g.D.Deliveries.pending c.next_typed.new.self.deliveries) c.args.self.now.handles.items c.take.new.handles.items
    c.put.new.handles.items c.in-Some.found c.next_typed.new.handle c.in_ok-reply-in-Some.reply c.outcome_of.result
    some.0 some.1 c.put.ensures c.outcome_of.ensures e.same.next_seq
    (λ over. let t = e.ended over in ((let f = t.0 in cc), t.1, ap (λ r. g.D.Deliveries.pending r.deliveries) t.2))
    (λ still none. let t = e.waits still none in (
      (let f = t.0 in cc),
      t.1,
      ap (λ r. g.D.Deliveries.pending r.deliveries) t.2,
    ))
    (λ still d ds first. (let k = e.gives still d ds first in
    (k.x, k.is_read, k.is_given, k.goes.waits, k.goes.handle)))
    e.same.lists
