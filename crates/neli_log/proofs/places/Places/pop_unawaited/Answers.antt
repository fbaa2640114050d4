use Rattle.std.proofs.Common.{arith, refl, deque_len, ◌<◌}
use Rattle.neli_log.proofs.Keeps.{front_split}
use Rattle.neli_log.proofs.places.Places.pop_unawaited.Goals as goal

pub is_awaited-requires-clause-at : goal.is_awaited-requires-clause-at
is_awaited-requires-clause-at g c =
    let q = c.args.self.now.entries in
    let v : 0 < deque_len q = c.in-Some.ensures.variant.0 refl in
    front_split q.items c.in-Some.first.now (omega (arith, q.ok.0)) c.in-Some.ensures.lookup

pub forget-requires-clause-at : goal.forget-requires-clause-at
forget-requires-clause-at g c =
    let q = c.args.self.now.entries in
    let v : 0 < deque_len q = c.in-Some.ensures.variant.0 refl in
    front_split q.items c.in-Some.first.now (omega (arith, q.ok.0)) c.in-Some.ensures.lookup
