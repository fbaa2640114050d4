use Rattle.std.proofs.Common.{refl, Some, ◌+◌, arith}
use Rattle.neli_log.specs.declared.place.Place.{Place}
use Rattle.neli_log.proofs.Changes.{shared_length}
use Rattle.neli_log.proofs.Nexts.{next_is}
use Rattle.neli_log.proofs.Passes.{passed_less, place_shared, seen_shared}
use Rattle.neli_log.proofs.places.Places.past_shared.Goals as goal

pub overflow_add-result : goal.overflow_add-result
overflow_add-result g c =
    let s = c.args.self.now in let h = c.requires.sound in
    let n = (next_is (Some c.args.n) s.base s.entries.items c.args.p c.args.m c.requires.next).2 in
    omega (arith, n.within, n.from_base, h.fits)

pub overflow_add-result-2 : goal.overflow_add-result-2
overflow_add-result-2 g c =
    let s = c.args.self.now in let h = c.requires.sound in
    let n = next_is (Some c.args.n) s.base s.entries.items c.args.p c.args.m c.requires.next in
    let seen = c.requires.stands.counted c.args.n refl in
    let less = passed_less (Some c.args.n) s.base s.entries.items s.links.items c.args.p c.args.m n.0 n.1 n.2 c.args.n
    s.shared_base refl (c.requires.route n.1 n.2.at) seen in
    let l = shared_length s.base s.entries.items s.shared.items h.positions_are in
    omega (arith, less, l, h.shared_fits, h.fits)

pub returns-clause-stands : goal.returns-clause-stands
returns-clause-stands g c =
    let s = c.args.self.now in let p = c.args.p in
    let x : Place = record {
      from = c.args.m + 1;
      chain = c.args.p.chain;
      shared_passed = c.args.p.shared_passed + 1;
    } in
    let n = next_is (Some c.args.n) s.base s.entries.items p c.args.m c.requires.next in
    let it = c.requires.route n.1 n.2.at in
    record {
      is = place_shared (Some c.args.n) s.base s.entries.items s.links.items p c.args.m n.0 n.1 n.2 x it refl refl
          c.requires.stands.is;
      counted = λ q is. seen_shared (Some c.args.n) s.base s.entries.items s.links.items p c.args.m n.0 n.1 n.2 q
          s.shared_base x is it refl refl (c.requires.stands.counted q is);
    }
