use Rattle.std.proofs.Common.{refl, ◌+◌, ◌-◌, arith, length, ◌<◌}
use Rattle.std.proofs.lemmas.Option.{slice_get_read}
use Rattle.neli_log.specs.declared.place.Place.{Place}
use Rattle.neli_log.proofs.Nexts.{next_is}
use Rattle.neli_log.proofs.Passes.{place_own, seen_own, unshared_own}
use Rattle.neli_log.proofs.places.Places.past_own.Goals as goal

pub overflow_sub-m : goal.overflow_sub-m
overflow_sub-m g c =
    let s = c.args.self.now in
    (next_is c.args.whose s.base s.entries.items c.args.p c.args.m c.requires.next).2.from_base

pub index-link-requires : goal.index-link-requires
index-link-requires g c =
    let s = c.args.self.now in let h = c.requires.sound in
    let n = (next_is c.args.whose s.base s.entries.items c.args.p c.args.m c.requires.next).2.within in
    omega (arith, s.links.ok.0, n, h.as_long)

pub overflow_add-result : goal.overflow_add-result
overflow_add-result g c =
    let s = c.args.self.now in let h = c.requires.sound in
    let n = (next_is c.args.whose s.base s.entries.items c.args.p c.args.m c.requires.next).2 in
    omega (arith, n.within, n.from_base, h.fits)

pub returns-clause-stands : goal.returns-clause-stands
returns-clause-stands g c =
    let s = c.args.self.now in let h = c.requires.sound in
    let n = next_is c.args.whose s.base s.entries.items c.args.p c.args.m c.requires.next in
    let l : c.args.m - s.base < length s.links.items = (let a = n.2.within in omega (arith, a, h.as_long)) in
    let x : Place = record {
      from = c.args.m + 1;
      chain = c.without_first.result;
      shared_passed = c.args.p.shared_passed;
    } in
    record {
      is = place_own c.args.whose s.base s.entries.items s.links.items c.args.p c.args.m n.0 n.1 n.2 x
          c.index-link.result.now (c.requires.route n.1 n.2.at)
          (slice_get_read s.links.items (length s.links.items)
          (c.args.m - s.base) c.index-link.result.now refl l c.index-link.ensures) refl c.without_first.ensures
          c.requires.stands.is;
      counted = λ q is. seen_own c.args.whose s.base s.entries.items s.links.items c.args.p c.args.m n.0 n.1 n.2 q
          s.shared_base x is
          (unshared_own c.args.whose n.1.route (c.requires.route n.1 n.2.at)) refl refl
          (c.requires.stands.counted q is);
    }
