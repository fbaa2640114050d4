use Rattle.std.proofs.Common.{refl, Some, ◌+◌, ◌-◌, ◌∙◌, arith}
use Rattle.std.specs.HashMap.{get}
use Rattle.std.specs.Prelude.{nat_eq}
use Rattle.neli_log.specs.Places.{place_of}
use Rattle.neli_log.proofs.Waits.{eqb_refl}
use Rattle.neli_log.specs.declared.place.Place.{Place}
use Rattle.neli_log.proofs.Changes.{place_bounds, place_standing, shared_length}
use Rattle.neli_log.proofs.Nexts.{next_is}
use Rattle.neli_log.proofs.Passes.{passed_less, passed_pending, sound_moved, place_shared, seen_shared}
use Rattle.neli_log.proofs.places.Places.pass_shared.Goals as goal

pub overflow_sub-i : goal.overflow_sub-i
overflow_sub-i g c =
    let s = c.args.self.now in
    (place_bounds s.numbers (place_of s) (λ q. refl) s.base s.shared_base s.caught_up s.entries.items s.links.items
    s.shared.items c.requires.sound c.args.n c.args.p c.requires.is).0

pub lower-requires-clause-within : goal.lower-requires-clause-within
lower-requires-clause-within g c =
    let s = c.args.self.now in
    (place_bounds s.numbers (place_of s) (λ q. refl) s.base s.shared_base s.caught_up s.entries.items s.links.items
    s.shared.items c.requires.sound c.args.n c.args.p c.requires.is).1

pub lower-requires-clause-some : goal.lower-requires-clause-some
lower-requires-clause-some g c =
    let s = c.args.self.now in
    place_standing s.numbers (place_of s) (λ q. refl) s.base s.shared_base s.caught_up s.entries.items s.links.items
    s.shared.items c.requires.sound c.args.n c.args.p c.requires.is

pub overflow_add-i : goal.overflow_add-i
overflow_add-i g c =
    let s = c.args.self.now in let h = c.requires.sound in
    let b = (place_bounds s.numbers (place_of s) (λ q. refl) s.base s.shared_base s.caught_up s.entries.items
    s.links.items s.shared.items h c.args.n c.args.p c.requires.is).1 in
    omega (arith, b, h.shared_fits, h.fits)

pub raise-requires-clause-within : goal.raise-requires-clause-within
raise-requires-clause-within g c =
    let s = c.args.self.now in let h = c.requires.sound in
    let n = next_is (Some c.args.n) s.base s.entries.items c.args.p c.args.m c.requires.next in
    let seen = h.passed c.args.n c.args.p c.requires.is in
    let less = passed_less (Some c.args.n) s.base s.entries.items s.links.items c.args.p c.args.m n.0 n.1 n.2 c.args.n
    s.shared_base refl (c.requires.route n.1 n.2.at) seen in
    let lowered = shared_length s.base s.entries.items c.lower.new.shared.items
    (c.lower.ensures.positions ∙ h.positions_are) in
    omega (arith, seen, less, lowered)

pub overflow_add-after : goal.overflow_add-after
overflow_add-after g c =
    let s = c.args.self.now in let h = c.requires.sound in
    let n = (next_is (Some c.args.n) s.base s.entries.items c.args.p c.args.m c.requires.next).2 in
    omega (arith, n.within, n.from_base, h.fits)

pub overflow_add-after-2 : goal.overflow_add-after-2
overflow_add-after-2 g c =
    let s = c.args.self.now in let h = c.requires.sound in
    let n = next_is (Some c.args.n) s.base s.entries.items c.args.p c.args.m c.requires.next in
    let seen = h.passed c.args.n c.args.p c.requires.is in
    let less = passed_less (Some c.args.n) s.base s.entries.items s.links.items c.args.p c.args.m n.0 n.1 n.2 c.args.n
    s.shared_base refl (c.requires.route n.1 n.2.at) seen in
    let l = shared_length s.base s.entries.items s.shared.items h.positions_are in
    omega (arith, less, l, h.shared_fits, h.fits)

pub returns-clause-taken : goal.returns-clause-taken
returns-clause-taken g c = λ d ds old.
    let s = c.args.self.now in
    let x : Place = record {
      from = c.args.m + 1;
      chain = c.args.p.chain;
      shared_passed = c.args.p.shared_passed + 1;
    } in
    let now = rw (eqb_refl c.args.n) at (c.put.ensures.updates c.args.n) in
    passed_pending (Some c.args.n) s.base s.entries.items c.args.p x (get nat_eq s.numbers c.args.n)
    (get nat_eq c.put.new.numbers c.args.n) c.args.m d ds c.requires.is now refl c.requires.next old

pub returns-clause-sound : goal.returns-clause-sound
returns-clause-sound g c =
    let s = c.args.self.now in let h = c.requires.sound in let p = c.args.p in
    let x : Place = record {
      from = c.args.m + 1;
      chain = c.args.p.chain;
      shared_passed = c.args.p.shared_passed + 1;
    } in
    let n = next_is (Some c.args.n) s.base s.entries.items p c.args.m c.requires.next in
    let it = c.requires.route n.1 n.2.at in
    let good = place_shared (Some c.args.n) s.base s.entries.items s.links.items p c.args.m n.0 n.1 n.2 x it refl refl
    (h.places (Some c.args.n) p c.requires.is) in
    let counted = seen_shared (Some c.args.n) s.base s.entries.items s.links.items p c.args.m n.0 n.1 n.2 c.args.n
    s.shared_base x refl it refl refl (h.passed c.args.n p c.requires.is) in
    let b = (place_bounds s.numbers (place_of s) (λ q. refl) s.base s.shared_base s.caught_up s.entries.items
    s.links.items s.shared.items h c.args.n p c.requires.is).0 in
    sound_moved s.numbers c.put.new.numbers (place_of s) _ s.base s.shared_base s.caught_up s.entries.items
    s.links.items s.shared.items h c.args.n p x c.requires.is c.put.ensures.entries
    refl c.put.ensures.updates good counted c.lower.new.shared.items c.raise.new.shared.items c.lower.new.caught_up
    c.raise.new.caught_up (p.shared_passed - s.shared_base)
    (omega (arith, b)) (omega (arith, b)) c.lower.ensures.less c.raise.ensures.more c.lower.ensures.positions
    c.raise.ensures.positions
