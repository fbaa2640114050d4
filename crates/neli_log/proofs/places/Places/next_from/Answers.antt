use Rattle.std.proofs.Common.{Some, None, ◌∙◌, sym, ◌+◌, ◌-◌, drop}
use Rattle.neli_log.proofs.Changes.{seen_bounds}
use Rattle.neli_log.proofs.Nexts.{found_earlier, found_own, next_within, own_start, spot_of}
use Rattle.neli_log.proofs.places.Places.next_from.Goals as goal

pub shared_position-requires : goal.shared_position-requires
shared_position-requires g c =
    let s = c.args.self.now in
    (seen_bounds s.shared_base s.base s.entries.items s.shared.items c.args.p.now c.requires.sound.positions_are
    (c.requires.stands.counted _ c.in-Some.is)).0

pub returns-in-Some-clause-next : goal.returns-in-Some-clause-next
returns-in-Some-clause-next g c =
    let s = c.args.self.now in let h = c.requires.sound in let p = c.args.p.now in
    let place = rw c.in-Some.is at c.requires.stands.is in
    let mine = own_start (Some _) s.base s.entries.items (p.from - s.base) p.chain place.chain in
    let spot = spot_of s.shared_base s.base s.entries.items s.shared.items p h.positions_are
    (c.requires.stands.counted _ c.in-Some.is) in
    rw (
      c.in-Some.is,
      found_earlier _ (s.base + (p.from - s.base)) (drop (p.from - s.base) s.entries.items),
      mine,
      ← spot,
      ← c.shared_position.ensures,
      ← c.start-first.ensures,
    ) c.lesser_of.ensures

pub returns-in-None-clause-within : goal.returns-in-None-clause-within
returns-in-None-clause-within g c =
    let s = c.args.self.now in let p = c.args.p.now in
    let place = rw c.in-None.is at c.requires.stands.is in
    let mine = own_start None s.base s.entries.items (p.from - s.base) p.chain place.chain in
    next_within None s.base s.entries.items p c.start-first.result
    (c.start-first.ensures ∙ sym mine ∙ found_own (s.base + (p.from - s.base)) (drop (p.from - s.base) s.entries.items))

pub returns-in-Some-clause-within : goal.returns-in-Some-clause-within
returns-in-Some-clause-within g c =
    let s = c.args.self.now in
    next_within c.args.whose s.base s.entries.items c.args.p.now _ (returns-in-Some-clause-next g c)
