use Rattle.neli_log.proofs.Aheads.{ahead_readable}
use Rattle.neli_log.proofs.ahead.Ahead.lend_next.Goals as goal

pub first_from-requires-clause-sound : goal.first_from-requires-clause-sound
first_from-requires-clause-sound c = c.self.invariant.sound

pub first_from-requires-clause-stands : goal.first_from-requires-clause-stands
first_from-requires-clause-stands c = c.self.invariant.stands

pub lend-requires : goal.lend-requires
lend-requires c =
    let s = c.self.inside.store.now in
    ahead_readable s.datagrams s.places.base s.places.entries.items c.self.inside.whose c.self.inside.place
    _ _ c.self.invariant.backed c.in-Some.ensures.first

pub invariant_of-self : goal.invariant_of-self
invariant_of-self c = record {
  sound = c.self.invariant.sound;
  backed = c.self.invariant.backed;
  stands = c.in-Some.ensures.stands;
}
