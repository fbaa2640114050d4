use Rattle.std.specs.HashMap.{values}
use Rattle.neli_log.specs.Places.{place_of}
use Rattle.neli_log.proofs.Pops.{forget_shared_sound, pop_pending}
use Rattle.neli_log.specs.declared.entry.Route.TheVariants.{Numbers}
use Rattle.neli_log.proofs.places.Places.forget_shared.Goals as goal

pub returns-clause-same : goal.returns-clause-same
returns-clause-same g c = λ w.
    let s = c.args.self.now in let a = c.requires.at in
    pop_pending w s.base a.0 a.1 s.entries.items c.pop_front-first.new.self.items Numbers
    (place_of c.args.self.now w) a.2 a.3 c.pop_front-first.ensures.rest (c.requires.past w)

pub returns-clause-sound : goal.returns-clause-sound
returns-clause-sound g c =
    let s = c.args.self.now in let a = c.requires.at in
    forget_shared_sound (place_of c.args.self.now) (values s.numbers) s.base s.shared_base s.caught_up a.0 a.1
    s.entries.items c.pop_front-first.new.self.items s.links.items c.pop_front-2.new.self.items s.shared.items
    c.pop_front.new.self.items
    a.2 a.3 c.pop_front-first.ensures.rest c.pop_front-2.ensures.rest c.pop_front.ensures.rest c.requires.past
    c.requires.sound
