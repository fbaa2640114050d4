use Rattle.std.specs.HashMap.{values}
use Rattle.neli_log.specs.Places.{place_of}
use Rattle.neli_log.proofs.Pops.{forget_own_sound}
use Rattle.neli_log.proofs.places.Places.forget_own.Goals as goal

pub returns-clause-sound : goal.returns-clause-sound
returns-clause-sound g c =
    let s = c.args.self.now in let a = c.requires.at in
    forget_own_sound (place_of c.args.self.now) (values s.numbers) s.base s.shared_base s.caught_up a.0 a.1
    s.entries.items c.pop_front-first.new.self.items s.links.items c.pop_front.new.self.items s.shared.items
    c.args.route
    a.2 a.3 c.pop_front-first.ensures.rest c.pop_front.ensures.rest c.requires.alone c.requires.past c.requires.sound
