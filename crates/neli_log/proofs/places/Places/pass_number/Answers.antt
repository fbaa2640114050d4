use Rattle.std.proofs.Common.{refl, Some, ◌-◌, sym, ◌∙◌, ap}
use Rattle.std.specs.HashMap.{get}
use Rattle.std.specs.Prelude.{nat_eq}
use Rattle.neli_log.specs.Routes.{leads_only}
use Rattle.neli_log.specs.Places.{place_of}
use Rattle.neli_log.proofs.Waits.{eqb_refl}
use Rattle.neli_log.proofs.Nexts.{next_is}
use Rattle.neli_log.proofs.Passes.{passed_pending, same_entry, own_by_to, sound_passed}
use Rattle.neli_log.proofs.places.Places.pass_number.Goals as goal

pub after_own-after-requires-clause-route : goal.after_own-after-requires-clause-route
after_own-after-requires-clause-route g c = λ e at.
    let s = c.args.self.now in
    let n = next_is (Some c.args.n) s.base s.entries.items c.args.p c.args.m c.requires.next in
    let same = same_entry s.entries.items (c.args.m - s.base) n.1 e n.2.at at in
    ap (λ x. leads_only (Some c.args.n) x.route) (sym same)
    ∙ own_by_to (Some c.args.n) n.1.route n.2.here.passes (c.requires.route n.1 n.2.at)

pub returns-clause-taken : goal.returns-clause-taken
returns-clause-taken g c = λ d ds old.
    let s = c.args.self.now in
    let now = rw (eqb_refl c.args.n) at (c.put.ensures.updates c.args.n) in
    passed_pending (Some c.args.n) s.base s.entries.items c.args.p c.after_own-after.result
    (get nat_eq s.numbers c.args.n) (get nat_eq c.put.new.numbers c.args.n) c.args.m d ds c.requires.is now
    c.after_own-after.ensures.from c.requires.next old

pub returns-clause-sound : goal.returns-clause-sound
returns-clause-sound g c =
    let s = c.args.self.now in let h = c.requires.sound in
    sound_passed s.numbers c.put.new.numbers (place_of s) _ s.base s.shared_base s.caught_up s.entries.items
    s.links.items s.shared.items h c.args.n c.args.p c.after_own-after.result c.requires.is c.put.ensures.entries
    refl c.put.ensures.updates c.after_own-after.ensures.place
    (c.after_own-after.ensures.counted c.args.n refl) c.after_own-after.ensures.passed
