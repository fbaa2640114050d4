use Rattle.std.proofs.Common.{refl, Some, None, ◌+◌, ◌-◌, arith, ap}
use Rattle.std.specs.HashMap.{values}
use Rattle.neli_log.specs.Places.{place_of}
use Rattle.neli_log.specs.declared.entry.Entry.{Entry}
use Rattle.neli_log.specs.declared.entry.Route.TheVariants.{Multicast}
use Rattle.neli_log.proofs.Adds.{pending_added, sound_extended, trimmed_added, from_multicast}
use Rattle.neli_log.proofs.Adds.{altered_multicast, last_bounds}
use Rattle.neli_log.proofs.places.Places.add_to_multicast.Goals as goal

pub link-requires : goal.link-requires
link-requires g c = λ o is.
    let s = c.args.self.now in let h = c.requires.trimmed.sound in
    let b = last_bounds None s.base s.entries.items (c.args.p.from - s.base) c.args.p.chain o is
    (h.places None c.args.p c.requires.is).chain in
    rw h.as_long b

pub returns-clause-more : goal.returns-clause-more
returns-clause-more g c = λ w.
    let s = c.args.self.now in let h = c.requires.trimmed.sound in
    let e : Entry _ = record { item = c.args.item; route = Multicast } in
    let x = c.extended.result in
    pending_added w s.base s.entries.items c.append.new.entries.items e (place_of s w) _ c.append.ensures.entries
    (from_multicast (place_of s) (place_of (record s { multicast = Some x })) c.args.p x c.requires.is refl
    (ap (λ y. y.from) c.extended.ensures) (λ q. refl) w) (λ p is. (h.places w p is).within)

pub returns-clause-trimmed : goal.returns-clause-trimmed
returns-clause-trimmed g c =
    let s = c.args.self.now in let h = c.requires.trimmed.sound in
    let e : Entry _ = record { item = c.args.item; route = Multicast } in
    let x = c.extended.result in
    record {
      sound = sound_extended (place_of s) _ (values s.numbers) (values s.numbers) s.base s.shared_base s.caught_up
          s.entries.items _ s.links.items _ _ s.shared.items e None c.args.p x (s.base + c.len.result)
          (omega (arith, s.entries.ok.0, c.len.ensures)) c.extended.ensures c.link.ensures.links
          c.append.ensures.entries c.append.ensures.links h c.requires.room.positions
          (altered_multicast (place_of s) _ x refl (λ q. refl)) c.requires.is refl refl (λ k. refl);
      begins = trimmed_added (place_of s) _ s.base s.entries.items c.append.new.entries.items e None c.args.p
          c.append.ensures.entries (from_multicast (place_of s) _ c.args.p x c.requires.is refl
          (ap (λ y. y.from) c.extended.ensures) (λ q. refl)) c.requires.is
          (h.places None c.args.p c.requires.is).within refl c.requires.trimmed.begins;
    }
