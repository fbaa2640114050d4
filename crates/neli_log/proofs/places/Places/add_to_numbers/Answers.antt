use Rattle.std.proofs.Common.{refl, Some, ◌≡◌, ◌+◌, [], ◌∷◌, ◌++◌, arith, ap, length}
use Rattle.std.specs.HashMap.{values}
use Rattle.neli_log.specs.Places.{place_of}
use Rattle.neli_log.specs.declared.entry.Entry.{Entry}
use Rattle.neli_log.specs.declared.place.Shared.{Shared}
use Rattle.neli_log.specs.declared.entry.Route.TheVariants.{Numbers}
use Rattle.neli_log.proofs.Adds.{pending_added, sound_add_shared, trimmed_added, sound_added, first_open}
use Rattle.neli_log.proofs.places.Places.add_to_numbers.Goals as goal

pub returns-clause-more : goal.returns-clause-more
returns-clause-more g c = λ w.
    let s = c.args.self.now in let h = c.requires.trimmed.sound in
    let e : Entry _ = record { item = c.args.item; route = Numbers } in
    pending_added w s.base s.entries.items c.append.new.entries.items e (place_of s w)
    (place_of s w) c.append.ensures.entries refl (λ p is. (h.places w p is).within)

pub returns-clause-trimmed : goal.returns-clause-trimmed
returns-clause-trimmed g c =
    let s = c.args.self.now in let h = c.requires.trimmed.sound in
    let e : Entry _ = record { item = c.args.item; route = Numbers } in
    let len : c.len.result ≡ length s.entries.items = omega (arith, s.entries.ok.0, c.len.ensures) in
    let x : Shared = record { at = s.base + c.len.result; readers = s.caught_up } in
    let shared : c.push_back_reserved.new.self.items ≡ s.shared.items ++ x ∷ [] =
    c.push_back_reserved.ensures.items in
    let o = first_open s.numbers.entries c.requires.some in
    record {
      sound = sound_added (place_of s) (values s.numbers) s.base s.shared_base 0 _ c.append.new.entries.items _
          c.append.new.links.items _ c.push_back_reserved.new.self.items c.append.ensures.entries
          c.append.ensures.links shared
          (sound_add_shared (place_of s) (place_of s) (values s.numbers)
          (values s.numbers) s.base s.shared_base s.caught_up s.entries.items s.links.items s.shared.items e h
          c.requires.room.positions
          x refl (ap (λ n. s.base + n) len) refl);
      begins = trimmed_added (place_of s) (place_of s) s.base s.entries.items c.append.new.entries.items e
          (Some o.0) o.1 c.append.ensures.entries (λ v. refl) o.2
          (h.places (Some o.0) o.1 o.2).within refl c.requires.trimmed.begins;
    }
