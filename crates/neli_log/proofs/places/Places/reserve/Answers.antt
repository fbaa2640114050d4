use Rattle.std.proofs.Common.{refl}
use Rattle.std.specs.HashMap.{values}
use Rattle.neli_log.specs.Places.{place_of}
use Rattle.neli_log.proofs.Adds.{sound_added, trimmed_same}
use Rattle.neli_log.proofs.places.Places.reserve.Goals as goal

pub returns-in_err-reserve-clause-trimmed : goal.returns-in_err-reserve-clause-trimmed
returns-in_err-reserve-clause-trimmed g c =
    let s = c.args.self.now in let h = c.requires in
    record {
      sound = sound_added (place_of s) (values s.numbers) s.base s.shared_base s.caught_up s.entries.items
          c.reserve.new.self.items s.links.items s.links.items s.shared.items s.shared.items c.reserve.ensures.items
          refl refl h.sound;
      begins = trimmed_same (place_of s) s.base s.entries.items c.reserve.new.self.items c.reserve.ensures.items
          h.begins;
    }

pub returns-in_err-reserve-2-clause-trimmed : goal.returns-in_err-reserve-2-clause-trimmed
returns-in_err-reserve-2-clause-trimmed g c =
    let s = c.args.self.now in let h = c.requires in
    record {
      sound = sound_added (place_of s) (values s.numbers) s.base s.shared_base s.caught_up s.entries.items
          c.reserve.new.self.items s.links.items c.reserve-2.new.self.items s.shared.items s.shared.items
          c.reserve.ensures.items c.reserve-2.ensures.items refl h.sound;
      begins = trimmed_same (place_of s) s.base s.entries.items c.reserve.new.self.items c.reserve.ensures.items
          h.begins;
    }

pub returns-in_err-reserve-3-clause-trimmed : goal.returns-in_err-reserve-3-clause-trimmed
returns-in_err-reserve-3-clause-trimmed g c =
    let s = c.args.self.now in let h = c.requires in
    record {
      sound = sound_added (place_of s) (values s.numbers) s.base s.shared_base s.caught_up s.entries.items
          c.reserve.new.self.items s.links.items c.reserve-2.new.self.items s.shared.items c.reserve-3.new.self.items
          c.reserve.ensures.items c.reserve-2.ensures.items c.reserve-3.ensures.items h.sound;
      begins = trimmed_same (place_of s) s.base s.entries.items c.reserve.new.self.items c.reserve.ensures.items
          h.begins;
    }

pub returns-clause-trimmed : goal.returns-clause-trimmed
returns-clause-trimmed g c =
    let s = c.args.self.now in let h = c.requires in
    record {
      sound = sound_added (place_of s) (values s.numbers) s.base s.shared_base s.caught_up s.entries.items
          c.reserve.new.self.items s.links.items c.reserve-2.new.self.items s.shared.items c.reserve-3.new.self.items
          c.reserve.ensures.items c.reserve-2.ensures.items c.reserve-3.ensures.items h.sound;
      begins = trimmed_same (place_of s) s.base s.entries.items c.reserve.new.self.items c.reserve.ensures.items
          h.begins;
    }
