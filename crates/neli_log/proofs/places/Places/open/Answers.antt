use Rattle.std.proofs.Common.{refl, None, ◌≡◌, sym, arith, ap, ◌+◌}
use Rattle.std.specs.HashMap.{get}
use Rattle.std.specs.Map.{lookup}
use Rattle.std.specs.Prelude.{nat_eq}
use Rattle.neli_log.specs.Places.{place_of}
use Rattle.neli_log.specs.declared.place.Place.{Place}
use Rattle.neli_log.proofs.Changes.{sound_unchanged, sound_opened, few_caught, unchanged, kept_trimmed}
use Rattle.neli_log.proofs.Changes.{put_keeps}
use Rattle.neli_log.proofs.Changes.{mapped_none}
use Rattle.neli_log.proofs.places.Places.open.Goals as goal

pub returns-in_err-insert-clause-trimmed : goal.returns-in_err-insert-clause-trimmed
returns-in_err-insert-clause-trimmed g c =
    let s = c.args.self.now in let h = c.requires.trimmed in
    let same : c.insert.new.self.entries ≡ s.numbers.entries = c.in_err-insert.ensures.err in
    record {
      sound = sound_unchanged s.numbers c.insert.new.self
          (place_of s) _ s.base s.shared_base s.caught_up s.entries.items s.links.items s.shared.items h.sound same refl
          (λ q. ap (lookup (nat_eq q)) same);
      begins = kept_trimmed (place_of s) _ s.base s.entries.items
          (unchanged _ (place_of s) refl (λ q. ap (lookup (nat_eq q)) (sym same))) h.begins;
    }

pub overflow_add-self : goal.overflow_add-self
overflow_add-self g c =
    let s = c.args.self.now in let h = c.requires.trimmed in
    let f = few_caught s.numbers s.numbers (place_of s)
    (place_of s) s.base s.shared_base s.caught_up s.entries.items s.links.items s.shared.items h.sound in
    omega (arith, f, c.len.ensures.small, c.len.ensures.len)

pub returns-clause-trimmed : goal.returns-clause-trimmed
returns-clause-trimmed g c =
    let s = c.args.self.now in let h = c.requires.trimmed in
    let e = c.in_ok-insert.ensures in
    let closed = mapped_none _ (get nat_eq s.numbers c.args.number) c.requires.closed in
    let x : Place = record {
      from = s.base + c.len-2.result;
      chain = None;
      shared_passed = s.shared_base + c.len-3.result;
    } in
    record {
      sound = sound_opened s.numbers c.insert.new.self
          (place_of s) _ s.base s.shared_base s.caught_up s.entries.items s.links.items s.shared.items h.sound
          c.args.number x closed closed e.entries refl e.updates.0
          (omega (arith, s.entries.ok.0, c.len-2.ensures)) refl (omega (arith, s.shared.ok.0, c.len-3.ensures));
      begins = kept_trimmed (place_of s) _ s.base s.entries.items
          (put_keeps (place_of s) _ c.args.number x closed refl e.updates.0) h.begins;
    }
