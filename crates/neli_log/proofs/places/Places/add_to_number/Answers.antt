use Rattle.std.proofs.Common.{refl, Some, ℕ, ◌≡◌, ◌+◌, ◌-◌, ◌∙◌, arith, ap}
use Rattle.std.specs.HashMap.{values}
use Rattle.std.specs.Map.{values_of}
use Rattle.neli_log.specs.Places.{place_of, waiting_count}
use Rattle.neli_log.specs.declared.entry.Entry.{Entry}
use Rattle.neli_log.specs.declared.entry.Route.TheVariants.{Number}
use Rattle.neli_log.proofs.Adds.{pending_added, sound_extended, trimmed_added, from_number}
use Rattle.neli_log.proofs.Adds.{altered_number, last_bounds}
use Rattle.neli_log.proofs.Passes.{waiting_same}
use Rattle.neli_log.proofs.Waits.{eqb_refl}
use Rattle.neli_log.proofs.places.Places.add_to_number.Goals as goal

pub link-requires : goal.link-requires
link-requires g c = λ o is.
    let s = c.args.self.now in let h = c.requires.trimmed.sound in
    let b = last_bounds (Some c.args.n) s.base s.entries.items (c.args.p.from - s.base) c.args.p.chain o is
    (h.places (Some c.args.n) c.args.p c.requires.is).chain in
    rw h.as_long b

pub returns-clause-more : goal.returns-clause-more
returns-clause-more g c = λ w.
    let s = c.args.self.now in let h = c.requires.trimmed.sound in
    let e : Entry _ = record { item = c.args.item; route = Number c.args.n } in
    pending_added w s.base s.entries.items c.append.new.entries.items e (place_of s w) _ c.append.ensures.entries
    (from_number (place_of s) (place_of (record s { numbers = c.put.new.numbers })) c.args.n c.args.p
    c.extended.result c.requires.is (ap (λ y. y.from) c.extended.ensures) refl c.put.ensures.updates w)
    (λ p is. (h.places w p is).within)

pub returns-clause-trimmed : goal.returns-clause-trimmed
returns-clause-trimmed g c =
    let s = c.args.self.now in let h = c.requires.trimmed.sound in let n = c.args.n in
    let e : Entry _ = record { item = c.args.item; route = Number n } in
    let x = c.extended.result in
    let passed : x.shared_passed ≡ c.args.p.shared_passed = ap (λ y. y.shared_passed) c.extended.ensures in
    let same : (k : ℕ) → waiting_count k (values c.put.new.numbers) ≡ waiting_count k (values s.numbers) =
    (λ k. ap (λ es. waiting_count k (values_of es)) c.put.ensures.entries
    ∙ waiting_same s.numbers.entries n k x c.args.p c.requires.is passed) in
    record {
      sound = sound_extended (place_of s) _ (values s.numbers) (values c.put.new.numbers) s.base s.shared_base
          s.caught_up s.entries.items _ s.links.items _ _ s.shared.items e (Some n) c.args.p x (s.base + c.len.result)
          (omega (arith, s.entries.ok.0, c.len.ensures)) c.extended.ensures c.link.ensures.links
          c.append.ensures.entries c.append.ensures.links h c.requires.room.positions
          (altered_number (place_of s) _ n x refl c.put.ensures.updates) c.requires.is (eqb_refl n) refl same;
      begins = trimmed_added (place_of s) _ s.base s.entries.items c.append.new.entries.items e (Some n) c.args.p
          c.append.ensures.entries (from_number (place_of s) _ n c.args.p x c.requires.is
          (ap (λ y. y.from) c.extended.ensures) refl c.put.ensures.updates) c.requires.is
          (h.places (Some n) c.args.p c.requires.is).within (eqb_refl n) c.requires.trimmed.begins;
    }
