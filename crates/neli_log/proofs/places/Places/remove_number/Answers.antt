use Rattle.std.proofs.Common.{refl, sym, ap}
use Rattle.std.specs.Map.{lookup}
use Rattle.std.specs.Prelude.{nat_eq}
use Rattle.neli_log.specs.Places.{place_of}
use Rattle.neli_log.proofs.Changes.{sound_closed, sound_unchanged, place_bounds, place_standing}
use Rattle.neli_log.proofs.places.Places.remove_number.Goals as goal

pub overflow_sub-i : goal.overflow_sub-i
overflow_sub-i g c =
    let s = c.args.self.now in
    (place_bounds s.numbers (place_of s) (λ q. refl) s.base s.shared_base s.caught_up s.entries.items s.links.items
    s.shared.items c.requires c.args.n c.in-Some.p (sym c.in-Some.ensures.value)).0

pub lower-requires-clause-within : goal.lower-requires-clause-within
lower-requires-clause-within g c =
    let s = c.args.self.now in
    (place_bounds s.numbers (place_of s) (λ q. refl) s.base s.shared_base s.caught_up s.entries.items s.links.items
    s.shared.items c.requires c.args.n c.in-Some.p (sym c.in-Some.ensures.value)).1

pub lower-requires-clause-some : goal.lower-requires-clause-some
lower-requires-clause-some g c =
    let s = c.args.self.now in
    place_standing s.numbers (place_of s) (λ q. refl) s.base s.shared_base s.caught_up s.entries.items s.links.items
    s.shared.items c.requires c.args.n c.in-Some.p (sym c.in-Some.ensures.value)

pub returns-in-Some-clause-sound : goal.returns-in-Some-clause-sound
returns-in-Some-clause-sound g c =
    let s = c.args.self.now in
    sound_closed s.numbers (place_of s) (λ q. refl) s.base s.shared_base s.caught_up s.entries.items s.links.items
    s.shared.items c.requires
    c.swap_remove_full.new.self _ c.args.n c.lower.new.caught_up c.in-Some.index c.in-Some.p c.lower.new.shared.items
    (sym c.in-Some.ensures.value) (sym c.in-Some.ensures.index) c.swap_remove_full.ensures.entries refl
    c.swap_remove_full.ensures.updates.0 c.lower.ensures.less c.lower.ensures.positions

pub returns-in_default-clause-sound : goal.returns-in_default-clause-sound
returns-in_default-clause-sound g c =
    let s = c.args.self.now in
    let same = rw c.in_default.is at c.swap_remove_full.ensures.unchanged in
    sound_unchanged s.numbers c.swap_remove_full.new.self (place_of s) _ s.base s.shared_base s.caught_up s.entries.items
    s.links.items s.shared.items c.requires same refl (λ q. ap (lookup (nat_eq q)) same)
