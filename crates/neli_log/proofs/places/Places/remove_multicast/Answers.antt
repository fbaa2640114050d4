use Rattle.std.proofs.Common.{refl, Some, None, ℕ, Option, ◌≡◌}
use Rattle.std.specs.HashMap.{values}
use Rattle.neli_log.specs.Places.{place_of}
use Rattle.neli_log.specs.declared.place.Place.{Place}
use Rattle.neli_log.proofs.Changes.{sound_less}
use Rattle.neli_log.proofs.places.Places.remove_multicast.Goals as goal

same_place : (place place' : Option ℕ → Option Place) → place' None ≡ None
    → ((q : ℕ) → place' (Some q) ≡ place (Some q)) → (v : Option ℕ) (p : Place) → place' v ≡ Some p → place v ≡ Some p
same_place place place' none some None p is = cc
same_place place place' none some (Some q) p is = let s = some q in cc

pub returns-clause-sound : goal.returns-clause-sound
returns-clause-sound g c =
    let s = c.args.self.now in
    sound_less (place_of s) _ (values s.numbers) (values s.numbers) s.base s.shared_base s.caught_up s.caught_up
    s.entries.items s.links.items s.shared.items s.shared.items
    (same_place (place_of s) _ refl (λ q. refl)) refl c.requires.standing_are c.requires
