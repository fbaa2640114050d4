use Rattle.std.proofs.Common.{refl, Some, None, ℕ, Option, ◌≡◌, ◌-◌, sym, ◌∙◌, ap}
use Rattle.std.specs.HashMap.{values}
use Rattle.neli_log.specs.Routes.{leads_only}
use Rattle.neli_log.specs.Places.{place_of}
use Rattle.neli_log.specs.declared.place.Place.{Place}
use Rattle.neli_log.proofs.Changes.{sound_put, Changed}
use Rattle.neli_log.proofs.Nexts.{next_is}
use Rattle.neli_log.proofs.Passes.{passed_pending, same_entry, own_by_multicast}
use Rattle.std.proofs.Common.{inl, inr}
use Rattle.neli_log.proofs.places.Places.pass_multicast.Goals as goal

changed_multicast : (place place' : Option ℕ → Option Place) (x : Place) → place' None ≡ Some x
    → ((q : ℕ) → place' (Some q) ≡ place (Some q)) → Changed place place' None x
changed_multicast place place' x none some None p is = (let f : x ≡ p = cc in inr (refl, sym f))
changed_multicast place place' x none some (Some q) p is = inl (sym (some q) ∙ is)

no_number : (q : ℕ) (P : Type 0) → ◌≡◌ {A = Option ℕ} None (Some q) → P
no_number q P h = cc

pub after_own-requires-clause-route : goal.after_own-requires-clause-route
after_own-requires-clause-route g c = λ e at.
    let s = c.args.self.now in
    let n = next_is None s.base s.entries.items c.args.p c.args.m c.requires.next in
    let same = same_entry s.entries.items (c.args.m - s.base) n.1 e n.2.at at in
    ap (λ x. leads_only None x.route) (sym same) ∙ own_by_multicast n.1.route n.2.here.passes

pub returns-clause-taken : goal.returns-clause-taken
returns-clause-taken g c = λ d ds old.
    let s = c.args.self.now in
    passed_pending None s.base s.entries.items c.args.p c.after_own.result s.multicast
    (Some c.after_own.result) c.args.m d ds c.requires.is refl c.after_own.ensures.from c.requires.next old

pub returns-clause-sound : goal.returns-clause-sound
returns-clause-sound g c =
    let s = c.args.self.now in let h = c.requires.sound in
    sound_put (place_of s) _ (values s.numbers) (values s.numbers) s.base s.shared_base s.caught_up s.caught_up
    s.entries.items s.links.items s.shared.items s.shared.items None c.after_own.result
    (changed_multicast (place_of s) _ c.after_own.result refl (λ q. refl)) c.after_own.ensures.place
    (λ q none. no_number q _ none) refl h.standing_are h
