use Rattle.std.proofs.Common.{◌≡◌, refl, sym, ◌∙◌, ap, false, None}
use Rattle.neli_log.specs.declared.entry.Route.{Route}
use Rattle.neli_log.specs.declared.entry.Route.TheVariants.{Multicast, Number, Numbers}
use Rattle.neli_log.specs.Routes.{is_shared, leads_only}
use Rattle.neli_log.proofs.Nexts.{next_is}
use Rattle.neli_log.proofs.Passes.{own_by_multicast, own_by_to, same_entry}
use Rattle.neli_log.proofs.places.Places.past.Goals as goal

unshared : (r : Route) → (r ≡ Numbers → ⊥) → is_shared r ≡ false
unshared Multicast h = refl
unshared (Number n) h = refl
unshared Numbers h = absurd (h refl)

pub past_own-requires-clause-route : goal.past_own-requires-clause-route
past_own-requires-clause-route g c = λ e at.
    let s = c.args.self.now in
    let n = next_is None s.base s.entries.items c.args.p c.args.m (rw c.in-None.is at c.requires.next) in
    let same = same_entry s.entries.items _ n.1 e n.2.at at in
    ap (λ x. leads_only None x.route) (sym same) ∙ own_by_multicast n.1.route n.2.here.passes

pub past_shared-requires-clause-route : goal.past_shared-requires-clause-route
past_shared-requires-clause-route g c = λ e at.
    ap is_shared (c.requires.route e at ∙ c.in-Numbers.is)

pub past_own-requires-in_default : goal.past_own-requires-in_default
past_own-requires-in_default g c = record {
  sound = c.requires.sound;
  stands = rw c.in-Some.is at c.requires.stands;
  next = rw c.in-Some.is at c.requires.next;
  route = λ e at.
      let s = c.args.self.now in
      let n = next_is c.args.whose s.base s.entries.items c.args.p c.args.m c.requires.next in
      let same = same_entry s.entries.items _ n.1 e n.2.at at in
      let off : is_shared n.1.route ≡ false = ap is_shared (c.requires.route n.1 n.2.at)
      ∙ unshared c.args.route c.in_default.not-Numbers in
      rw c.in-Some.is at (ap (λ x. leads_only c.args.whose x.route) (sym same)
      ∙ own_by_to c.args.whose n.1.route n.2.here.passes off);
}
