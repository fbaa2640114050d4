use Rattle.std.proofs.Common.{refl, ◌≡◌, ◌+◌, ◌-◌, sym, ◌∙◌, ap, length, false}
use Rattle.std.proofs.lemmas.Option.{slice_get_read}
use Rattle.neli_log.specs.declared.entry.Route.{Route}
use Rattle.neli_log.specs.declared.entry.Route.TheVariants.{Multicast, Number, Numbers}
use Rattle.neli_log.specs.Routes.{is_shared}
use Rattle.neli_log.specs.Places.{place_of, rest}
use Rattle.neli_log.proofs.Nexts.{next_is, items_none, something_waits}
use Rattle.neli_log.proofs.Passes.{same_entry, nothing_pending}
use Rattle.neli_log.proofs.places.Places.pass.Goals as goal

unshared : (r : Route) → (r ≡ Numbers → ⊥) → is_shared r ≡ false
unshared Multicast h = refl
unshared (Number n) h = refl
unshared Numbers h = absurd (h refl)

pub pass_shared-requires-clause-route : goal.pass_shared-requires-clause-route
pass_shared-requires-clause-route g c = λ e at.
    let s = c.args.self.now in
    let n = next_is c.args.whose s.base s.entries.items c.in-Some.p c.in-Some-next_of.m (sym c.next_of.ensures.next
    ∙ c.in-Some-next_of.is) in
    let here = slice_get_read s.entries.items (length s.entries.items)
    (c.in-Some-next_of.m - s.base) c.index.result.now refl n.2.within c.index.ensures in
    let same = same_entry s.entries.items (c.in-Some-next_of.m - s.base) c.index.result.now e here at in
    ap (λ x. is_shared x.route) (sym same) ∙ ap is_shared c.in-Numbers.is

pub pass_number-requires-clause-route : goal.pass_number-requires-clause-route
pass_number-requires-clause-route g c = λ e at.
    let s = c.args.self.now in
    let n = next_is c.args.whose s.base s.entries.items c.in-Some.p c.in-Some-next_of.m (sym c.next_of.ensures.next
    ∙ c.in-Some-next_of.is) in
    let here = slice_get_read s.entries.items (length s.entries.items)
    (c.in-Some-next_of.m - s.base) c.index.result.now refl n.2.within c.index.ensures in
    let same = same_entry s.entries.items (c.in-Some-next_of.m - s.base) c.index.result.now e here at in
    ap (λ x. is_shared x.route) (sym same) ∙ unshared c.index.result.now.route c.in_default-route.not-Numbers

pub returns-in_default-next_of-clause-taken : goal.returns-in_default-next_of-clause-taken
returns-in_default-next_of-clause-taken g c = λ d ds old.
    let s = c.args.self.now in
    absurd (nothing_pending c.args.whose s.base s.entries.items c.in-Some.p (place_of s c.args.whose) d ds
    (sym c.place.ensures ∙ c.in-Some.is)
    (items_none c.args.whose (s.base + (c.in-Some.p.from - s.base)) (rest s.base s.entries.items c.in-Some.p)
    (sym c.next_of.ensures.next ∙ c.in_default-next_of.is)) old)

pub returns-in-None-clause-nothing : goal.returns-in-None-clause-nothing
returns-in-None-clause-nothing g c = λ none.
    let s = c.args.self.now in
    absurd (something_waits c.args.whose s.base s.entries.items c.in-Some.p
    (place_of s c.args.whose) c.in-Some-next_of.m (sym c.place.ensures ∙ c.in-Some.is) (sym c.next_of.ensures.next
    ∙ c.in-Some-next_of.is) none)

pub returns-in-Numbers-clause-nothing : goal.returns-in-Numbers-clause-nothing
returns-in-Numbers-clause-nothing g c = λ none.
    let s = c.args.self.now in
    absurd (something_waits c.args.whose s.base s.entries.items c.in-Some.p
    (place_of s c.args.whose) c.in-Some-next_of.m (sym c.place.ensures ∙ c.in-Some.is) (sym c.next_of.ensures.next
    ∙ c.in-Some-next_of.is) none)

pub returns-in_default-route-clause-nothing : goal.returns-in_default-route-clause-nothing
returns-in_default-route-clause-nothing g c = λ none.
    let s = c.args.self.now in
    absurd (something_waits c.args.whose s.base s.entries.items c.in-Some.p
    (place_of s c.args.whose) c.in-Some-next_of.m (sym c.place.ensures ∙ c.in-Some.is) (sym c.next_of.ensures.next
    ∙ c.in-Some-next_of.is) none)
