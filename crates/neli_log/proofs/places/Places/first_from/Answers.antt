use Rattle.std.proofs.Common.{refl, ◌+◌, ◌-◌, sym, ◌∙◌, ap, length}
use Rattle.std.proofs.lemmas.Option.{slice_get_read}
use Rattle.neli_log.specs.Places.{rest}
use Rattle.neli_log.proofs.Nexts.{next_is, items_none}
use Rattle.neli_log.proofs.Aheads.{first_passed}
use Rattle.neli_log.proofs.Passes.{same_entry}
use Rattle.neli_log.proofs.places.Places.first_from.Goals as goal

pub past-requires-clause-route : goal.past-requires-clause-route
past-requires-clause-route g c = λ e at.
    let s = c.args.self.now in
    let n = next_is c.args.whose s.base s.entries.items c.args.p c.in-Some.m (sym c.next_from.ensures.next
    ∙ c.in-Some.is) in
    let here = slice_get_read s.entries.items (length s.entries.items)
    (c.in-Some.m - s.base) c.index-entry.result.now refl n.2.within c.index-entry.ensures in
    ap (λ x. x.route) (same_entry s.entries.items (c.in-Some.m - s.base) e c.index-entry.result.now at here)

pub returns-clause-first : goal.returns-clause-first
returns-clause-first g c =
    let s = c.args.self.now in
    let n = next_is c.args.whose s.base s.entries.items c.args.p c.in-Some.m (sym c.next_from.ensures.next
    ∙ c.in-Some.is) in
    let here = slice_get_read s.entries.items (length s.entries.items)
    (c.in-Some.m - s.base) c.index-entry.result.now refl n.2.within c.index-entry.ensures in
    let same = same_entry s.entries.items (c.in-Some.m - s.base) n.1 c.index-entry.result.now n.2.at here in
    first_passed c.args.whose s.base s.entries.items s.links.items c.args.p c.past.result c.in-Some.m n.0 n.1
    c.index-entry.result.now n.2 same c.past.ensures.from

pub returns-in_default-clause-none : goal.returns-in_default-clause-none
returns-in_default-clause-none g c = λ _.
    let s = c.args.self.now in
    items_none c.args.whose (s.base + (c.args.p.from - s.base)) (rest s.base s.entries.items c.args.p)
    (sym c.next_from.ensures.next ∙ c.in_default.is)
