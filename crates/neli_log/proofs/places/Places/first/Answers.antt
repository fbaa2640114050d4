use Rattle.std.proofs.Common.{refl, ◌-◌, sym, ◌∙◌, length}
use Rattle.std.proofs.lemmas.Option.{slice_get_read}
use Rattle.neli_log.specs.Places.{place_of}
use Rattle.neli_log.proofs.Nexts.{next_is, first_delivery, no_delivery}
use Rattle.neli_log.proofs.places.Places.first.Goals as goal

pub returns-in-None-next_of : goal.returns-in-None-next_of
returns-in-None-next_of g c =
    let s = c.args.self.now in
    no_delivery c.args.whose s.base s.entries.items c.in-Some.p (place_of s c.args.whose) (sym c.place.ensures
    ∙ c.in-Some.is) (sym c.next_of.ensures.next ∙ c.in-None-next_of.is)

pub returns-in-Some-next_of : goal.returns-in-Some-next_of
returns-in-Some-next_of g c =
    let s = c.args.self.now in let found_it = sym c.next_of.ensures.next ∙ c.in-Some-next_of.is in
    let n = (next_is c.args.whose s.base s.entries.items c.in-Some.p c.in-Some-next_of.m found_it).2.within in
    first_delivery c.args.whose s.base s.entries.items c.in-Some.p
    (place_of s c.args.whose) c.in-Some-next_of.m c.index.result.now (sym c.place.ensures ∙ c.in-Some.is) found_it
    (slice_get_read s.entries.items (length s.entries.items)
    (c.in-Some-next_of.m - s.base) c.index.result.now refl n c.index.ensures)
