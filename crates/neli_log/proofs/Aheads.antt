-- What waits from a place on.
use Rattle.std.proofs.Common.{ℕ, ◌≡◌, ◌+◌, ◌-◌, List, [], ◌∷◌, Option, Some, refl}
use Rattle.std.specs.List.{slice_get}
use Rattle.neli_log.specs.declared.content.Content.{Content}
use Rattle.neli_log.specs.declared.content.Content.TheVariants as content
use Rattle.neli_log.specs.declared.datagrams.Datagrams.{Datagrams}
use Rattle.neli_log.specs.declared.entry.Entry.{Entry}
use Rattle.neli_log.specs.declared.place.Place.{Place}
use Rattle.neli_log.specs.declared.span.Span.{Span}
use Rattle.neli_log.specs.Contents.{AreBacked, IsReadable, span_of, spans_of}
use Rattle.neli_log.specs.Places.{rest}
use Rattle.neli_log.specs.Routes.{items_for}
use Rattle.neli_log.proofs.Nexts.{IsNext}
use Rattle.neli_log.proofs.Passes.{passed_items}
use Rattle.neli_log.proofs.Stores.{item_span, span_dropped}

-- the first item is that of the entry that was found, and the others wait from the place past it
pub first_passed : {T : Type 0} (w : Option ℕ) (base : ℕ) (es : List (Entry T)) (links : List (Option ℕ)) (p x : Place)
    (m i : ℕ) (e f : Entry T) → IsNext w base es p m i e → e ≡ f → x.from ≡ m + 1
    → items_for w (rest base es p) ≡ f.item ∷ items_for w (rest base es x)
first_passed w base es links p x m i e f n same from =
    rw (← same, from) (passed_items w base es links p m i e n)

-- its span, if it has one, is one of the entries'
spanned : (base : ℕ) (es : List (Entry Content)) (w : Option ℕ) (p : Place) (c : Content) (cs : List Content) (x : Span)
    → items_for w (rest base es p) ≡ c ∷ cs → span_of c ≡ x ∷ [] → (j : ℕ) × (slice_get (spans_of es) j ≡ Some x)
spanned base es w p c cs x is has =
    let r = item_span w (rest base es p) c cs x is has in
    span_dropped (p.from - base) es r.0 x r.1

-- so it can be read
pub ahead_readable : (d : Datagrams) (base : ℕ) (es : List (Entry Content)) (w : Option ℕ) (p : Place) (c : Content)
    (cs : List Content) → AreBacked d es → items_for w (rest base es p) ≡ c ∷ cs → IsReadable d c
ahead_readable d base es w p (content.Message x) cs h is =
    (let j = spanned base es w p (content.Message x) cs x is refl in
    ((spans_of es, j.0, h.names, j.1), h.messages j.0 x j.1))
ahead_readable d base es w p (content.Stray x) cs h is =
    (let j = spanned base es w p (content.Stray x) cs x is refl in
    ((spans_of es, j.0, h.names, j.1), h.messages j.0 x j.1))
ahead_readable d base es w p (content.Fault e) cs h is = tt
