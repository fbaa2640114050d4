use Rattle.std.proofs.Common.{◌≡◌, ℕ, List, Some, None, Option, ap, sym, ◌∙◌, refl, map}
use Rattle.std.specs.Prelude.{option_and_then, slice_get}
use Rattle.std.specs.Borrow.{Bor}
use Rattle.std.specs.Option.{option_map}
use Rattle.std.proofs.lemmas.Bool.{ltb-false, ltb-true}
use Rattle.std.proofs.lemmas.Option.{slice_get-get_or, slice_get-map, slice_get_past}
use Rattle.neli_tables.specs.Lines.{LineSeen}
use Rattle.neli_tables.specs.Plain.{name_view, plain_name}
use Rattle.neli_tables.proofs.table.Table.plain_name.Goals as goal

joined : {A B : Type 0} (f : A → Option B) (o : Option A)
    → option_and_then (λ (x : Option B). x) (option_map f o) ≡ option_and_then f o
joined f None = refl
joined f (Some x) = refl

-- the name at a place is that of the line there
here : (names : List (Option (Bor (List ℕ)))) (lines : List LineSeen) (i : ℕ)
    → map name_view names ≡ map plain_name lines
    → option_and_then name_view (slice_get names i) ≡ option_and_then plain_name (slice_get lines i)
here names lines i are =
    sym (joined name_view (slice_get names i))
    ∙ ap (option_and_then (λ (x : Option (List ℕ)). x))
    (sym (slice_get-map name_view names i) ∙ ap (λ xs. slice_get xs i) are ∙ slice_get-map plain_name lines i)
    ∙ joined plain_name (slice_get lines i)

pub returns-in-Some : goal.returns-in-Some
returns-in-Some c =
    let names = c.deref.result.now in
    let is = ap (map name_view) c.deref.ensures.value ∙ c.self.invariant.3 ∙ ap (map plain_name) c.self.view_is in
    ap name_view c.in-Some.ensures.lookup.1
    ∙ ap (option_and_then name_view) (sym (slice_get-get_or names c.args.place c.in-Some.name.now
    (ltb-true _ _ (sym c.in-Some.ensures.lookup.0))))
    ∙ here names _ c.args.place is

pub returns-in-None : goal.returns-in-None
returns-in-None c =
    let names = c.deref.result.now in
    let is = ap (map name_view) c.deref.ensures.value ∙ c.self.invariant.3 ∙ ap (map plain_name) c.self.view_is in
    ap (option_and_then name_view) (sym (slice_get_past names c.args.place (ltb-false _ _ (sym c.in-None.ensures.lookup.0))))
    ∙ here names _ c.args.place is
