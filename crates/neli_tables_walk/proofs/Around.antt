-- The lists around an element, from the innermost out.
use Rattle.std.proofs.Common.{get_or, ◌≡◌, ◌∙◌, ◌<◌, ◌+◌, ℕ, Bool, true, false, cond, List, ◌∷◌}
use Rattle.std.proofs.Common.{length, take, find, Option, Some, None, refl, ap, sym}
use Rattle.std.specs.Option.{option_or}
use Rattle.std.proofs.lemmas.List.{take_more}
use Rattle.neli_tables_walk.specs.declared.level.Level.{Level}
use Rattle.neli_tables_walk.specs.Shapes.{ListSeen, listed_view}
use Rattle.neli_tables_walk.proofs.Walks.{lists, lists-last}

-- one list more, further in
pub around_more : (levels : List Level) (i : ℕ) (d : Level) → i < length levels
    → lists (take (i + 1) levels) ≡ listed_view (get_or levels i d).list ∷ lists (take i levels)
around_more levels i d within =
    ap lists (take_more levels i d within) ∙ lists-last (take i levels) (get_or levels i d)

-- the list that is sought is this one, or one further out
pub sought_around : (p : ListSeen → Bool) (whole : Option ListSeen) (levels : List Level)
    (i j : ℕ) (d : Level) (o : Option ListSeen) → i + 1 ≡ j
    → whole ≡ find p (lists (take j levels)) → i < length levels
    → o ≡ cond (p (listed_view (get_or levels i d).list))
    (Some (listed_view (get_or levels i d).list)) None
    → whole ≡ option_or o (find p (lists (take i levels)))
sought_around p whole levels i j d o one said within is =
    let list = listed_view (get_or levels i d).list in
    said ∙ ap (λ n. find p (lists (take n levels))) (sym one)
    ∙ ap (find p) (around_more levels i d within)
    ∙ split (p list) list (find p (lists (take i levels)))
    ∙ ap (λ x. option_or x (find p (lists (take i levels)))) (sym is)
  where
    split : (b : Bool) (list : ListSeen) (later : Option ListSeen)
        → cond b (Some list) later ≡ option_or (cond b (Some list) None) later
    split true list later = refl
    split false list later = refl
