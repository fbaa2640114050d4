-- Items without their paths: what a step says of them.
use Rattle.std.proofs.Common.{◌≡◌, ℕ, ◌+◌, ◌-◌, List, [], ◌∷◌, ◌++◌, length, take, get_or}
use Rattle.std.proofs.Common.{Option, Some, None, Ok, Err, refl, sym, ap, ◌∙◌, arith}
use Rattle.std.proofs.Common.{length-append}
use Rattle.std.proofs.Math.Seq.{get_or-append_seam, take-append_seam}
use Rattle.std.proofs.lemmas.List.{map-append, length-map}
use Rattle.std.proofs.lemmas.Option.{slice_get_read}
use Rattle.neli_wire.specs.declared.errors.DeError.{DeError}
use Rattle.neli_tables_walk.specs.declared.item.Step.{Step}
use Rattle.neli_tables_walk.specs.declared.level.Level.{Level}
use Rattle.neli_tables_walk.specs.Visited.{last_step, path_in, visited}
use Rattle.neli_tables_walk.specs.Walks.{Said}
use Rattle.neli_tables_walk.proofs.Walks.{insides}

-- the path of an element whose list is the last of these
pub path-after : (levels pushed new : List Level) (last : Level) (parts : ℕ)
    → pushed ≡ levels ++ last ∷ [] → take (length pushed) new ≡ pushed → parts ≡ length pushed
    → path_in new parts ≡ insides levels ++ last.inside ∷ []
path-after levels pushed new last parts pushed_is kept parts_is =
    ap (path_in new) parts_is
    ∙ ap insides kept
    ∙ ap insides pushed_is
    ∙ map-append (λ (l : Level). l.inside) levels (last ∷ [])

-- the path of what is left of it
pub path-before : (levels new : List Level) (last : Level) (parts : ℕ)
    → new ≡ levels ++ last ∷ [] → parts ≡ length levels → path_in new parts ≡ insides levels
path-before levels new last parts new_is parts_is =
    ap (path_in new) parts_is
    ∙ ap (λ (xs : List Level). path_in xs (length levels)) new_is
    ∙ ap insides (take-append_seam levels (last ∷ []))

last-of : (before : List Step) (step : Step) → last_step (before ++ step ∷ []) ≡ Some step
last-of before step =
    let all = before ++ step ∷ [] in
    let more : length all ≡ length before + 1 = length-append before (step ∷ []) in
    let at : length all - 1 ≡ length before = omega (arith, more) in
    slice_get_read all (length all) (length all - 1) step refl (omega (arith, more))
    (sym (ap (λ (i : ℕ). get_or all i step) at ∙ get_or-append_seam before step [] step))

-- what is visited, where the path is that of an element
pub visited-element : (levels : List Level) (path : List Step) (step : Step) (lists : ℕ)
    (said : Said) → path ≡ insides levels ++ step ∷ [] → lists ≡ length levels + 1
    → visited (path, Ok said) ≡ (lists, Some step, Ok said)
visited-element levels path step lists said path_is lists_is =
    let inner : length (insides levels) ≡ length levels =
    length-map levels (λ (l : Level). l.inside) in
    let more : length (insides levels ++ step ∷ []) ≡ length (insides levels) + 1 =
    length-append (insides levels) (step ∷ []) in
    let count : length (insides levels ++ step ∷ []) ≡ lists = omega (arith, inner, more, lists_is) in
    ap (λ (p : List Step). visited (p, Ok said)) path_is
    ∙ ap (λ (n : ℕ). (n, last_step (insides levels ++ step ∷ []), Ok said)) count
    ∙ ap (λ (s : Option Step). (lists, s, Ok said)) (last-of (insides levels) step)

-- and where it is that of what is left
pub visited-left : (levels : List Level) (path : List Step) (lists : ℕ) (left : List ℕ × DeError)
    → path ≡ insides levels → lists ≡ length levels + 1
    → visited (path, Err left) ≡ (lists, None, Err left)
visited-left levels path lists left path_is lists_is =
    let inner : length (insides levels) ≡ length levels =
    length-map levels (λ (l : Level). l.inside) in
    let count : length (insides levels) + 1 ≡ lists = omega (arith, inner, lists_is) in
    ap (λ (p : List Step). visited (p, Err left)) path_is
    ∙ ap (λ (n : ℕ). (n, None, Err left)) count
