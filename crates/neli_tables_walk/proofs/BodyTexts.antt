-- The tables that are built in, one after the other.
use Rattle.std.proofs.Common.{◌≡◌, ◌∙◌, ◌<◌, ◌+◌, ℕ, List, [], ◌∷◌, ◌++◌, length, map, take, get_or}
use Rattle.std.proofs.Common.{sym, ap, subst, append_assoc}
use Rattle.std.proofs.lemmas.List.{map-append, take_more}
use Rattle.neli_tables.specs.Families.{Lines}
use Rattle.neli_tables_routing.specs.Tables.{Begins}
use Rattle.neli_tables_walk.specs.Built.{AreRead, IsAdded}
use Rattle.neli_tables_walk.specs.Built.AreRead.{more}

-- one table more, after those of other lists
pub read-more : {T : Type 0} (heading_of : T
    → List ℕ) (first : List (List ℕ)) (all : List T) (i : ℕ) (d : T)
    (text : List ℕ) (tables after : List Lines) → i < length all
    → AreRead (first ++ map heading_of (take i all)) tables
    → Begins text (heading_of (get_or all i d))
    → IsAdded text tables after
    → AreRead (first ++ map heading_of (take (i + 1) all)) after
read-more heading_of first all i d text tables after within read begins added =
    let heading = heading_of (get_or all i d) in
    let one = map heading_of (take i all) in
    let longer : first ++ map heading_of (take (i + 1) all) ≡ (first ++ one) ++ heading ∷ [] =
    ap (λ xs. first ++ map heading_of xs) (take_more all i d within)
    ∙ ap (λ x. first ++ x) (map-append heading_of (take i all) (get_or all i d ∷ []))
    ∙ sym (append_assoc first one (heading ∷ [])) in
    subst (λ headings. AreRead headings after) (sym longer)
    (subst (AreRead ((first ++ one) ++ heading ∷ [])) (sym added.1.1)
    (more (first ++ one) tables heading added.0 read (text, (begins, added.1.0))))
