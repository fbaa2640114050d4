-- What became of each object, told once.
use Rattle.std.proofs.Common.{◌≡◌, ℕ, Bool, true, false, if◌then◌else◌, List, [], ◌∷◌, ◌++◌, Option, Some, None, refl, sym, ap}
use Rattle.std.proofs.Common.{ap₂, ◌∙◌, filter_map}
use Rattle.std.proofs.lemmas.List.Elements.{filter_map-append}
use Rattle.std.proofs.lemmas.Map.{lookup-none}
use Rattle.std.proofs.lemmas.Map.Entries.{none_past_head}
use Rattle.std.proofs.lemmas.Map.Keys.{IsDistinct-tail}
use Rattle.std.specs.Prelude.{is_some, option_and_then, option_map, Vec}
use Rattle.std.specs.Cmp.Lexicographic.{bytes_decides, nat_list_eq_equiv}
use Rattle.std.specs.List.{AllByRecursion, IsDistinct, cons_option}
use Rattle.std.specs.Map.{keys_of}
use Rattle.std.specs.Option.{option_to_list}
use Rattle.std.specs.Str.{bytes_eq}
use Rattle.neli_cache.specs.declared.change.Change.{Change}
use Rattle.neli_cache.specs.declared.change.Change.TheVariants as became
use Rattle.neli_cache.specs.Changes.{change_of}
use Rattle.neli_cache.specs.Differences.{Named, changed_from, changes_between, gone_from, told_of}
use Rattle.neli_cache.specs.Tables.{AreKeyed, Objects, at, shown}

-- ---- no two objects have the same key

apart-shown : {Z : Type 0} (k : List ℕ) (es : List (Vec ℕ Z × Vec ℕ Z))
    → AllByRecursion (λ y. bytes_eq k y.items ≡ false) (keys_of es)
    → AllByRecursion (λ y. bytes_eq k y ≡ false) (keys_of (shown es))
apart-shown k [] a = a
apart-shown k (e ∷ es) a = (a.0, apart-shown k es a.1)

pub keyed-shown : {Z : Type 0} (es : List (Vec ℕ Z × Vec ℕ Z))
    → IsDistinct (λ x y. bytes_eq x.items y.items) (keys_of es) → AreKeyed (shown es)
unfolding IsDistinct
keyed-shown [] d = d
keyed-shown (e ∷ es) d = (apart-shown e.0.items es d.0, keyed-shown es d.1)

-- ---- what is told

nothing-more : (o : Option Change) → option_to_list o ++ [] ≡ option_to_list o
nothing-more None = refl
nothing-more (Some c) = refl

module _ (q : List ℕ) where
  one-told : (o : Option Change) (k : List ℕ) (rest : List Named)
      → told_of q (cons_option (option_map (λ c. (k, c)) o) rest)
      ≡ (if bytes_eq q k then option_to_list o else []) ++ told_of q rest
  one-told None k rest = go (bytes_eq q k)
    where
      go : (b : Bool) → told_of q rest ≡ (if b then [] else []) ++ told_of q rest
      go true = refl
      go false = refl
  one-told (Some c) k rest = go (bytes_eq q k)
    where
      go : (b : Bool) → cons_option (if b then Some c else None) (told_of q rest)
          ≡ (if b then c ∷ [] else []) ++ told_of q rest
      go true = refl
      go false = refl

  -- what is told of the entries of a table, each by its key and payload, is that of its one entry with this key
  all-told : (g : List ℕ → List ℕ → Option Change) (t : Objects) → AreKeyed t
      → told_of q (filter_map (λ e. option_map (λ c. (e.0, c)) (g e.0 e.1)) t)
      ≡ option_to_list (option_and_then (g q) (at q t))
  all-told g [] d = refl
  all-told g (e ∷ es) d =
      one-told (g e.0 e.1) e.0 (filter_map (λ e. option_map (λ c. (e.0, c)) (g e.0 e.1)) es)
      ∙ ap (λ r. (if bytes_eq q e.0 then option_to_list (g e.0 e.1) else []) ++ r)
      (all-told g es (IsDistinct-tail bytes_eq e.0 (keys_of es) d))
      ∙ go (bytes_eq q e.0) refl
    where
      go : (b : Bool) → bytes_eq q e.0 ≡ b
          → (if b then option_to_list (g e.0 e.1) else []) ++ option_to_list (option_and_then (g q) (at q es))
          ≡ option_to_list (option_and_then (g q) (if b then Some e.1 else at q es))
      go true is = ap (λ o. option_to_list (g e.0 e.1) ++ option_to_list (option_and_then (g q) o))
          (lookup-none (bytes_eq q) es (none_past_head nat_list_eq_equiv q e es d is))
          ∙ nothing-more (g e.0 e.1) ∙ ap (λ k. option_to_list (g k e.1)) (sym ((bytes_decides q e.0).0 is))
      go false is = refl

  both-told : (b n : Option (List ℕ))
      → option_to_list (option_and_then (λ p. change_of b (Some p)) n)
      ++ option_to_list (option_and_then (λ p. if is_some n then None else Some became.Gone) b)
      ≡ option_to_list (change_of b n)
  both-told None None = refl
  both-told None (Some p) = refl
  both-told (Some b) None = refl
  both-told (Some b) (Some p) = nothing-more (change_of (Some b) (Some p))

  pub told-once : (before now : Objects) → AreKeyed before → AreKeyed now
      → told_of q (changes_between before now) ≡ option_to_list (change_of (at q before) (at q now))
  told-once before now kb kn =
      filter_map-append (λ c. if bytes_eq q c.0 then Some c.1 else None) (filter_map (changed_from before) now)
      (filter_map (gone_from now) before)
      ∙ ap₂ (λ (xs ys : List Change). xs ++ ys) (all-told (λ k p. change_of (at k before) (Some p)) now kn)
      (all-told (λ k p. if is_some (at k now) then None else Some became.Gone) before kb)
      ∙ both-told (at q before) (at q now)
