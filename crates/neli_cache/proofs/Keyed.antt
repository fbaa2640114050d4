-- A map with bytes as keys, as the objects that a table shows.
use Rattle.std.proofs.Common.{◌≡◌, ℕ, Bool, true, false, List, [], ◌∷◌, Option, Some, refl, sym, ap, subst, ◌∙◌}
use Rattle.std.proofs.lemmas.Bool.{cases_Bool, cond-true, cond-false}
use Rattle.std.proofs.Common.{◌⊎◌, inl, inr}
use Rattle.std.specs.Prelude.{Vec, if◌then◌else◌, option_map}
use Rattle.std.specs.Cmp.Lexicographic.{bytes_decides, nat_list_eq_equiv}
use Rattle.std.specs.Map.{AreApart, IsKeyTest, KeepsOthers, lookup}
use Rattle.std.specs.Str.{bytes_eq}
use Rattle.indexmap.specs.IndexMap.{IndexMap, UpdatesBy}
use Rattle.neli_cache.specs.Tables.{at, put_at, shown}

-- a look-up shows the bytes of what the map has there
pub at-shown : {Z : Type 0} (q : List ℕ) (es : List (Vec ℕ Z × Vec ℕ Z))
    → at q (shown es) ≡ option_map (λ v. v.items) (lookup (λ k. bytes_eq q k.items) es)
at-shown q [] = refl
at-shown q (e ∷ es) = go (bytes_eq q e.0.items) (at-shown q es)
  where
    go : (b : Bool) → at q (shown es) ≡ option_map (λ v. v.items) (lookup (λ k. bytes_eq q k.items) es)
        → (if b then Some e.1.items else at q (shown es))
        ≡ option_map (λ v. v.items) (if b then Some e.1 else lookup (λ k. bytes_eq q k.items) es)
    go true h = refl
    go false h = h

-- a key that is equal to k is not equal to another q
apart : (k q x : List ℕ) → bytes_eq k q ≡ false → bytes_eq k x ≡ true → bytes_eq q x ≡ false
apart k q x n y = nat_list_eq_equiv.symm q x ∙ sym (nat_list_eq_equiv.congr k x q y) ∙ n

module _ {Z X : Type 0} (eq : Vec ℕ Z → Vec ℕ Z → Bool) (test : Vec ℕ Z → Bool) where
  others : (old new : List (Vec ℕ Z × X)) → KeepsOthers eq test old new → (other : Vec ℕ Z → Bool)
      → IsKeyTest eq other → AreApart test other → lookup other new ≡ lookup other old
  unfolding KeepsOthers
  others old new h = h

-- a change at a key is what is there then, and leaves all other keys
pub at-updated : {Z S : Type 0} (k : List ℕ) (m n : IndexMap (Vec ℕ Z) (Vec ℕ Z) S) (w : Option (Vec ℕ Z))
    → UpdatesBy (λ x y. bytes_eq x.items y.items) (λ x. bytes_eq k x.items) m n w → (q : List ℕ)
    → at q (shown n.entries) ≡ put_at k (option_map (λ v. v.items) w) q (at q (shown m.entries))
at-updated k m n w h q = go (cases_Bool (bytes_eq k q))
  where
    here : at k (shown n.entries) ≡ option_map (λ v. v.items) w
    here = at-shown k n.entries ∙ ap (option_map (λ v. v.items)) h.1

    go : (bytes_eq k q ≡ true) ⊎ (bytes_eq k q ≡ false)
        → at q (shown n.entries) ≡ put_at k (option_map (λ v. v.items) w) q (at q (shown m.entries))
    go (inl y) = subst (λ l. at l (shown n.entries) ≡ option_map (λ v. v.items) w) ((bytes_decides k q).0 y) here
        ∙ sym (cond-true (bytes_eq k q) _ _ y)
    go (inr other) = at-shown q n.entries
        ∙ ap (option_map (λ v. v.items)) (others _ _ _ _ h.3 _
        (λ x y. nat_list_eq_equiv.congr q x.items y.items) (λ x. apart k q x.items other))
        ∙ sym (at-shown q m.entries) ∙ sym (cond-false (bytes_eq k q) _ _ other)
