-- Consecutive steps of a walk.
use Rattle.std.proofs.Common.{◌≡◌, ◌≢◌, ◌<◌, ◌≤◌, ℕ, ◌+◌, ℤ, Bool, false, nat_eq, if◌then◌else◌, List}
use Rattle.std.proofs.Common.{[], ◌∷◌, ◌++◌}
use Rattle.std.proofs.Common.{length, slice_set, drop, take, arith, refl, suc, sym, subst, zero, ap, ◌∙◌}
use Rattle.std.proofs.Common.{length-set}
use Rattle.std.proofs.lemmas.Bool.{eqb-false, ne_eqb}
use Rattle.std.proofs.lemmas.List.{drop-drop, drop-set-lt, take_more_set}
use Rattle.neli_c_parts.specs.declared.message.NeliWalk.{NeliWalk}
use Rattle.neli_c_parts.specs.Codes.{item, room}
use Rattle.neli_c_parts.specs.Several.{GivesEach, several_code}

module _ {A : Type 0} where
  -- a store at a place leaves the room unchanged
  pub within-stored : (xs : List A) (k : ℕ) (a : A) → k < length xs → k + 1 ≤ length (slice_set xs k a)
  within-stored xs k a within = (let same : length (slice_set xs k a) ≡ length xs = length-set xs k a in
      omega (arith, same, within))

  -- and the bytes after it
  pub rest-stored : (xs ys : List A) (k : ℕ) (a : A) → drop k xs ≡ drop k ys
      → drop (k + 1) (slice_set xs k a) ≡ drop (k + 1) ys
  rest-stored xs ys k a same = drop-set-lt (k + 1) xs k a (omega arith) ∙ sym (drop-drop 1 k xs) ∙ ap (drop 1) same
      ∙ drop-drop 1 k ys

-- a list that is not empty has an element
pub some-there : (n m : ℕ) → nat_eq n 0 ≡ false → n ≡ m → 0 < m
some-there zero m isnt same = absurd (eqb-false 0 0 isnt refl)
some-there (suc n) m isnt same = omega (arith, same)

-- if there is room, the code is that of a single call
several-some : (n : ℕ) (code : ℤ) → 0 < n → code ≡ several_code n code
several-some n code some =
    ap (λ (b : Bool). if b then room else code) (sym (ne_eqb n 0
    (λ is. (let none : n ≡ 0 = is in omega (arith, some, none)))))

module _ {A : Type 0} (Step : NeliWalk → NeliWalk → A → Type 0) where
  -- one step more
  each-more : (w u v : NeliWalk) (xs : List A) (a : A) → GivesEach Step w u xs → Step u v a
      → GivesEach Step w v (xs ++ a ∷ [])
  each-more w u v [] a e g = subst (λ (x : NeliWalk). GivesEach Step x v (a ∷ [])) (sym e) (v, g, refl)
  each-more w u v (x ∷ later) a e g = (e.0, e.1, each-more e.0 u v later a e.2 g)

  -- its result is stored at the next place
  pub each-stored : (w u v : NeliWalk) (xs : List A) (k : ℕ) (a : A) → k < length xs → GivesEach Step w u (take k xs)
      → Step u v a
      → GivesEach Step w v (take (k + 1) (slice_set xs k a))
  each-stored w u v xs k a within so g =
      subst (λ (ys : List A). GivesEach Step w v ys) (sym (take_more_set xs k a within))
      (each-more w u v (take k xs) a so g)

  module _ (code_at : NeliWalk → ℤ) where
    -- if there is a first step, its code is that of an item
    first-step : ((w v : NeliWalk) (a : A) → Step w v a → code_at w ≡ item) → (w v : NeliWalk) (xs : List A) (n : ℕ)
        → 0 < n → n ≤ length xs → GivesEach Step w v (take n xs) → code_at w ≡ item
    first-step says w v xs zero some within e = absurd (omega (arith, some))
    first-step says w v [] (suc n) some within e = absurd (omega (arith, within))
    first-step says w v (x ∷ later) (suc n) some within e = says w e.0 x e.1

    pub first-code : ((w v : NeliWalk) (a : A) → Step w v a → code_at w ≡ item)
        → (w v : NeliWalk) (xs : List A) (n most : ℕ) → 0 < n → n ≤ most → length xs ≡ most
        → GivesEach Step w v (take n xs) → item ≡ several_code most (code_at w)
    first-code says w v xs n most some within size e =
        sym (first-step says w v xs n some (omega (arith, within, size)) e)
        ∙ several-some most (code_at w) (omega (arith, some, within))

    -- if no item is returned, the code is that of the first step
    pub none-given : (w v : NeliWalk) (xs : List A) (n most : ℕ) (code : ℤ) → n ≡ 0 → 0 < most
        → GivesEach Step w v (take n xs) → (code ≡ item → n ≡ most) → (code ≢ item → code ≡ code_at v)
        → code ≡ several_code most (code_at w)
    none-given w v xs n most code none some e full stopped =
        let same : w ≡ v = subst (λ (k : ℕ). GivesEach Step w v (take k xs)) none e in
        let code_is : code ≡ code_at v = stopped (λ is. (let all : n ≡ most = full is in
        omega (arith, none, some, all))) in
        code_is ∙ ap code_at (sym same) ∙ several-some most (code_at w) some
