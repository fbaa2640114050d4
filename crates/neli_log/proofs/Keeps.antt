-- The number of kept entries.
use Rattle.std.proofs.Common.{ℕ, zero, suc, ◌≡◌, ◌-◌, List, [], ◌∷◌, length, drop, get_or, ◌<◌, Option}
use Rattle.std.proofs.Common.{Some, None}
use Rattle.std.proofs.Common.{refl, arith, ap, sym}
use Rattle.std.specs.Option.{option_map}
use Rattle.neli_log.specs.declared.entry.Entry.{Entry}
use Rattle.neli_log.specs.declared.place.Place.{Place}
use Rattle.neli_log.specs.Routes.{items_for}
use Rattle.neli_log.specs.Places.{BeginsAwaited, rest}

abbrev nothing : (T : Type 0) → List (Entry T)
nothing T = []

pub kept_none : {T : Type 0} (place : Option ℕ → Option Place) (base : ℕ) (es : List (Entry T)) → length es ≡ 0
    → (w : Option ℕ) (ds : List T) → option_map (λ p. items_for w (rest base es p)) (place w) ≡ Some ds → ds ≡ []
kept_none {T} place base (e ∷ es) h w ds is = cc
kept_none {T} place base [] h w ds is = by (place w) is
  where
    dropped : (n : ℕ) → items_for w (drop n (nothing T)) ≡ []
    dropped zero = refl
    dropped (suc n) = refl

    by : (o : Option Place) → option_map (λ p. items_for w (rest base (nothing T) p)) o ≡ Some ds → ds ≡ []
    by None h = cc
    by (Some p) h = let a = dropped (p.from - base) in cc

pub kept_some : {T : Type 0} (place : Option ℕ → Option Place) (base : ℕ) (es : List (Entry T))
    → BeginsAwaited place base es → ((w : Option ℕ) (ds : List T)
    → option_map (λ p. items_for w (rest base es p)) (place w) ≡ Some ds → ds ≡ []) → length es ≡ 0
kept_some place base [] t h = refl
kept_some place base (e ∷ es) t h =
    let k : t.1.from - base ≡ 0 = (let a = t.3 in omega arith) in
    let is : option_map (λ p. items_for t.0 (rest base (e ∷ es) p)) (place t.0) ≡ Some (e.item ∷ items_for t.0 es) =
    rw (t.2, k, t.4) refl in
    let bad = h t.0 (e.item ∷ items_for t.0 es) is in
    cc

pub front_split : {T : Type 0} (xs : List (Entry T)) (x : Entry T) → 0 < length xs → x ≡ get_or xs 0 x
    → (e : Entry T) × (es : List (Entry T)) × (xs ≡ e ∷ es) × (e.route ≡ x.route)
front_split [] x l h = absurd (omega arith)
front_split (e ∷ es) x l h = (e, es, refl, ap (λ y. y.route) (sym h))
