-- What a number gains from pieces, and room for them.
use Rattle.std.proofs.Common.{◌≡◌, ◌+◌, ◌≤◌, ◌<◌, ◌^◌, ℕ, Bool, true, false, List, [], ◌∷◌, ◌++◌, length, Option, Some}
use Rattle.std.proofs.Common.{None, option_map, refl, sym, ap, ◌∙◌, inl, inr, arith, append_assoc, length-append}
use Rattle.std.specs.Prelude.{◌==◌, if◌then◌else◌, nat_eq}
use Rattle.std.specs.List.{All, AllByRecursion, IsDistinct, flat_map}
use Rattle.std.specs.Set.{is_member}
use Rattle.std.proofs.lemmas.Bool.{cases_eq, eq-eqb, eqb-false, ne_eqb}
use Rattle.std.proofs.lemmas.List.{append-nil}
use Rattle.std.proofs.lemmas.List.Elements.{All-head, All-tail}
use Rattle.std.proofs.lemmas.Map.Keys.{IsDistinct-head, IsDistinct-tail}
use Rattle.neli_deliveries.specs.declared.delivery.Delivery.{Delivery}
use Rattle.neli_queues.specs.declared.piece.Piece.{Piece}
use Rattle.neli_queues.specs.Pieces.{HaveRoom, deliveries_for, share}

-- ---- a delivery for each of these numbers

-- the deliveries of them for the number q
abbrev pub copies : Delivery → ℕ → List ℕ → List Delivery
copies d q ks = flat_map (λ k. if k == q then d ∷ [] else []) ks

-- none, if q is not among them
copies-none : (d : Delivery) (q : ℕ) (ks : List ℕ) → AllByRecursion (λ y. nat_eq q y ≡ false) ks → copies d q ks ≡ []
copies-none d q [] n = refl
copies-none d q (y ∷ ys) n = rw (ne_eqb y q (λ e. eqb-false q y n.0 (sym e))) (copies-none d q ys n.1)

-- one, if q is among them and no two are equal
pub copies-one : (d : Delivery) (q : ℕ) (ks : List ℕ) → IsDistinct nat_eq ks → is_member nat_eq ks q ≡ true
    → copies d q ks ≡ d ∷ []
copies-one d q [] u has = cc
copies-one d q (k ∷ ks) u has = elim (cases_eq k q) [
  | inl e ↦ rw (eq-eqb k q e, copies-none d q ks (rw e at (IsDistinct-head nat_eq k ks u))) refl
  | inr n ↦ rw (ne_eqb k q n) (copies-one d q ks (IsDistinct-tail nat_eq k ks u)
      (rw (ne_eqb q k (λ e. n (sym e))) at has))
]

-- ---- room

-- the list of a piece's number has room for n more
abbrev pub HasSpace : (ℕ → Option (List Delivery)) → ℕ → Piece → Type 0
HasSpace at n p = (ds : List Delivery) → at p.number ≡ Some ds → length ds + n < 2 ^ 63

share-le : (q : ℕ) (p : Piece) → length (share q p) ≤ 1
share-le q p = elim (p.number == q) as (λ b. length (if b then p.list
    else []) ≤ 1) [ true ↦ p.single | false ↦ omega arith ]

gain_of-le : (q : ℕ) (ps : List Piece) → length (deliveries_for q ps) ≤ length ps
gain_of-le q [] = omega arith
gain_of-le q (p ∷ ps) = omega (arith, length-append (share q p) (deliveries_for q ps), share-le q p, gain_of-le q ps)

space_for : (at : ℕ → Option (List Delivery)) (n : ℕ) (ps : List Piece) (q : ℕ) (ds : List Delivery)
    → All (HasSpace at n) ps → at q ≡ Some ds → 0 < length (deliveries_for q ps) → length ds + n < 2 ^ 63
space_for at n [] q ds all is some = absurd (omega arith)
space_for at n (p ∷ ps) q ds all is some = elim (cases_eq p.number q) [
  | inl e ↦ All-head (HasSpace at n) p ps all ds (ap at e ∙ is)
  | inr e ↦ space_for at n ps q ds (All-tail (HasSpace at n) p ps all) is (rw (ne_eqb p.number q e) at some)
]

-- each piece is one delivery at most, so each list has room if it has space for as many deliveries as there are pieces
pub HaveRoom-spaces : (at : ℕ → Option (List Delivery)) (ps : List Piece) → All (HasSpace at (length ps)) ps
    → HaveRoom at ps
HaveRoom-spaces at ps all q ds is some = omega (arith, space_for at (length ps) ps q ds all is some, gain_of-le q ps)

-- ---- a piece is moved to its list, and the others remain

-- a piece is appended if it has room
pub appended : (ok : Bool) (ds more new : List Delivery) → new ≡ (if ok then ds ++ more else ds)
    → (length ds + length more < 2 ^ 63 → ok ≡ true)
    → (0 < length more → length ds + length more < 2 ^ 63) → new ≡ ds ++ more
appended true ds more new is fits room = is
appended false ds [] new is fits room = is ∙ sym (append-nil ds)
appended false ds (d ∷ more) new is fits room = let no = fits (room (omega arith)) in cc

-- it has room
pub HaveRoom-first : (at : ℕ → Option (List Delivery)) (p : Piece) (ps : List Piece) → HaveRoom at (p ∷ ps)
    → (ds : List Delivery) → at p.number ≡ Some ds → 0 < length p.list → length ds + length p.list < 2 ^ 63
HaveRoom-first at p ps room ds is some =
    let own : share p.number p ≡ p.list = rw (eq-eqb p.number p.number refl) refl in
    let all : length (deliveries_for p.number (p ∷ ps)) ≡ length p.list + length (deliveries_for p.number ps)
    = length-append (share p.number p) (deliveries_for p.number ps) ∙ rw own refl in
    omega (arith, room p.number ds is (omega arith))

module _ (at new : ℕ → Option (List Delivery)) (p : Piece) (ps : List Piece) (hung : (q : ℕ)
    → new q ≡ option_map (λ ds. ds ++ share q p) (at q)) where
  room_left : HaveRoom at (p ∷ ps) → (q : ℕ) (o : Option (List Delivery)) → at q ≡ o → (ds : List Delivery)
      → option_map (λ ds. ds ++ share q p) o ≡ Some ds → 0 < length (deliveries_for q ps)
      → length ds + length (deliveries_for q ps) < 2 ^ 63
  room_left room q None e ds is some = cc
  room_left room q (Some old) e ds is some =
      let grown : old ++ share q p ≡ ds = cc in
      let all = length-append (share q p) (deliveries_for q ps) in
      let longer = length-append old (share q p) in
      let long = ap length grown in
      omega (arith, room q old e (omega (arith, all)), all, longer, long)

  -- there is room for the others
  pub HaveRoom-left : HaveRoom at (p ∷ ps) → HaveRoom new ps
  HaveRoom-left room q ds is some = room_left room q (at q) refl ds (sym (hung q) ∙ is) some

  hung_more : (q : ℕ) (o : Option (List Delivery))
      → option_map (λ ds. ds ++ deliveries_for q ps) (option_map (λ ds. ds ++ share q p) o)
      ≡ option_map (λ ds. ds ++ (share q p ++ deliveries_for q ps)) o
  hung_more q None = refl
  hung_more q (Some ds) = ap Some (append_assoc ds (share q p) (deliveries_for q ps))

  -- with the others, the lists become those with all
  pub hung-more : (q : ℕ) → option_map (λ ds. ds ++ deliveries_for q ps) (new q)
      ≡ option_map (λ ds. ds ++ deliveries_for q (p ∷ ps)) (at q)
  hung-more q = rw (hung q) (hung_more q (at q))

-- nothing is appended
pub append-none : (o : Option (List Delivery)) → option_map (λ ds. ds ++ []) o ≡ o
append-none None = refl
append-none (Some ds) = ap Some (append-nil ds)
